use Rattle.graph_words.proofs.Sentences.{is_ticketed_in_order}
use Rattle.graph_words.proofs.laws.tickets_follow_late_edges.Goals as goal

pub returns : goal.returns
returns g c = is_ticketed_in_order _ _
