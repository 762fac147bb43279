use Rattle.graph_words.proofs.Sentences.{is_ticketed_once}
use Rattle.graph_words.proofs.laws.tickets_are_drawn_once.Goals as goal

pub returns : goal.returns
returns g c = is_ticketed_once _ _
