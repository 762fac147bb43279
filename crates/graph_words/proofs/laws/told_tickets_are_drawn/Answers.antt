use Rattle.graph_words.proofs.Sentences.{is_told_truly}
use Rattle.graph_words.proofs.laws.told_tickets_are_drawn.Goals as goal

pub returns : goal.returns
returns g c = is_told_truly _ _
