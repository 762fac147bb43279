use Rattle.graph_words.proofs.Sentences.{works_lie}
use Rattle.graph_words.proofs.laws.works_lie_in_slots.Goals as goal

pub returns : goal.returns
returns g c = works_lie _ _
