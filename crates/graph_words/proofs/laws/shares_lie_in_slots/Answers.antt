use Rattle.graph_words.proofs.Sentences.{shares_lie}
use Rattle.graph_words.proofs.laws.shares_lie_in_slots.Goals as goal

pub returns : goal.returns
returns g c = shares_lie _ _
