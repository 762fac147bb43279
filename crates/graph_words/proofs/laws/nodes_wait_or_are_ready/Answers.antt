use Rattle.graph_words.proofs.Sentences.{is_in_one_state}
use Rattle.graph_words.proofs.laws.nodes_wait_or_are_ready.Goals as goal

pub returns : goal.returns
returns g c = is_in_one_state _ _
