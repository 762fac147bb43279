use Rattle.graph_words.proofs.Sentences.{is_had_after_inputs}
use Rattle.graph_words.proofs.laws.nodes_are_had_after_inputs.Goals as goal

pub returns : goal.returns
returns g c = is_had_after_inputs _ _
