use Rattle.graph_words.proofs.Sentences.{is_had_once}
use Rattle.graph_words.proofs.laws.nodes_are_had_once.Goals as goal

pub returns : goal.returns
returns g c = is_had_once _ _
