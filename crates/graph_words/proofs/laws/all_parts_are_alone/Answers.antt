use Rattle.graph_words.proofs.Sentences.{is_alone_with_all_parts}
use Rattle.graph_words.proofs.laws.all_parts_are_alone.Goals as goal

pub returns : goal.returns
returns g c = is_alone_with_all_parts _ _
