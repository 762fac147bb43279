use Rattle.graph_words.proofs.Sentences.{is_shared_in_parts}
use Rattle.graph_words.proofs.laws.parts_stay_together.Goals as goal

pub returns-clause-all : goal.returns-clause-all
returns-clause-all g c = λ plan s kept. kept.parts

pub returns-clause-each : goal.returns-clause-each
returns-clause-each g c = is_shared_in_parts _ _
