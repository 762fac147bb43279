use Rattle.graph_words.proofs.Claiming.{late_by_from, marked_by_from, marked_by_to}
use Rattle.graph_words.proofs.laws.marks_go_with_nodes.Goals as goal

pub returns-clause-from : goal.returns-clause-from
returns-clause-from g c = marked_by_from _ _

pub returns-clause-late : goal.returns-clause-late
returns-clause-late g c = late_by_from _ _

pub returns-clause-to : goal.returns-clause-to
returns-clause-to g c = marked_by_to _ _
