use Rattle.std.proofs.Common.{◌+◌, ◌*◌, ◌^◌}
use Rattle.script_lines.proofs.predicates.+predicates.Given as goal

abbrev pub decreases-both : goal.decreases-both
decreases-both l = l.depth * 2 ^ 70 + l.most + 1

abbrev pub decreases-conjunction : goal.decreases-conjunction
decreases-conjunction l = l.depth * 2 ^ 70 + 2 ^ 65

abbrev pub decreases-either : goal.decreases-either
decreases-either l = l.depth * 2 ^ 70 + 2 ^ 65 + l.most + 1

abbrev pub decreases-disjunction : goal.decreases-disjunction
decreases-disjunction l = l.depth * 2 ^ 70 + 2 ^ 67

abbrev pub decreases-fact : goal.decreases-fact
decreases-fact l = l.depth * 2 ^ 70
