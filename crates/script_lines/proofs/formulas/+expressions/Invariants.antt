use Rattle.std.proofs.Common.{◌+◌, ◌*◌, ◌^◌}
use Rattle.script_lines.proofs.formulas.+expressions.Given as goal

abbrev pub decreases-product : goal.decreases-product
decreases-product l = l.depth * 2 ^ 70 + l.most + 1

abbrev pub decreases-term : goal.decreases-term
decreases-term l = l.depth * 2 ^ 70 + 2 ^ 65

abbrev pub decreases-sum : goal.decreases-sum
decreases-sum l = l.depth * 2 ^ 70 + 2 ^ 65 + l.most + 1

abbrev pub decreases-whole_sum : goal.decreases-whole_sum
decreases-whole_sum l = l.depth * 2 ^ 70 + 2 ^ 67

abbrev pub decreases-factor : goal.decreases-factor
decreases-factor l = l.depth * 2 ^ 70
