use Rattle.std.proofs.Common.{◌≡◌, ◌-◌, length, suc, List, ℤ}
use Rattle.row_groups.specs.Rows.{number_under}
use Rattle.row_groups.proofs.numbers.GroupNumbers.reach.Given as goal

abbrev pub invariant-loop-self : goal.invariant-loop-self
invariant-loop-self l = (other : List ℤ) → number_under other l.self ≡ number_under other l.fn.self

abbrev pub decreases-loop-self : goal.decreases-loop-self
decreases-loop-self l = suc l.cell - length l.self.by_cell.items
