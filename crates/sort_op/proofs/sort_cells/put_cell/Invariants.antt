use Rattle.std.proofs.Common.{◌≡◌, ◌-◌, suc, vec_len, ℕ}
use Rattle.tick_model.specs.Tables.{cell}
use Rattle.sort_op.proofs.sort_cells.put_cell.Given as goal

abbrev pub invariant-loop-column : goal.invariant-loop-column
invariant-loop-column l = (other : ℕ) → cell l.column.items other ≡ cell l.initial.column.items other

abbrev pub decreases-loop-column : goal.decreases-loop-column
decreases-loop-column l = suc l.handle - vec_len l.column
