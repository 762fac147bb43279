use Rattle.std.proofs.Common.{◌≡◌, ◌≢◌, ◌<◌, get_or, ℕ}
use Rattle.tick_model.specs.Tables.{cell}
use Rattle.sort_op.{specs.Ranks.cell_in, proofs.KeptCells.blank}
use Rattle.sort_op.proofs.sort_cells.SortCells.put_row.Given as goal

abbrev pub invariant-loop-place : goal.invariant-loop-place
invariant-loop-place l = record {
  put : (at : ℕ) → at < l.place → cell_in l.self at l.handle ≡ cell l.row (get_or l.by at blank).column;
  others : (at other : ℕ) → other ≢ l.handle → cell_in l.self at other ≡ cell_in l.initial.self at other;
}
