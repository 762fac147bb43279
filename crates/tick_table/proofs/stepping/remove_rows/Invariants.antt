use Rattle.std.proofs.Common.{◌≡◌, ◌+◌, ◌≤◌, ◌++◌, length, slice_range}
use Rattle.std.specs.List.{remove_range}
use Rattle.tick_table.proofs.Edits.{IsTaken}
use Rattle.tick_table.proofs.stepping.remove_rows.Given as goal

abbrev pub invariant-loop-key : goal.invariant-loop-key
invariant-loop-key l = record {
  width : l.placed.width ≡ l.fn.placed.width;
  places : l.places ≡ l.rows;
  within : l.start + l.count ≤ length l.placed.rows;
  taken : IsTaken l.rows l.yielded l.fn.placed.rows (remove_range l.placed.rows l.start (l.start + l.count)) (l.placed.left ++ slice_range l.placed.rows l.start (l.start + l.count));
  saved : l.placed.saved ≡ l.fn.placed.saved;
}
