use Rattle.std.proofs.Common.{◌≡◌, ℕ, ◌&&◌, ◌||◌, not}
use Rattle.std.{specs.Prelude.nat_lt, specs.Ordering.int_eq}
use Rattle.key_lists.specs.Keys.{is_among, IsRising}
use Rattle.tick_model.specs.Tables.{cell}
use Rattle.row_changes.proofs.told.with_differing.Given as goal

abbrev pub invariant-loop-column : goal.invariant-loop-column
invariant-loop-column l = record {
  rising : IsRising l.columns;
  columns : (column : ℕ) → is_among column l.columns ≡ (is_among column l.fn.columns || (nat_lt column l.column && not (int_eq (cell l.before column) (cell l.now column))));
}
