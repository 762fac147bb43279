use Rattle.std.proofs.Common.{◌≡◌, ℕ, ◌+◌, ◌*◌, ◌≤◌, ◌++◌, ◌&&◌, filter, length}
use Rattle.std.{specs.List.list_any, specs.Prelude.nat_lt}
use Rattle.key_lists.specs.Keys.{IsRising, is_among}
use Rattle.row_changes.specs.Parts.{cells_under}
use Rattle.shown_rows.specs.Shown.{stays}
use Rattle.tick_model.specs.Updates.{differs_in, new_keys}
use Rattle.shown_rows.proofs.staying.tell_staying.Given as goal

abbrev pub invariant-loop-pair : goal.invariant-loop-pair
invariant-loop-pair g l = record {
  place : l.place ≡ length l.yielded;
  modified : l.told.modified ≡ new_keys (filter (stays l.shown l.leaving) l.yielded);
  columns : (column : ℕ) → is_among column l.told.columns ≡ (nat_lt column l.input.new.width && list_any (differs_in l.input.old l.input.new column) (filter (stays l.shown l.leaving) l.yielded));
  rising : IsRising l.told.columns;
  cells : l.told.cells.items ≡ l.fn.cells.items ++ cells_under l.input.new l.told.modified;
  reads : l.reads ≤ l.fn.reads + l.input.new.width * (2 * l.place);
}
