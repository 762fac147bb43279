-- What is known of the old rows of a sort where the order is the one now.
--     Stays old new shifted position      the row at a position moves to one that has the same cells
--     IsReady by order input touched keys shifted      the order has the rows now; the keys are those at the touched positions before the step; and each other row stays
use Rattle.std.specs.Prelude.{◌≡◌, ℕ, ◌<◌, ◌^◌, false, List, IsTrue}
use Rattle.key_lists.specs.Keys.{IsRising, is_among}
use Rattle.tick_model.{specs.declared.plan.SortBy.SortBy, specs.declared.table.PlainTable.PlainTable, specs.declared.update.ShiftRange.ShiftRange, specs.Rules.is_past, specs.Shifts.{as_key, moved}, specs.Sort.sort_table, specs.Tables.{cells_at, keys}}
use Rattle.tick_table.specs.Ticking.{Ticking}
use Rattle.sort_op.{specs.declared.entry.Entry.Entry, specs.Places.keys_at, specs.Sorted.entries_of}

pub record Stays (old new : PlainTable) (shifted : List ShiftRange) (position : ℕ) : Type 0 where
  pub small : position < 2 ^ 62
  pub inside : is_past (2 ^ 62) (moved shifted position) ≡ false
  pub here : IsTrue (is_among (as_key (moved shifted position)) (keys new.rows))
  pub same : cells_at position old.rows ≡ cells_at (as_key (moved shifted position)) new.rows

pub record IsReady (by : List SortBy) (order : List Entry) (input : Ticking) (touched keys_touched : List ℕ) (shifted : List ShiftRange) : Type 0 where
  pub order_now : order ≡ entries_of by input.new.rows
  pub keys_before : keys_touched ≡ keys_at (entries_of by input.old.rows) touched
  pub rising_before : IsRising (keys input.old.rows)
  pub rising_now : IsRising (keys input.new.rows)
  pub others : (position : ℕ) → IsTrue (is_among position (keys (sort_table by input.old).rows)) → is_among position touched ≡ false → Stays (sort_table by input.old) (sort_table by input.new) shifted position
