-- The rows that a step touches.
--     cells_under table keys      the cells of the rows under these keys, one row after the other
--     AreThere table keys      each of the keys is that of a row of the table
--     tick_along old new kept      the tick from one table to another along the pairs of the rows that stay
--     AreCompared old new kept before now      the rows that stay and have one of these keys before, and the one at its place now, are all that may differ
--     AreParts old new parts kept      these are the parts of the change from one table to the other
use Rattle.std.{specs.Prelude.{◌≡◌, ℕ, false, List, filter, flat_map, length, IsTrue, ℤ}, specs.List.AllByRecursion}
use Rattle.key_lists.specs.Keys.{is_among}
use Rattle.shift_data.specs.Moves.{pairs_of}
use Rattle.tick_model.{specs.declared.table.PlainTable.PlainTable, specs.declared.update.KeyPair.KeyPair, specs.declared.update.ShiftRange.ShiftRange, specs.Tables.{cells_at, keys}, specs.Updates.{Tick, IsTick, between, differs}}

-- the keys of the rows that go and of those that come, the ranges of those that move, and the keys before and now of those that stay and may differ
pub record Parts : Type 0 where
  pub removed : List ℕ
  pub added : List ℕ
  pub shifted : List ShiftRange
  pub compared_before : List ℕ
  pub compared_now : List ℕ

abbrev pub cells_under : PlainTable → List ℕ → List ℤ
cells_under table = flat_map (λ key. cells_at key table.rows)

abbrev pub AreThere : PlainTable → List ℕ → Type 0
AreThere table = AllByRecursion (λ key. IsTrue (is_among key (keys table.rows)))

abbrev pub tick_along : PlainTable → PlainTable → List KeyPair → Tick
tick_along old new kept = record { old = old; new = new; kept = kept }

pub record AreCompared (old new : PlainTable) (kept : List KeyPair) (before now : List ℕ) : Type 0 where
  pub even : length before ≡ length now
  pub compared : pairs_of before now ≡ filter (λ pair. is_among pair.new now) kept
  pub others : AllByRecursion (λ pair. is_among pair.new now ≡ false → differs old new pair ≡ false) kept

pub record AreParts (old new : PlainTable) (parts : Parts) (kept : List KeyPair) : Type 0 where
  pub tick : IsTick (tick_along old new kept)
  pub removed : parts.removed ≡ (between (tick_along old new kept)).removed
  pub added : parts.added ≡ (between (tick_along old new kept)).added
  pub shifted : parts.shifted ≡ (between (tick_along old new kept)).shifted
  pub compared : AreCompared old new kept parts.compared_before parts.compared_now
