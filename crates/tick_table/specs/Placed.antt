-- Rows by position, each in a slot.
--     cells_of rows slots      the cells of these slots
--     uses slot slots      how often a slot stands in a list
--     AreOwn slots places left      no slot has two rows, and a free one has none
--     AreFilled rows old new slots places left      these slots had no row, have the cells of these rows now, and the others have those that they had
--     paired keys rows      the rows of these cells under these keys, one key by one
--     put_rows rows others      the others, with these rows put among them, one after the other
--     stayed update rows      the rows that an update does not remove, where it moves them
--     stepped update told rows      the rows after an update, where these are told
use Rattle.std.{specs.Prelude.{◌≡◌, ℕ, ◌+◌, ◌≤◌, ◌==◌, List, [], ◌∷◌, ◌++◌, length, map, nat_lt, if◌then◌else◌, ℤ, slice_index_or}, specs.List.sum_by}
use Rattle.tick_model.{specs.declared.table.PlainRow.PlainRow, specs.Updates.{Update, removing, shifting}}
use Rattle.tick_table.specs.Slots.{AreSlots, SlotCells}

-- what contracts see of rows by position: their cells, those of the rows that the step took out, and those that it replaced
pub record Placed : Type 0 where
  pub width : ℕ
  pub rows : List (List ℤ)
  pub left : List (List ℤ)
  pub saved : List ℤ

abbrev pub cells_of : List (List ℤ) → List ℕ → List (List ℤ)
cells_of rows = map (λ slot. slice_index_or rows slot [])

abbrev pub uses : ℕ → List ℕ → ℕ
uses slot = sum_by (λ other. if other == slot then 1 else 0)

pub record AreOwn (slots : SlotCells) (places left : List ℕ) : Type 0 where
  pub place_slots : AreSlots (length slots.rows) places
  pub left_slots : AreSlots (length slots.rows) left
  pub free_slots : AreSlots (length slots.rows) slots.free
  pub once : (slot : ℕ) → uses slot slots.free + uses slot left + uses slot places ≤ 1

pub record AreFilled (rows : List (List ℤ)) (old new : SlotCells) (slots places left : List ℕ) : Type 0 where
  pub own : AreOwn new (places ++ slots) left
  pub cells : cells_of new.rows (places ++ slots) ≡ cells_of old.rows places ++ rows
  pub others : cells_of new.rows left ≡ cells_of old.rows left

abbrev pub paired : List ℕ → List (List ℤ) → List PlainRow
paired [] rows = []
paired (key ∷ keys) [] = []
paired (key ∷ keys) (row ∷ rows) = (record { key = key; cells = row }) ∷ paired keys rows

-- the row among others by key, in place of one under its key
abbrev pub put_row : PlainRow → List PlainRow → List PlainRow
put_row row [] = row ∷ []
put_row row (other ∷ others) =
    if nat_lt other.key row.key then other ∷ put_row row others
    else (if other.key == row.key then row ∷ others else row ∷ other ∷ others)

abbrev pub put_rows : List PlainRow → List PlainRow → List PlainRow
put_rows [] others = others
put_rows (row ∷ rows) others = put_rows rows (put_row row others)

abbrev pub stayed : Update → List PlainRow → List PlainRow
stayed update rows = shifting update.shifted (removing update.removed rows)

abbrev pub stepped : Update → List PlainRow → List PlainRow → List PlainRow
stepped update told rows = put_rows told (stayed update rows)
