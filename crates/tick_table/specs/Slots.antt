-- Slots of cells, one after the other.
--     slot_cells width cells slot      the cells of one slot
--     slot_list width count cells      the cells of each of the first slots
--     AreSlots count slots      they are numbers of the first slots
--     IsFilled row old new slot      a slot that was free, or else a new one, has the cells of the row
use Rattle.std.{specs.Prelude.{◌≡◌, ℕ, ◌*◌, ◌<◌, ◌≤◌, ◌⊎◌, List, [], ◌∷◌, ◌++◌, length, map, take, drop, ℤ, slice_index_or}, specs.List.{AllByRecursion, range_with_len}}

-- the cells of each slot, and the slots that are free
pub record SlotCells : Type 0 where
  pub width : ℕ
  pub rows : List (List ℤ)
  pub free : List ℕ

abbrev pub slot_cells : ℕ → List ℤ → ℕ → List ℤ
slot_cells width cells slot = take width (drop (slot * width) cells)

abbrev pub slot_list : ℕ → ℕ → List ℤ → List (List ℤ)
slot_list width count cells = map (slot_cells width cells) (range_with_len 0 count)

abbrev pub AreSlots : ℕ → List ℕ → Type 0
AreSlots count = AllByRecursion (λ slot. slot < count)

-- what the slots keep to
pub record IsSlotList (width count : ℕ) (cells : List ℤ) (vacant : List ℕ) : Type 0 where
  pub wide : 1 ≤ width
  pub whole : length cells ≡ count * width
  pub free : AreSlots count vacant

pub record IsFilled (row : List ℤ) (old new : SlotCells) (slot : ℕ) : Type 0 where
  pub width : new.width ≡ old.width
  pub more : length old.rows ≤ length new.rows
  pub inside : slot < length new.rows
  pub here : slice_index_or new.rows slot [] ≡ row
  pub others : (other : ℕ) → other < length old.rows → (other ≡ slot → ⊥) → slice_index_or new.rows other [] ≡ slice_index_or old.rows other []
  pub source : (old.free ≡ new.free ++ slot ∷ []) ⊎ ((new.free ≡ old.free) × (slot ≡ length old.rows))
