-- What a column shows: entries that rise by key.
--     cell_under key entries      the cell under the key, or None where there is none
--     put key cell entries      the entries with this cell under the key
--     left_entries dropped entries      those under none of the dropped keys
--     moved_entries shifts entries      each under the key to which its row moves
--     paired keys cells      the entries of these cells under these keys, one by one
use Rattle.std.{specs.Prelude.{ℕ, ◌^◌, ◌<◌, ◌==◌, not, nat_lt, List, [], ◌∷◌, Option, Some, None, filter, map, ℤ, if◌then◌else◌}, specs.List.AllByRecursion}
use Rattle.key_lists.specs.Keys.{is_among, IsRising}
use Rattle.tick_model.{specs.declared.update.ShiftRange.ShiftRange, specs.Shifts.{moved, as_key}}

-- the key of a row, with its cell
pub record Entry : Type 0 where
  pub key : ℕ
  pub cell : ℤ

-- the rows as they are, and as they were when the step began
pub record Cells : Type 0 where
  pub now : List Entry
  pub before : List Entry

abbrev pub keys_of : List Entry → List ℕ
keys_of = map (λ entry. entry.key)

abbrev pub cell_under : ℕ → List Entry → Option ℤ
cell_under key [] = None
cell_under key (entry ∷ others) = if entry.key == key then Some entry.cell else cell_under key others

abbrev pub entry_of : ℕ → ℤ → Entry
entry_of key cell = record { key = key; cell = cell }

abbrev pub put : ℕ → ℤ → List Entry → List Entry
put key cell [] = entry_of key cell ∷ []
put key cell (entry ∷ others) =
    if nat_lt entry.key key then entry ∷ put key cell others
    else (if entry.key == key then entry_of key cell ∷ others else entry_of key cell ∷ entry ∷ others)

abbrev pub left_entries : List ℕ → List Entry → List Entry
left_entries dropped = filter (λ entry. not (is_among entry.key dropped))

abbrev pub moved_entry : List ShiftRange → Entry → Entry
moved_entry shifts entry = entry_of (as_key (moved shifts entry.key)) entry.cell

abbrev pub moved_entries : List ShiftRange → List Entry → List Entry
moved_entries shifts = map (moved_entry shifts)

abbrev pub paired : List ℕ → List ℤ → List Entry
paired [] cells = []
paired (key ∷ keys) [] = []
paired (key ∷ keys) (cell ∷ cells) = entry_of key cell ∷ paired keys cells

-- the entries rise, and each key is below 2 ^ 62
pub record IsEntryList (entries : List Entry) : Type 0 where
  pub rises : IsRising (keys_of entries)
  pub small : AllByRecursion (λ entry. entry.key < 2 ^ 62) entries
