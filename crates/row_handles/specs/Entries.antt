-- What handles show: the rows by rising key, each with its handle.
--     handle_under key entries      the handle of the row under a key, or None where there is none
--     key_with handle entries      the key of the row with a handle, or None where there is none
--     with_row key handle entries      one row more, in its place
--     left_rows gone entries      the rows under none of the keys that are gone
--     moved_rows shifts entries      each under the key to which its row moves
use Rattle.std.{specs.Prelude.{ℕ, ◌<◌, ◌≢◌, ◌==◌, not, nat_lt, List, [], ◌∷◌, Option, Some, None, filter, map, if◌then◌else◌}, specs.List.AllByRecursion}
use Rattle.key_lists.specs.Keys.{is_among}
use Rattle.row_set.specs.Sets.{IsKeySet}
use Rattle.tick_model.{specs.declared.update.ShiftRange.ShiftRange, specs.Shifts.{moved, as_key}}

-- the key of a row, with its handle
pub record Entry : Type 0 where
  pub key : ℕ
  pub handle : ℕ

abbrev pub entry_of : ℕ → ℕ → Entry
entry_of key handle = record { key = key; handle = handle }

abbrev pub keys_of : List Entry → List ℕ
keys_of = map (λ entry. entry.key)

abbrev pub handles_of : List Entry → List ℕ
handles_of = map (λ entry. entry.handle)

abbrev pub handle_under : ℕ → List Entry → Option ℕ
handle_under key [] = None
handle_under key (entry ∷ others) = if entry.key == key then Some entry.handle else handle_under key others

abbrev pub key_with : ℕ → List Entry → Option ℕ
key_with handle [] = None
key_with handle (entry ∷ others) = if entry.handle == handle then Some entry.key else key_with handle others

abbrev pub with_row : ℕ → ℕ → List Entry → List Entry
with_row key handle [] = entry_of key handle ∷ []
with_row key handle (entry ∷ others) = if nat_lt entry.key key then entry ∷ with_row key handle others else entry_of key handle ∷ entry ∷ others

abbrev pub left_rows : List ℕ → List Entry → List Entry
left_rows gone = filter (λ entry. not (is_among entry.key gone))

abbrev pub moved_row : List ShiftRange → Entry → Entry
moved_row shifts entry = entry_of (as_key (moved shifts entry.key)) entry.handle

abbrev pub moved_rows : List ShiftRange → List Entry → List Entry
moved_rows shifts = map (moved_row shifts)

-- each key is below those after it
abbrev pub Ascend : List Entry → Type 0
Ascend [] = Unit {0}
Ascend (entry ∷ others) = AllByRecursion (λ other. entry.key < other.key) others × Ascend others

abbrev pub AreDistinct : List ℕ → Type 0
AreDistinct [] = Unit {0}
AreDistinct (number ∷ numbers) = AllByRecursion (λ other. number ≢ other) numbers × AreDistinct numbers

-- the keys rise, each is below 2 ^ 62, and no two rows have one handle
pub record AreHandled (entries : List Entry) : Type 0 where
  pub keys : IsKeySet (keys_of entries)
  pub handles : AreDistinct (handles_of entries)
