-- Lists of rows of a group.
--     key_in entries handle      the key of the row with a handle
--     is_before entries table at key slot      whether a row stands before a place
--     slots_with entries table at key slot slots      one row more, at a place
--     slots_without entries table at key slots      the rows without the one at a place
--     handle_from entries table at key slots      the handle of the row at a place, or None where there is none
use Rattle.std.{specs.Prelude.{ℕ, ◌^◌, ◌<◌, ◌≡◌, ◌&&◌, ◌||◌, Bool, true, false, nat_lt, int_lt, List, [], ◌∷◌, Option, None, Some, length, unwrap_or, IsSome, ℤ, if◌then◌else◌}, specs.List.AllByRecursion, specs.Ordering.int_eq}
use Rattle.chunk_list.specs.Chunked.{joined}
use Rattle.row_handles.specs.Entries.{Entry, AreHandled, key_with}
use Rattle.row_groups.{specs.declared.place.GroupRow.GroupRow, specs.declared.table.Table.Table, specs.Members.{Member, member_of}, specs.Kept.at_in}

abbrev pub key_in : List Entry → ℕ → ℕ
key_in entries handle = unwrap_or (key_with handle entries) 0

abbrev pub AreKnown : List Entry → List GroupRow → Type 0
AreKnown entries = AllByRecursion (λ slot. IsSome (key_with slot.handle entries))

abbrev pub is_before : List Entry → Table → ℤ → ℕ → GroupRow → Bool
is_before entries table at key slot = int_lt (at_in table slot.handle) at || int_eq (at_in table slot.handle) at && nat_lt (key_in entries slot.handle) key

abbrev pub slots_with : List Entry → Table → ℤ → ℕ → GroupRow → List GroupRow → List GroupRow
slots_with entries table at key slot [] = slot ∷ []
slots_with entries table at key slot (other ∷ others) =
    if is_before entries table at key other then other ∷ slots_with entries table at key slot others else slot ∷ other ∷ others

abbrev pub slots_without : List Entry → Table → ℤ → ℕ → List GroupRow → List GroupRow
slots_without entries table at key [] = []
slots_without entries table at key (other ∷ others) = if is_before entries table at key other then other ∷ slots_without entries table at key others else others

abbrev pub handle_from : List Entry → Table → ℤ → ℕ → List GroupRow → Option ℕ
handle_from entries table at key [] = None
handle_from entries table at key (slot ∷ slots) = if is_before entries table at key slot then handle_from entries table at key slots else Some slot.handle

-- what passes comes first
abbrev pub IsParted : {X : Type 0} → (X → Bool) → List X → Type 0
IsParted p [] = Unit {0}
IsParted p (x ∷ xs) = (p x ≡ false → AllByRecursion (λ y. p y ≡ false) xs) × IsParted p xs

-- each row stands before the places of those after it
abbrev pub AreRanked : List Entry → Table → List GroupRow → Type 0
AreRanked entries table [] = Unit {0}
AreRanked entries table (slot ∷ slots) =
    AllByRecursion (λ other. is_before entries table (at_in table other.handle) (key_in entries other.handle) slot ≡ true) slots × AreRanked entries table slots

-- the rows are counted
pub record IsCounted (len : ℕ) (chunks : List (List GroupRow)) : Type 0 where
  pub counted : len ≡ length (joined chunks)
  pub fits : len < 2 ^ 64

-- the rows of a group, whose keys are among the entries
pub record IsGroup (entries : List Entry) (table : Table) (slots : List GroupRow) : Type 0 where
  pub handled : AreHandled entries
  pub known : AreKnown entries slots
  pub ranked : AreRanked entries table slots

abbrev pub member_at : List Entry → Table → List ℤ → GroupRow → Member
member_at entries table cells slot = member_of (key_in entries slot.handle) cells (at_in table slot.handle)
