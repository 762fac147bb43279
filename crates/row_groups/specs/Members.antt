-- What an index of groups shows: its rows by rising key, each with its key cells and a number by which rows of a group are ordered.
--     member_of key cells at      a member
--     member_under key members      the member under a key, or None where there is none
--     with_member member members      one member more, in its place
--     left_members gone members      the members under none of the keys that are gone
--     moved_members shifts members      each under the key to which its row moves
--     group_of cells members      the members with these cells, by rising `at`, and by rising key where `at` is the same
--     name_at number names      the key cells of the group with a number, or None where no group has it
--     with_names names groups, groups_of numbered      members with the numbers of their groups, and without
--     IsNumberOf number cells names      it is the number of the group with these key cells, and no other is
--     IsNumberUnder groups key number      it is the number of the group of the member under a key, if there is one
--     IsPart part whole      each group of the part has its number in the whole
--     IsRegrouped member old new      the member was under its key with other cells, and left before it came with its own
use Rattle.std.{specs.Prelude.{ℕ, ◌≡◌, ◌≢◌, ◌==◌, not, nat_lt, int_lt, List, [], ◌∷◌, Option, None, Some, filter, find, length, map, option_map, slice_index_or, ℤ, if◌then◌else◌}, specs.List.AllByRecursion}
use Rattle.key_lists.specs.Keys.{is_among}
use Rattle.row_set.specs.Sets.{IsKeySet}
use Rattle.tick_model.{specs.declared.update.ShiftRange.ShiftRange, specs.Shifts.{moved, as_key}, specs.Tables.same_cells}

-- a row, by its key, its key cells and its place among the rows with the same cells
pub record Member : Type 0 where
  pub key : ℕ
  pub cells : List ℤ
  pub at : ℤ

-- the members, each with this many cells
pub record Grouped : Type 0 where
  pub width : ℕ
  pub members : List Member

abbrev pub member_of : ℕ → List ℤ → ℤ → Member
member_of key cells at = record { key = key; cells = cells; at = at }

abbrev pub keys_of : List Member → List ℕ
keys_of = map (λ member. member.key)

abbrev pub member_under : ℕ → List Member → Option Member
member_under key = find (λ member. member.key == key)

abbrev pub with_member : Member → List Member → List Member
with_member member [] = member ∷ []
with_member member (other ∷ others) = if nat_lt other.key member.key then other ∷ with_member member others else member ∷ other ∷ others

abbrev pub left_members : List ℕ → List Member → List Member
left_members gone = filter (λ member. not (is_among member.key gone))

abbrev pub moved_member : List ShiftRange → Member → Member
moved_member shifts member = record member { key = as_key (moved shifts member.key) }

abbrev pub moved_members : List ShiftRange → List Member → List Member
moved_members shifts = map (moved_member shifts)

-- before those whose `at` is not smaller
abbrev pub placed : Member → List Member → List Member
placed member [] = member ∷ []
placed member (other ∷ others) = if int_lt other.at member.at then other ∷ placed member others else member ∷ other ∷ others

-- members that have the same `at` stay in their order
abbrev pub by_at : List Member → List Member
by_at [] = []
by_at (member ∷ members) = placed member (by_at members)

abbrev pub group_of : List ℤ → List Member → List Member
group_of cells members = by_at (filter (λ member. same_cells cells member.cells) members)

-- the keys rise, each is below 2 ^ 62, and each member has as many cells as all have
pub record AreGrouped (grouped : Grouped) : Type 0 where
  pub keys : IsKeySet (keys_of grouped.members)
  pub cells : AllByRecursion (λ member. length member.cells ≡ grouped.width) grouped.members

-- the key cells of each group, by the number of the group
abbrev pub Names : Type 0
Names = List (Option (List ℤ))

abbrev pub name_at : ℕ → Names → Option (List ℤ)
name_at number names = slice_index_or names number None

-- the members, each with this many cells, and the numbers of their groups
pub record Numbered : Type 0 where
  pub width : ℕ
  pub members : List Member
  pub names : Names

abbrev pub with_names : Names → Grouped → Numbered
with_names names groups = record { width = groups.width; members = groups.members; names = names }

abbrev pub groups_of : Numbered → Grouped
groups_of numbered = record { width = numbered.width; members = numbered.members }

pub record IsNumberOf (number : ℕ) (cells : List ℤ) (names : Names) : Type 0 where
  pub own : name_at number names ≡ Some cells
  pub alone : (other : ℕ) → name_at other names ≡ Some cells → other ≡ number

abbrev pub IsNumberUnder : Numbered → ℕ → ℕ → Type 0
IsNumberUnder groups key number = (cells : List ℤ) → option_map (λ member. member.cells) (member_under key groups.members) ≡ Some cells → IsNumberOf number cells groups.names

-- the groups of the part, each of which has a number there, have it in the whole too, where no group has two
pub record IsPart (part whole : Numbered) : Type 0 where
  pub kept : (number : ℕ) (cells : List ℤ) → name_at number part.names ≡ Some cells → name_at number whole.names ≡ Some cells
  pub named : (cells : List ℤ) → ((number : ℕ) → name_at number part.names ≢ Some cells) → group_of cells part.members ≡ []
  pub alone : (number other : ℕ) (cells : List ℤ) → name_at number whole.names ≡ Some cells → name_at other whole.names ≡ Some cells → number ≡ other

pub record IsRegrouped (member : Member) (old new : Numbered) : Type 0 where
  pub between : Numbered
  pub left : groups_of between ≡ record (groups_of old) { members = left_members (member.key ∷ []) old.members }
  pub fewer : IsPart between old
  pub came : groups_of new ≡ record (groups_of old) { members = with_member member between.members }
  pub more : IsPart between new
