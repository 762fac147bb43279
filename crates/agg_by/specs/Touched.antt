-- The numbers of the groups that a step touches.
--     AreMarks numbers marks      the marks are those of these numbers
--     with_number number numbers      one number more, if it is not there
--     is_named cells names number      whether the group with a number has some of these key cells
--     starts_numbered rows first number      whether the group with a number has its first row under a key
--     AreLed rows led      each of these groups has its number, and its first row under its key
--     AreLeaving leaving by rows input      the numbers of the groups that the removed and the modified rows have before a step, and whether all modified rows stay in theirs
--     HaveNoted rows before numbers cells      besides the numbers of before they are those of the groups that have these key cells, and so are their first rows
--     AreNoted old new before numbers stays came      the groups with some key cells keep their numbers, and besides the numbers of before these are those of the groups with others, each of which has one
use Rattle.std.{specs.Prelude.{ℕ, ◌≡◌, ◌||◌, Bool, true, false, List, [], ◌∷◌, ◌++◌, Some, slice_index_or, ℤ, if◌then◌else◌}, specs.List.{AllByRecursion, AllZip, list_any}, specs.Option.option_map_or}
use Rattle.agg_by.{specs.declared.firsts.LedGroup.LedGroup, specs.declared.moving.Leaving.Leaving, specs.Steps.{keeps_groups, starts}}
use Rattle.key_lists.specs.Keys.{is_among}
use Rattle.row_groups.specs.Members.{IsNumberUnder, Names, Numbered, name_at}
use Rattle.table_update.specs.Kept.{old_modified}
use Rattle.tick_model.specs.Tables.{keys, same_cells}
use Rattle.tick_table.specs.Ticking.{Ticking}

abbrev pub AreMarks : List ℕ → List Bool → Type 0
AreMarks numbers marks = (number : ℕ) → slice_index_or marks number false ≡ is_among number numbers

abbrev pub with_number : ℕ → List ℕ → List ℕ
with_number number numbers = if is_among number numbers then numbers else numbers ++ number ∷ []

abbrev pub is_named : List (List ℤ) → Names → ℕ → Bool
is_named cells names number = option_map_or (λ own. list_any (same_cells own) cells) (name_at number names) false

abbrev pub starts_numbered : Numbered → ℕ → ℕ → Bool
starts_numbered rows first number = option_map_or (starts rows.members first) (name_at number rows.names) false

abbrev pub AreLed : Numbered → List LedGroup → Type 0
AreLed rows = AllByRecursion (λ group. starts_numbered rows group.first group.number ≡ true)

pub record AreLeaving (leaving : Leaving) (by : List ℕ) (rows : Numbered) (input : Ticking) : Type 0 where
  pub removed : AllZip (IsNumberUnder rows) input.update.removed leaving.removed.items
  pub modified : AllZip (IsNumberUnder rows) (old_modified (keys input.old.rows) input.update) leaving.modified.items
  pub stay : leaving.stay ≡ keeps_groups by input

pub record HaveNoted (rows : Numbered) (before numbers : List ℕ) (cells : List (List ℤ)) : Type 0 where
  pub named : (number : ℕ) → is_among number numbers ≡ (is_among number before || is_named cells rows.names number)
  pub firsts : (first : ℕ) → list_any (starts_numbered rows first) numbers ≡ (list_any (starts_numbered rows first) before || list_any (starts rows.members first) cells)

pub record AreNoted (old new : Names) (before numbers : List ℕ) (stays came : List (List ℤ)) : Type 0 where
  pub kept : (number : ℕ) → is_among number before ≡ true → is_among number numbers ≡ true
  pub own : (number : ℕ) → is_among number numbers ≡ true → (is_among number before || is_named came new number) ≡ true
  pub found : AllByRecursion (λ own. (number : ℕ) × ((is_among number numbers ≡ true) × (name_at number new ≡ Some own))) came
  pub same : AllByRecursion (λ own. (number : ℕ) × ((name_at number old ≡ Some own) × (name_at number new ≡ Some own))) stays
  pub alone : (number other : ℕ) (cells : List ℤ) → name_at number new ≡ Some cells → name_at other new ≡ Some cells → number ≡ other
