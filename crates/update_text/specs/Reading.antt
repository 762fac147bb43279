-- Records that are read back.
--     Gives result P      the call gave what P says, unless memory ran out
--     is_end byte      a field ends before a comma and before a line feed
--     next_fields fields rest      fields, each after a comma, up to the end of their record, and what stands behind it
--     has_tag tag bytes      the text begins with a record that this tag begins
--     has_comma bytes      the text begins with a comma
--     AreAhead record_of Fits tag items rest bytes      the text begins with the records of these items and of no more with their tag
--     IsToldRow columns texts row      a row that a record tells
--     AreTold columns texts added modified change      a change whose added and modified rows are these
--     IsConsistent update      the parts of an update that belong together
--     is_run run, run_keys run      a run of keys, and the keys of it
use Rattle.std.{specs.Prelude.{◌≡◌, ℕ, ◌^◌, ◌<◌, ◌≤◌, ◌==◌, ◌&&◌, ◌||◌, Bool, true, false, List, [], ◌∷◌, ◌++◌, length, map, flat_map, Result, MatchResult, ℤ, FitsSigned}, specs.Int.w64, specs.List.AllByRecursion}
use Rattle.key_lists.specs.Keys.{is_among, IsRising}
use Rattle.row_set.specs.Ranges.{keys_from}
use Rattle.tick_model.{specs.declared.plan.ColumnSpec.ColumnSpec, specs.declared.table.PlainRow.PlainRow, specs.Changes.{Change, is_none}, specs.Printable.fit_columns, specs.Tables.keys, specs.Texts.{comma_before, records_text}, specs.Updates.Update}
use Rattle.update_text.{specs.declared.printed.PrintedFault.PrintedFault, specs.declared.printed.PrintedFault.TheVariants.Memory}

abbrev pub Gives : {T : Type 0} → Result T PrintedFault → (T → Type 0) → Type 0
Gives result P = MatchResult result P (λ fault. fault ≡ Memory)

abbrev pub is_end : ℕ → Bool
is_end byte = (byte == 44) || (byte == 10)

-- whether a field may end before this text
abbrev pub begins_with_end : List ℕ → Bool
begins_with_end [] = false
begins_with_end (byte ∷ bytes) = is_end byte

abbrev pub next_fields : List (List ℕ) → List ℕ → List ℕ
next_fields fields rest = flat_map comma_before fields ++ 10 ∷ rest

abbrev pub has_tag : ℕ → List ℕ → Bool
has_tag tag [] = false
has_tag tag (first ∷ []) = false
has_tag tag (first ∷ second ∷ others) = (first == tag) && (second == 44)

pub record AreAhead {X : Type 0} (record_of : X → List (List ℕ)) (Fits : X → Type 0) (tag : ℕ) (items : List X) (rest bytes : List ℕ) : Type 0 where
  pub fit : AllByRecursion Fits items
  pub told : bytes ≡ records_text (map record_of items) ++ rest
  pub ends : has_tag tag rest ≡ false

-- its key is one, and its cells are those of the columns
pub record IsToldRow (columns : List ColumnSpec) (texts : List (List ℕ)) (row : PlainRow) : Type 0 where
  pub key : row.key < 2 ^ 62
  pub numbers : AllByRecursion (FitsSigned w64) row.cells
  pub fit : fit_columns (length texts) columns row.cells ≡ true

abbrev pub is_run : (ℕ × ℕ) → Type 0
is_run run = (run.0 ≤ run.1) × (run.1 < 2 ^ 62)

abbrev pub run_keys : (ℕ × ℕ) → List ℕ
run_keys run = keys_from run.0 run.1

-- whether the text begins with a comma
abbrev pub has_comma : List ℕ → Bool
has_comma [] = false
has_comma (byte ∷ bytes) = byte == 44

abbrev pub cells_of : List PlainRow → List ℤ
cells_of = flat_map (λ row. row.cells)

-- rows whose keys and cells an update tells, and columns that are there
pub record AreTold (columns : List ColumnSpec) (texts : List (List ℕ)) (added modified : List PlainRow) (change : Change) : Type 0 where
  pub added_keys : change.update.added ≡ keys added
  pub modified_keys : change.update.modified ≡ keys modified
  pub cells : change.cells ≡ cells_of added ++ cells_of modified
  pub added_rows : AllByRecursion (IsToldRow columns texts) added
  pub modified_rows : AllByRecursion (IsToldRow columns texts) modified
  pub columns_rise : IsRising change.update.columns
  pub columns_there : AllByRecursion (λ column. column < length columns) change.update.columns

-- no row is both added and modified, and columns are told where rows are modified
abbrev pub IsConsistent : Update → Type 0
IsConsistent update = AllByRecursion (λ key. is_among key update.added ≡ false) update.modified × (is_none update.columns ≡ is_none update.modified)
