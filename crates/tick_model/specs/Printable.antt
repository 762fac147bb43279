-- The changes that can be printed.
--     IsShift shifts      ranges that ascend, are disjoint, and move their rows
--     IsPrintable columns texts change      a change of a table with these columns whose text tells it
use Rattle.std.{specs.Prelude.{◌≡◌, ℕ, ◌-◌, ◌*◌, ◌^◌, ◌<◌, ◌≤◌, ◌&&◌, ◌||◌, Bool, true, false, List, [], ◌∷◌, ◌++◌, length, ℤ, pos, negsuc, ◌<ℤ◌, nat_lt, FitsSigned}, specs.List.AllByRecursion, specs.Int.w64, specs.Ordering.int_eq}
use Rattle.key_lists.specs.Keys.{is_among, IsRising}
use Rattle.tick_model.{specs.declared.plan.ColumnSpec.ColumnSpec, specs.declared.plan.Kind.Kind, specs.declared.plan.Kind.TheVariants.{Long, Text}, specs.declared.update.ShiftRange.ShiftRange, specs.Tables.is_null, specs.Changes.{Change, rows_under, told_keys, is_none}}

abbrev pub IsShift : List ShiftRange → Type 0
IsShift [] = Unit {0}
IsShift (range ∷ ranges) = (range.begin ≤ range.end) × (int_eq range.delta (pos 0) ≡ false) × AllByRecursion (λ next. range.end < next.begin) ranges × IsShift ranges

-- the ends are keys, and a row moves by less than there are keys
pub record IsShiftRange (limit : ℕ) (range : ShiftRange) : Type 0 where
  pub begin : range.begin < limit
  pub end : range.end < limit
  pub up : range.delta <ℤ pos limit
  pub down : negsuc (limit - 1) <ℤ range.delta

-- a cell of a column is a number of 64 bits; that of a text column is null or the number of a text
abbrev pub names_text : ℕ → ℤ → Bool
names_text texts (pos n) = nat_lt n texts
names_text texts (negsuc n) = false

abbrev pub fits_kind : ℕ → Kind → ℤ → Bool
fits_kind texts Long cell = true
fits_kind texts Text cell = is_null cell || names_text texts cell

-- the cells are one for each column, and each is of its column
abbrev pub fit_columns : ℕ → List ColumnSpec → List ℤ → Bool
fit_columns texts [] [] = true
fit_columns texts [] (cell ∷ cells) = false
fit_columns texts (column ∷ columns) [] = false
fit_columns texts (column ∷ columns) (cell ∷ cells) = fits_kind texts column.kind cell && fit_columns texts columns cells

pub record IsPrintable (columns : List ColumnSpec) (texts : List (List ℕ)) (change : Change) : Type 0 where
  pub removed : IsRising change.update.removed
  pub added : IsRising change.update.added
  pub modified : IsRising change.update.modified
  pub keys : AllByRecursion (λ key. key < 2 ^ 62) (change.update.removed ++ told_keys change.update)
  pub shift : IsShift change.update.shifted
  pub ranges : AllByRecursion (IsShiftRange (2 ^ 62)) change.update.shifted
  pub apart : AllByRecursion (λ key. is_among key change.update.added ≡ false) change.update.modified
  pub columns_rise : IsRising change.update.columns
  pub columns_there : AllByRecursion (λ column. column < length columns) change.update.columns
  pub columns_say : is_none change.update.columns ≡ is_none change.update.modified
  pub whole : length change.cells ≡ length columns * length (told_keys change.update)
  pub numbers : AllByRecursion (FitsSigned w64) change.cells
  pub cells : AllByRecursion (λ row. fit_columns (length texts) columns row.cells ≡ true) (rows_under (length columns) (told_keys change.update) change.cells)
