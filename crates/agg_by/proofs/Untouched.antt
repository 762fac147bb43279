-- A group that a step does not touch has the same rows before and now, under the keys to which they move.
use Rattle.std.proofs.Common.{◌≡◌, refl, ap, sym, ◌∙◌, Bool, false, not, ◌||◌, ℕ, List, [], ◌∷◌, ◌++◌, map, Option, Some, ℤ}
use Rattle.std.{specs.Prelude.{option_map, unwrap_or, pos}, specs.List.{AllByRecursion, list_any}, proofs.lemmas.Bool.{not-false, or_parts}, proofs.lemmas.List.length-map, specs.Int.{int_min, int_max}}
use Rattle.key_lists.{specs.Keys.{is_among, IsRising}, proofs.Among.of_among, proofs.Every.{every_weaker, filter-map, filter_in, map_map, any-map}}
use Rattle.tick_model.{proofs.Among.each_found, specs.Agg.{aggregate, column_of, key_cells, over, present, sum_of}, specs.declared.plan.Agg.Agg, specs.declared.plan.Agg.TheVariants.{Count, Sum, Min, Max, First, Last}, specs.declared.table.PlainRow.PlainRow, specs.declared.update.ShiftRange.ShiftRange, specs.Tables.{cell, keys, row_at, same_cells}, specs.Updates.{moved_row, removing, shifting}}
use Rattle.tick_table.{specs.Exact.IsExact, specs.Ticking.Ticking}
use Rattle.agg_by.{specs.Kept.group_rows, specs.Steps.{come, gone, is_touched, key_at}, proofs.Unmoved.unmoved}

-- where no element passes, each fails
pub none_of : {X : Type 0} (p : X → Bool) (xs : List X) → list_any p xs ≡ false → AllByRecursion (λ x. p x ≡ false) xs
none_of p [] h = tt
none_of p (x ∷ xs) h = ((or_parts _ _ h).0, none_of p xs (or_parts _ _ h).1)

pub any_parts : {X : Type 0} (p : X → Bool) (xs ys : List X) → list_any p (xs ++ ys) ≡ false → (list_any p xs ≡ false) × (list_any p ys ≡ false)
any_parts p [] ys h = (refl, h)
any_parts p (x ∷ xs) ys h =
    let rest = any_parts p xs ys (or_parts _ _ h).1 in (ap (λ b. b || list_any p xs) (or_parts _ _ h).0 ∙ rest.0, rest.1)

-- the key cells of a row, by its key
pub own_cells : (by : List ℕ) (rows : List PlainRow) → IsRising (keys rows) → AllByRecursion (λ row. key_at by rows row.key ≡ key_cells by row.cells) rows
own_cells by rows rising =
    every_weaker (λ row. row_at row.key rows ≡ Some row) (λ row. key_at by rows row.key ≡ key_cells by row.cells) rows
    (λ row found. ap (λ (o : Option PlainRow). key_cells by (unwrap_or (option_map (λ (row : PlainRow). row.cells) o) [])) found) (each_found rows rising)

-- rows with some key cells are none of those under these keys
pub group_without : (by : List ℕ) (rows : List PlainRow) (these : List ℕ) (cells : List ℤ) → IsRising (keys rows) → AllByRecursion (λ key. same_cells cells (key_at by rows key) ≡ false) these
    → group_rows by cells (removing these rows) ≡ group_rows by cells rows
group_without by rows these cells rising none =
    filter_in (λ row. same_cells cells (key_cells by row.cells)) (λ row. not (is_among row.key these)) rows
    (every_weaker (λ row. key_at by rows row.key ≡ key_cells by row.cells) (λ row. not (is_among row.key these) ≡ false → same_cells cells (key_cells by row.cells) ≡ false) rows
    (λ row own there. ap (same_cells cells) (sym own) ∙ of_among (λ key. same_cells cells (key_at by rows key) ≡ false) row.key these none (not-false _ there))
    (own_cells by rows rising))

pub column-shifting : (shifts : List ShiftRange) (rows : List PlainRow) (column : ℕ) → column_of (shifting shifts rows) column ≡ column_of rows column
column-shifting shifts rows column = map_map (λ (row : PlainRow). cell row.cells column) (moved_row shifts) rows

-- an aggregate says of rows the same wherever they move
pub aggregate-shifting : (shifts : List ShiftRange) (rows : List PlainRow) (agg : Agg) → aggregate (shifting shifts rows) agg ≡ aggregate rows agg
aggregate-shifting shifts rows Count = ap pos (length-map rows (moved_row shifts))
aggregate-shifting shifts rows (Sum column) = ap (λ cells. sum_of (present cells)) (column-shifting shifts rows column)
aggregate-shifting shifts rows (Min column) = ap (λ cells. over int_min (present cells)) (column-shifting shifts rows column)
aggregate-shifting shifts rows (Max column) = ap (λ cells. over int_max (present cells)) (column-shifting shifts rows column)
aggregate-shifting shifts rows (First column) = ap (over (λ first _. first)) (column-shifting shifts rows column)
aggregate-shifting shifts rows (Last column) = ap (over (λ _ last. last)) (column-shifting shifts rows column)

module _ (by : List ℕ) (t : Ticking) (e : IsExact t) (cells : List ℤ) (untouched : is_touched by t cells ≡ false) where
  abbrev parts : (list_any (same_cells cells) (map (key_at by t.old.rows) (gone t)) ≡ false) × (list_any (same_cells cells) (map (key_at by t.new.rows) (come t)) ≡ false)
  parts = any_parts (same_cells cells) (map (key_at by t.old.rows) (gone t)) (map (key_at by t.new.rows) (come t)) untouched

  pub none_gone : AllByRecursion (λ key. same_cells cells (key_at by t.old.rows key) ≡ false) (gone t)
  none_gone = none_of (λ key. same_cells cells (key_at by t.old.rows key)) (gone t) (sym (any-map (same_cells cells) (key_at by t.old.rows) (gone t)) ∙ parts.0)

  pub none_come : AllByRecursion (λ key. same_cells cells (key_at by t.new.rows key) ≡ false) (come t)
  none_come = none_of (λ key. same_cells cells (key_at by t.new.rows key)) (come t) (sym (any-map (same_cells cells) (key_at by t.new.rows) (come t)) ∙ parts.1)

  pub group_stays : group_rows by cells t.new.rows ≡ shifting t.update.shifted (group_rows by cells t.old.rows)
  group_stays =
      sym (group_without by t.new.rows (come t) cells e.tick.new_table.rising none_come)
      ∙ ap (group_rows by cells) (unmoved t e)
      ∙ filter-map (λ row. same_cells cells (key_cells by row.cells)) (moved_row t.update.shifted) (removing (gone t) t.old.rows)
      ∙ ap (shifting t.update.shifted) (group_without by t.old.rows (gone t) cells e.tick.old_table.rising none_gone)
