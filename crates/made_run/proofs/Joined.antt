-- Each row of the left side has one match at most in ref, and the sector of ref's row, or none.
use Rattle.std.proofs.Common.{◌≡◌, refl, ap, sym, ◌∙◌, subst, ℕ, zero, suc, ◌+◌, ◌%◌, ◌==◌, ◌<◌, ◌≤◌, arith, Bool, true, false, cond, ◌&&◌, ◌||◌, List, [], ◌∷◌, ◌++◌, map, length, Option, Some, None, ℤ, pos}
use Rattle.std.{specs.Prelude.{filter, slice_get}, specs.List.{AllByRecursion, list_any, range_with_len}, specs.Ordering.int_eq, specs.Cmp.signed_Decides, proofs.lemmas.Bool.{and_parts, false_from_ne_true}, proofs.lemmas.List.get_or_at}
use Rattle.key_lists.{proofs.Every.{every-filter, every-map, filter_none}, proofs.Ranges.each_from}
use Rattle.tick_model.{specs.declared.plan.Choice.TheVariants.Error, specs.declared.plan.OnPair.OnPair, specs.declared.table.PlainRow.PlainRow, specs.declared.table.PlainTable.PlainTable, specs.Join.{agree, chosen, duplicate, join_fault, joined, matches, taken}, specs.Tables.{cell, null}}
use Rattle.made_run.{specs.Tables.{ref_row, ref_table, sector}, proofs.Searches.filter_map_none}

-- `sym` against `id`
abbrev pub by_symbol : List OnPair
by_symbol = record { left = 0; right = 0 } ∷ []

same_pos : (m n : ℕ) → ◌≡◌ {A = ℤ} (pos m) (pos n) → m ≡ n
same_pos m n e = cc

-- a row that agrees with one symbol agrees with no later one
agrees_once : (left : PlainRow) (first later : ℕ) → agree by_symbol left (ref_row first) ≡ true → first < later → agree by_symbol left (ref_row later) ≡ false
agrees_once left first later e less =
    false_from_ne_true (agree by_symbol left (ref_row later))
    (λ too.
    let own = (signed_Decides (cell left.cells 0) (pos first)).0 (and_parts (int_eq (cell left.cells 0) (pos first)) true e).0 in
    let other = (signed_Decides (cell left.cells 0) (pos later)).0 (and_parts (int_eq (cell left.cells 0) (pos later)) true too).0 in
    let same = same_pos first later (sym own ∙ other) in
    omega (arith, same, less))

one_match : (left : PlainRow) (count first : ℕ) → duplicate left (filter (agree by_symbol left) (map ref_row (range_with_len first count))) ≡ None
one_match left zero first = refl
one_match left (suc count) first =
    (elim (agree by_symbol left (ref_row first)) as (λ b. agree by_symbol left (ref_row first) ≡ b → duplicate left (cond b (ref_row first ∷ filter (agree by_symbol left) later) (filter (agree by_symbol left) later)) ≡ None) [
      | true ↦ λ e.
          ap (λ others. duplicate left (ref_row first ∷ others))
          (filter_none (agree by_symbol left) later
          (every-map (λ row. agree by_symbol left row ≡ false) ref_row (range_with_len (first + 1) count)
          (each_from (λ k. agree by_symbol left (ref_row k) ≡ false) (first + 1) count (λ k low high. agrees_once left first k e (omega (arith, low))))))
      | false ↦ λ e. one_match left count (first + 1)
    ]) refl
  where
    later : List PlainRow
    later = map ref_row (range_with_len (first + 1) count)

-- so the join of no table has a fault
pub no_join_fault : (left : PlainTable) → join_fault by_symbol Error left ref_table ≡ None
no_join_fault left =
    ap (λ faults. slice_get faults 0) (filter_map_none (λ row. duplicate row (matches by_symbol ref_table.rows row)) left.rows (λ row. one_match row 8 0))

-- the sectors, and none
abbrev pub sectors : List ℤ
sectors = null ∷ pos 8 ∷ pos 9 ∷ []

abbrev pub IsSector : ℤ → Type 0
IsSector value = list_any (int_eq value) sectors ≡ true

sector_is : (symbol : ℕ) → IsSector (cell (ref_row symbol).cells 1)
sector_is symbol = of (symbol % 2 == 0)
  where
    of : (b : Bool) → IsSector (pos (cond b 8 9))
    of true = refl
    of false = refl

ref_sectors : AllByRecursion (λ (row : PlainRow). IsSector (cell row.cells 1)) ref_table.rows
ref_sectors = every-map (λ (row : PlainRow). IsSector (cell row.cells 1)) ref_row (range_with_len 0 8) (each_from (λ k. IsSector (cell (ref_row k).cells 1)) 0 8 (λ k low high. sector_is k))

taken_sector : (rows : List PlainRow) → AllByRecursion (λ (row : PlainRow). IsSector (cell row.cells 1)) rows → (before : List ℤ) → length before ≡ 5 → IsSector (cell (before ++ taken (1 ∷ []) (chosen Error rows)) 5)
taken_sector [] h before long = subst IsSector (sym (get_or_at before null [] null 5 long)) refl
taken_sector (row ∷ rows) h before long = subst IsSector (sym (get_or_at before (cell row.cells 1) [] null 5 long)) h.0

-- the sector of a joined row
pub joined_sector : (left : PlainRow) → length left.cells ≡ 5 → IsSector (cell (joined (1 ∷ []) (λ row. chosen Error (matches by_symbol ref_table.rows row)) left).cells 5)
joined_sector left long =
    taken_sector (matches by_symbol ref_table.rows left) (every-filter (λ (row : PlainRow). IsSector (cell row.cells 1)) (agree by_symbol left) ref_table.rows ref_sectors) left.cells long
