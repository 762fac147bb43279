-- A made run is lawful.
use Rattle.std.proofs.Common.{◌≡◌, refl, ap, sym, ◌∙◌, subst, ℕ, zero, suc, ◌+◌, ◌-◌, ◌*◌, ◌%◌, ◌^◌, ◌==◌, ◌<◌, ◌≤◌, arith, Bool, true, false, cond, ◌&&◌, List, [], ◌∷◌, map, length, pos, negsuc, not, lit<, lit≤}
use Rattle.std.{specs.Prelude.{FitsSigned, codes, nat_lt}, specs.List.{AllByRecursion, list_all, range_with_len}, specs.Int.w64, proofs.lemmas.Bool.{and_from, and_parts, lt-ltb, not-true}, proofs.lemmas.Int.ints, proofs.lemmas.List.length-map, proofs.lemmas.List.FromFn.{length-map-range_with_len, length-range_with_len}}
use Rattle.key_lists.{specs.Keys.IsRising, proofs.Every.every-map, proofs.Ranges.each_from}
use Rattle.tick_model.{specs.declared.feed.Batch.Batch, specs.declared.feed.Block.Block, specs.declared.table.PlainRow.PlainRow, specs.declared.plan.Kind.TheVariants.{Long, Text}, specs.declared.update.KeyRange.KeyRange, specs.Changes.is_none, specs.LawfulRuns.{AreRanges, AreTexts, IsLawfulBlock, IsLawfulRun, IsOpening, IsSourceRow, is_before}, specs.Printable.{IsShift, IsShiftRange, fit_columns, names_text}, specs.Tables.keys}
use Rattle.tick_laws.{proofs.EvalNodes.all_pass, proofs.LawfulSources.rising_range}
use Rattle.made_run.{specs.Draws.{after, draw, drawn_cells, drawn_row, drawn_rows}, specs.Plan.{column, plan, ref_columns, trades_columns}, specs.Run.made, specs.Steps.{batch_after, block_of, draws_after, removes, rows_after, survivors}, specs.Tables.{ref_row, ref_table, sector, texts, trades_table}, proofs.Drawn.{draw-below, every_drawn, keys-drawn}, proofs.Rows.{many_where_removed, rows_are_few, some_left}, proofs.Shifts.up_by_ten}

fits : (n : ℕ) → n < 2 ^ 63 → FitsSigned w64 (pos n)
fits n small = record { sfits = omega (arith, small) }

-- a drawn row is one of trades
drawn_row_is : (key state : ℕ) → key < 2 ^ 40 → IsSourceRow trades_columns 10 (drawn_row key state)
drawn_row_is key state small =
    let symbol : draw 8 state < 8 = draw-below 8 state (omega arith) in
    let side : draw 2 (after 1 state) < 2 = draw-below 2 (after 1 state) (omega arith) in
    let quantity : draw 100 (after 2 state) < 100 = draw-below 100 (after 2 state) (omega arith) in
    let price : draw 1000 (after 3 state) < 1000 = draw-below 1000 (after 3 state) (omega arith) in
    record {
      key = small;
      cells = symbol_is (draw 8 state) symbol;
      numbers = (
        fits (draw 8 state) (omega (arith, symbol)),
        (
          fits (draw 2 (after 1 state)) (omega (arith, side)),
          (
            fits (1 + draw 100 (after 2 state)) (omega (arith, quantity)),
            (fits (1 + draw 1000 (after 3 state)) (omega (arith, price)), tt),
          ),
        ),
      );
    }
  where
    symbol_is : (symbol : ℕ) → symbol < 8 → (names_text 10 (pos symbol) && true) ≡ true
    symbol_is symbol less = and_from (nat_lt symbol 10) true (lt-ltb symbol 10 (omega (arith, less))) refl

-- so are the rows of a step, and the row that it modifies
module _ (step rows state : ℕ) (few : rows ≤ 200000) (many : removes step ≡ true → 10 < rows) (some : (step % 2 == 0) ≡ true → 0 < survivors step rows) where
  left_few : survivors step rows ≤ 200000
  left_few = of (removes step)
    where
      of : (b : Bool) → cond b (rows - 10) rows ≤ 200000
      of true = omega (arith, few)
      of false = few

  added_are : AllByRecursion (IsSourceRow trades_columns 10) (drawn_rows (survivors step rows) 20 state)
  added_are = every_drawn (IsSourceRow trades_columns 10) (survivors step rows) 20 state (λ key at less. drawn_row_is key at (omega (arith, left_few, less)))

  length-added : length (drawn_rows (survivors step rows) 20 state) ≡ 20
  length-added = sym (length-map (drawn_rows (survivors step rows) 20 state) (λ (row : PlainRow). row.key)) ∙ ap length (keys-drawn (survivors step rows) 20 state) ∙ length-range_with_len (survivors step rows) 20

  removed_are : (b : Bool) → AreRanges (cond b ((record { first = 0; last = 9 }) ∷ []) [])
  removed_are true = (omega arith, lit< tt, tt, tt)
  removed_are false = tt

  shifts_are : (b : Bool) → (b ≡ true → 10 < rows) → IsShift (cond b (up_by_ten rows) [])
  shifts_are true many = let more = many refl in (omega (arith, more), refl, tt, tt)
  shifts_are false many = tt

  shifts_fit : (b : Bool) → (b ≡ true → 10 < rows) → AllByRecursion (IsShiftRange (2 ^ 40)) (cond b (up_by_ten rows) [])
  shifts_fit true many = (record { begin = lit< tt; end = omega (arith, few); up = omega (arith, ints); down = omega (arith, ints) }, tt)
  shifts_fit false many = tt

  abbrev changed : Bool → List PlainRow
  changed b = cond b (drawn_row (draw (survivors step rows) (after 80 state)) (after 1 (after 80 state)) ∷ []) []

  changed_are : (b : Bool) → (b ≡ true → 0 < survivors step rows) → AllByRecursion (IsSourceRow trades_columns 10) (changed b)
  changed_are true some =
      let less = draw-below (survivors step rows) (after 80 state) (some refl) in
      (drawn_row_is (draw (survivors step rows) (after 80 state)) (after 1 (after 80 state)) (omega (arith, less, left_few)), tt)
  changed_are false some = tt

  changed_rise : (b : Bool) → IsRising (keys (changed b))
  changed_rise true = (tt, tt)
  changed_rise false = tt

  abbrev first_ten : KeyRange
  first_ten = record { first = 0; last = 9 }

  records_fit : (a b : Bool) → 1 + (length (cond a (first_ten ∷ []) []) + length (cond a (up_by_ten rows) []) + length (drawn_rows (survivors step rows) 20 state) + length (changed b)) < 2 ^ 64
  records_fit true true = omega (arith, length-added)
  records_fit true false = omega (arith, length-added)
  records_fit false true = omega (arith, length-added)
  records_fit false false = omega (arith, length-added)

  block_is : IsLawfulBlock plan 10 (block_of step rows state)
  block_is = record {
    source = refl;
    removed = removed_are (removes step);
    shifts = shifts_are (removes step) many;
    ranges = shifts_fit (removes step) many;
    added = added_are;
    modified = changed_are (step % 2 == 0) some;
    added_rise = subst IsRising (sym (keys-drawn (survivors step rows) 20 state)) (rising_range (survivors step rows) 20).1;
    modified_rise = changed_rise (step % 2 == 0);
    records = records_fit (removes step) (step % 2 == 0);
  }

batch_is : (before : ℕ) → before < 10000 → AllByRecursion (IsLawfulBlock plan 10) (batch_after before).blocks
batch_is before less =
    (block_is (before + 1) (rows_after before) (after (draws_after before) 1) (rows_are_few before (omega (arith, less))) (many_where_removed before) (some_left before), tt)

-- the opening
ref_row_is : (symbol : ℕ) → symbol < 8 → IsSourceRow ref_columns 10 (ref_row symbol)
ref_row_is symbol less = record {
  key = omega (arith, less);
  cells = and_from (nat_lt symbol 10) (fit_columns 10 ((column (codes "sector") Text) ∷ (column (codes "lot") Long) ∷ []) (pos (sector symbol) ∷ pos 100 ∷ [])) (lt-ltb symbol 10 (omega (arith, less))) (sector_fits (symbol % 2 == 0));
  numbers = (fits symbol (omega (arith, less)), (sector_number (symbol % 2 == 0), (fits 100 (lit< tt), tt)));
}
  where
    sector_fits : (b : Bool) → fit_columns 10 ((column (codes "sector") Text) ∷ (column (codes "lot") Long) ∷ []) (pos (cond b 8 9) ∷ pos 100 ∷ []) ≡ true
    sector_fits true = refl
    sector_fits false = refl

    sector_number : (b : Bool) → FitsSigned w64 (pos (cond b 8 9))
    sector_number true = fits 8 (lit< tt)
    sector_number false = fits 9 (lit< tt)

trades_open : IsOpening trades_columns 10 trades_table
trades_open = record { width = refl; count = lit≤ tt; keys_are = refl; rows = tt }

ref_open : IsOpening ref_columns 10 ref_table
ref_open = record {
  width = refl;
  count = lit≤ tt;
  keys_are = refl;
  rows = every-map (IsSourceRow ref_columns 10) ref_row (range_with_len 0 8) (each_from (λ k. IsSourceRow ref_columns 10 (ref_row k)) 0 8 (λ k low high. ref_row_is k high));
}

-- texts that are not empty and rise, by a test
abbrev are_in_order : List (List ℕ) → Bool
are_in_order [] = true
are_in_order (text ∷ texts) = not (is_none text) && (list_all (is_before text) texts && are_in_order texts)

texts_in_order : (texts : List (List ℕ)) → are_in_order texts ≡ true → AreTexts texts
texts_in_order [] h = tt
texts_in_order (text ∷ texts) h =
    let parts = and_parts (not (is_none text)) (list_all (is_before text) texts && are_in_order texts) h in
    let others = and_parts (list_all (is_before text) texts) (are_in_order texts) parts.1 in
    (not-true (is_none text) parts.0, all_pass (is_before text) texts others.0, texts_in_order texts others.1)

pub made_is_lawful : (steps : ℕ) → steps ≤ 10000 → IsLawfulRun (made steps)
made_is_lawful steps few = record {
  plan = refl;
  numbers = (tt, (tt, (tt, (((tt, tt), tt), (tt, (tt, (tt, (tt, (tt, tt)))))))));
  ranks = (refl, (refl, (refl, (refl, (refl, (refl, (refl, (refl, (refl, tt)))))))));
  opening = (trades_open, (ref_open, tt));
  steps = let count = length-map-range_with_len batch_after 0 steps in omega (arith, few, count);
  batches =
      every-map (λ (batch : Batch). AllByRecursion (IsLawfulBlock plan 10) batch.blocks) batch_after (range_with_len 0 steps)
      (each_from (λ before. AllByRecursion (IsLawfulBlock plan 10) (batch_after before).blocks) 0 steps (λ before low high. batch_is before (omega (arith, few, high))));
  texts = texts_in_order texts refl;
}
