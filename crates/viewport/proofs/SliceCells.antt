-- The rows of a slice are the table's, with the chosen columns.
use Rattle.std.proofs.Common.{◌≡◌, refl, ap, sym, ◌∙◌, Bool, true, false, cond, ◌||◌, ℕ, zero, suc, ◌<◌, List, [], ◌∷◌, map, take, drop, Some, Option, ◌==◌, true≢false}
use Rattle.std.specs.Prelude.{option_map, unwrap_or}
use Rattle.key_lists.{specs.Keys.{is_among, IsRising}, proofs.Among.of_among}
use Rattle.tick_laws.proofs.OperatorTicks.{keys_mapped}
use Rattle.tick_model.{specs.declared.table.PlainRow.PlainRow, specs.declared.table.PlainTable.PlainTable, specs.Slices.chosen_cells, specs.Tables.{IsTable, cell, cells_at, keys, row_at}, proofs.Among.row_past}
use Rattle.viewport.{specs.declared.slice.Slice.Slice, specs.Slices.cut}

-- a row of the first ones, and a row of those behind a position
pub record IsHere (key : ℕ) (some rows : List PlainRow) : Type 0 where
  pub row : row_at key some ≡ row_at key rows
  pub there : is_among key (keys rows) ≡ true

at_take : (key n : ℕ) (rows : List PlainRow) → is_among key (keys (take n rows)) ≡ true → IsHere key (take n rows) rows
at_take key zero [] e = absurd (true≢false (sym e))
at_take key zero (row ∷ rows) e = absurd (true≢false (sym e))
at_take key (suc n) [] e = absurd (true≢false (sym e))
at_take key (suc n) (row ∷ rows) e =
    (elim (row.key == key) as (λ b. (row.key == key) ≡ b → (b || is_among key (keys (take n rows))) ≡ true → IsHere key (row ∷ take n rows) (row ∷ rows)) [
      | true ↦ λ own there. record {
        row = ap (λ b. cond b (Some row) (row_at key (take n rows))) own ∙ sym (ap (λ b. cond b (Some row) (row_at key rows)) own);
        there = ap (λ b. b || is_among key (keys rows)) own;
      }
      | false ↦ λ other there.
          let rest = at_take key n rows there in
          record {
            row = ap (cond (row.key == key) (Some row)) rest.row;
            there = ap (λ b. b || is_among key (keys rows)) other ∙ rest.there;
          }
    ]) refl e

at_drop : (key n : ℕ) (rows : List PlainRow) → IsRising (keys rows) → is_among key (keys (drop n rows)) ≡ true → IsHere key (drop n rows) rows
at_drop key zero [] rising e = record { row = refl; there = e }
at_drop key zero (row ∷ rows) rising e = record { row = refl; there = e }
at_drop key (suc n) [] rising e = absurd (true≢false (sym e))
at_drop key (suc n) (row ∷ rows) rising e =
    let rest = at_drop key n rows rising.1 e in
    let less : row.key < key = of_among (λ other. row.key < other) key (keys rows) rising.0 rest.there in
    record {
      row = rest.row ∙ sym (row_past key row rows less);
      there = later (row.key == key) rest.there;
    }
  where
    later : (b : Bool) → is_among key (keys rows) ≡ true → (b || is_among key (keys rows)) ≡ true
    later true h = refl
    later false h = h

chosen_at : (columns : List ℕ) (key : ℕ) (rows : List PlainRow) → is_among key (keys rows) ≡ true → cells_at key (map (chosen_cells columns) rows) ≡ map (cell (cells_at key rows)) columns
chosen_at columns key [] e = absurd (true≢false (sym e))
chosen_at columns key (row ∷ rows) e =
    (elim (row.key == key) as (λ b. (b || is_among key (keys rows)) ≡ true → unwrap_or (option_map (λ (row : PlainRow). row.cells) (cond b (Some (chosen_cells columns row)) (row_at key (map (chosen_cells columns) rows)))) [] ≡ map (cell (unwrap_or (option_map (λ (row : PlainRow). row.cells) (cond b (Some row) (row_at key rows))) [])) columns) [
      | true ↦ λ there. refl
      | false ↦ λ there. chosen_at columns key rows there
    ]) e

module _ (asked : Slice) (table : PlainTable) (t : IsTable table) (key : ℕ) (own : is_among key (keys (cut asked table).rows) ≡ true) where
  abbrev behind : List PlainRow
  behind = drop asked.first table.rows

  abbrev these : List PlainRow
  these = take asked.count behind

  in_these : is_among key (keys these) ≡ true
  in_these = ap (is_among key) (sym (keys_mapped (chosen_cells asked.columns) these (λ row. refl))) ∙ own

  in_front : IsHere key these behind
  in_front = at_take key asked.count behind in_these

  in_table : IsHere key behind table.rows
  in_table = at_drop key asked.first table.rows t.rising in_front.there

  -- the key is that of a row of the table, and the cells are that row's
  pub slice_there : is_among key (keys table.rows) ≡ true
  slice_there = in_table.there

  pub slice_cells : cells_at key (cut asked table).rows ≡ map (cell (cells_at key table.rows)) asked.columns
  slice_cells =
      chosen_at asked.columns key these in_these
      ∙ ap (λ (found : Option PlainRow). map (cell (unwrap_or (option_map (λ (row : PlainRow). row.cells) found) [])) asked.columns) (in_front.row ∙ in_table.row)
