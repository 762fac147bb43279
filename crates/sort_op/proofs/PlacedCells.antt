-- The rows of a sort under their places, by the entries.
use Rattle.std.proofs.Common.{◌≡◌, refl, ap, sym, ◌∙◌, true, cond, ℕ, zero, suc, ◌+◌, ◌<◌, ◌≤◌, arith, List, [], ◌∷◌, length, Option, Some, unwrap_or}
use Rattle.std.{specs.Prelude.{option_map, slice_get}, specs.Option.option_map_or, proofs.lemmas.Bool.{eq-eqb, ne_eqb}, proofs.lemmas.Option.{none-some, slice_get-map}}
use Rattle.key_lists.{specs.Keys.{is_among, IsRising}, proofs.Among.of_among}
use Rattle.tick_model.{specs.declared.plan.SortBy.SortBy, specs.declared.table.PlainRow.PlainRow, specs.declared.table.PlainTable.PlainTable, specs.Sort.{in_order, numbered, sort_table}, specs.Tables.{cells_at, keys, row_at}, proofs.Among.{each_found, rows_among}}
use Rattle.tick_laws.{proofs.Placed.every-in_order, proofs.ResultTables.keys-numbered}
use Rattle.shown_rows.proofs.Walks.{of_place}
use Rattle.sort_op.{specs.declared.entry.Entry.Entry, specs.Places.key_at, specs.Sorted.{entries_of, entry_of}}

-- the row under the number of a place
row_numbered : (n i : ℕ) (rows : List PlainRow) (row : PlainRow) → slice_get rows i ≡ Some row → cells_at (n + i) (numbered n rows) ≡ row.cells
row_numbered n i [] row at = absurd (none-some row at)
row_numbered n zero (first ∷ rows) row at =
    let e : n ≡ n + 0 = omega arith in
    let same : first ≡ row = cc in
    ap (λ b. unwrap_or (option_map (λ (r : PlainRow). r.cells) (cond b (let own : PlainRow = record { key = n; cells = first.cells } in Some own) (row_at (n + 0) (numbered (n + 1) rows)))) []) (eq-eqb n (n + 0) e)
    ∙ ap (λ (r : PlainRow). r.cells) same
row_numbered n (suc i) (first ∷ rows) row at =
    let e : n + suc i ≡ n + 1 + i = omega arith in
    ap (λ b. unwrap_or (option_map (λ (r : PlainRow). r.cells) (cond b (let own : PlainRow = record { key = n; cells = first.cells } in Some own) (row_at (n + suc i) (numbered (n + 1) rows)))) []) (ne_eqb n (n + suc i) (λ d. omega (arith, d)))
    ∙ ap (λ k. cells_at k (numbered (n + 1) rows)) e
    ∙ row_numbered (n + 1) i rows row at

-- there is a row at each place
pub row_there : (rows : List PlainRow) (i : ℕ) → i < length rows → (row : PlainRow) × (slice_get rows i ≡ Some row)
row_there [] i h = absurd (omega (arith, h))
row_there (row ∷ rows) zero h = (row, refl)
row_there (row ∷ rows) (suc i) h = row_there rows i (omega (arith, h))

module _ (by : List SortBy) (table : PlainTable) where
  -- the number of a row is a place
  pub place_within : (position : ℕ) → is_among position (keys (sort_table by table).rows) ≡ true → position < length (in_order by table.rows)
  place_within position h =
      let bounds = of_among (λ key. (0 ≤ key) × (key < 0 + length (in_order by table.rows))) position (keys (numbered 0 (in_order by table.rows))) (keys-numbered 0 (in_order by table.rows)) h in
      omega (arith, bounds.1)

  -- the row at a place is that of the key of the entry there
  pub place_found : (position : ℕ) → IsRising (keys table.rows) → position < length (in_order by table.rows)
      → (cells_at position (sort_table by table).rows ≡ cells_at (key_at (entries_of by table.rows) position) table.rows) × (is_among (key_at (entries_of by table.rows) position) (keys table.rows) ≡ true)
  place_found position rising within = go (row_there (in_order by table.rows) position within)
    where
      go : (row : PlainRow) × (slice_get (in_order by table.rows) position ≡ Some row)
          → (cells_at position (sort_table by table).rows ≡ cells_at (key_at (entries_of by table.rows) position) table.rows) × (is_among (key_at (entries_of by table.rows) position) (keys table.rows) ≡ true)
      go (row, here) =
          let key_is : key_at (entries_of by table.rows) position ≡ row.key =
          ap (λ (o : Option Entry). option_map_or (λ (entry : Entry). entry.key) o 0) (slice_get-map (entry_of by) (in_order by table.rows) position ∙ ap (option_map (entry_of by)) here) in
          let found : row_at row.key table.rows ≡ Some row =
          of_place (λ (r : PlainRow). row_at r.key table.rows ≡ Some r) position (in_order by table.rows) row (every-in_order by (λ (r : PlainRow). row_at r.key table.rows ≡ Some r) table.rows (each_found table.rows rising)) here in
          let there : is_among row.key (keys table.rows) ≡ true =
          of_place (λ (r : PlainRow). is_among r.key (keys table.rows) ≡ true) position (in_order by table.rows) row (every-in_order by (λ (r : PlainRow). is_among r.key (keys table.rows) ≡ true) table.rows (rows_among table.rows)) here in
          let start : position ≡ 0 + position = omega arith in (
            ap (λ k. cells_at k (numbered 0 (in_order by table.rows))) start
                ∙ row_numbered 0 position (in_order by table.rows) row here
                ∙ sym (ap (λ k. cells_at k table.rows) key_is ∙ ap (λ (o : Option PlainRow). unwrap_or (option_map (λ (r : PlainRow). r.cells) o) []) found),
            ap (λ k. is_among k (keys table.rows)) key_is ∙ there,
          )

  -- the cells at a place are those of the row under its key
  pub cells_placed : (position : ℕ) (row : PlainRow) → IsRising (keys table.rows) → slice_get (in_order by table.rows) position ≡ Some row → cells_at position (sort_table by table).rows ≡ cells_at row.key table.rows
  cells_placed position row rising here =
      let found : row_at row.key table.rows ≡ Some row =
      of_place (λ (r : PlainRow). row_at r.key table.rows ≡ Some r) position (in_order by table.rows) row (every-in_order by (λ (r : PlainRow). row_at r.key table.rows ≡ Some r) table.rows (each_found table.rows rising)) here in
      let start : position ≡ 0 + position = omega arith in
      ap (λ k. cells_at k (numbered 0 (in_order by table.rows))) start
      ∙ row_numbered 0 position (in_order by table.rows) row here
      ∙ sym (ap (λ (o : Option PlainRow). unwrap_or (option_map (λ (r : PlainRow). r.cells) o) []) found)
