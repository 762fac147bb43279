-- The positions that a step of a sort touches, before it or now, from the keys of their rows.
use Rattle.std.proofs.Common.{◌≡◌, refl, ap, sym, ◌∙◌, subst, true, false, not, ◌&&◌, ◌||◌, ◌==◌, ℕ, zero, suc, ◌+◌, arith, List, [], ◌∷◌, Option, Some, None, true≢false, inl, inr}
use Rattle.std.{specs.Prelude.slice_get, specs.List.AllByRecursion, specs.Option.option_map_or, proofs.lemmas.Bool.{and_right, cases_Bool, eq-eqb}, proofs.lemmas.Option.none-some}
use Rattle.key_lists.{specs.Keys.{is_among, IsRising, without}, proofs.Among.{among-filter, each_among}, proofs.Every.{every_weaker, map_map}, proofs.Rising.{rising_same, rising_some}, proofs.Booleans.{and_true, or_true}}
use Rattle.shown_rows.proofs.Walks.{of_place}
use Rattle.tick_laws.proofs.Placed.{every-in_order}
use Rattle.tick_model.{specs.declared.plan.SortBy.SortBy, specs.declared.table.PlainRow.PlainRow, specs.declared.table.PlainTable.PlainTable, specs.Sort.{in_order, numbered, sort_table}, specs.Tables.{cells_at, keys}, proofs.Among.rows_among}
use Rattle.sort_op.{specs.declared.entry.Entry.Entry, specs.Entries.keys_in, specs.Places.AreUnder, specs.Sorted.{entries_of, entry_of}, proofs.LeftOut.under_here, proofs.PlacedCells.{cells_placed, place_within, row_there}}

numbered_here : (n i : ℕ) (rows : List PlainRow) (row : PlainRow) → slice_get rows i ≡ Some row → is_among (n + i) (keys (numbered n rows)) ≡ true
numbered_here n i [] row at = absurd (none-some row at)
numbered_here n zero (first ∷ rows) row at = ap (λ b. b || is_among (n + 0) (keys (numbered (n + 1) rows))) (eq-eqb n (n + 0) (omega arith))
numbered_here n (suc i) (first ∷ rows) row at =
    let e : n + suc i ≡ n + 1 + i = omega arith in
    ap (λ b. (n == (n + suc i)) || b) (ap (λ k. is_among k (keys (numbered (n + 1) rows))) e ∙ numbered_here (n + 1) i rows row at)
    ∙ or_true (n == (n + suc i))

module _ (by : List SortBy) (table : PlainTable) (rising : IsRising (keys table.rows)) where
  abbrev row_in : ℕ → Option PlainRow
  row_in i = slice_get (in_order by table.rows) i

  sorted_here : (i : ℕ) (row : PlainRow) → row_in i ≡ Some row → is_among i (keys (sort_table by table).rows) ≡ true
  sorted_here i row here = let start : i ≡ 0 + i = omega arith in ap (λ n. is_among n (keys (numbered 0 (in_order by table.rows)))) start ∙ numbered_here 0 i (in_order by table.rows) row here

  sorted_none : (i : ℕ) → row_in i ≡ None → is_among i (keys (sort_table by table).rows) ≡ false
  sorted_none i out =
      elim (cases_Bool (is_among i (keys (sort_table by table).rows))) [
        | inl here ↦ let there = row_there (in_order by table.rows) i (place_within by table i here) in absurd (none-some there.0 (sym out ∙ there.1))
        | inr none ↦ none
      ]

  key_there : (i : ℕ) (row : PlainRow) → row_in i ≡ Some row → is_among row.key (keys table.rows) ≡ true
  key_there i row here =
      of_place (λ (row : PlainRow). is_among row.key (keys table.rows) ≡ true) i (in_order by table.rows) row
      (every-in_order by (λ (row : PlainRow). is_among row.key (keys table.rows) ≡ true) table.rows (rows_among table.rows)) here

  pub cells_here : (i : ℕ) (row : PlainRow) → row_in i ≡ Some row → cells_at i (sort_table by table).rows ≡ cells_at row.key table.rows
  cells_here i row here = cells_placed by table i row rising here

  module _ (positions some : List ℕ) (are : AreUnder (keys_in (entries_of by table.rows)) some positions) where
    under_row : (i : ℕ) → is_among i positions ≡ option_map_or (λ (row : PlainRow). is_among row.key some) (row_in i) false
    under_row = under_here (λ (row : PlainRow). row.key) (in_order by table.rows) some positions (subst (λ order. AreUnder order some positions) (map_map (λ (entry : Entry). entry.key) (entry_of by) (in_order by table.rows)) are)

    pub position_here : (i : ℕ) (row : PlainRow) → row_in i ≡ Some row → is_among i positions ≡ is_among row.key some
    position_here i row here =
        under_row i ∙ ap (λ o. option_map_or (λ (row : PlainRow). is_among row.key some) o false) here

    module _ (placed kept : List ℕ) (places : (i : ℕ) (row : PlainRow) → row_in i ≡ Some row → is_among i placed ≡ is_among row.key kept) where
      -- the positions of the rows that are not kept
      pub others_are : ((key : ℕ) → is_among key (keys table.rows) ≡ true → is_among key some ≡ not (is_among key kept)) → IsRising positions → IsRising (keys (sort_table by table).rows) → positions ≡ without placed (keys (sort_table by table).rows)
      others_are tell r s =
          rising_same positions (without placed (keys (sort_table by table).rows)) r (rising_some (λ key. not (is_among key placed)) (keys (sort_table by table).rows) s)
          (λ i. under_row i ∙ go i (row_in i) refl ∙ sym (among-filter (λ key. not (is_among key placed)) i (keys (sort_table by table).rows)))
        where
          go : (i : ℕ) (o : Option PlainRow) → row_in i ≡ o → option_map_or (λ (row : PlainRow). is_among row.key some) o false ≡ (not (is_among i placed) && is_among i (keys (sort_table by table).rows))
          go i None e = sym (and_right (not (is_among i placed)) (is_among i (keys (sort_table by table).rows)) (sorted_none i e))
          go i (Some row) e =
              tell row.key (key_there i row e)
              ∙ ap not (sym (places i row e))
              ∙ sym (ap (λ b. not (is_among i placed) && b) (sorted_here i row e) ∙ and_true (not (is_among i placed)))

      -- the positions of rows that are kept are those of kept places
      pub within_placed : ((key : ℕ) → is_among key some ≡ true → is_among key kept ≡ true) → AllByRecursion (λ i. is_among i placed ≡ true) positions
      within_placed tell =
          every_weaker (λ i. is_among i positions ≡ true) (λ i. is_among i placed ≡ true) positions
          (λ i own. go i (row_in i) refl (sym (under_row i) ∙ own)) (each_among positions)
        where
          go : (i : ℕ) (o : Option PlainRow) → row_in i ≡ o → option_map_or (λ (row : PlainRow). is_among row.key some) o false ≡ true → is_among i placed ≡ true
          go i None e h = absurd (true≢false (sym h))
          go i (Some row) e h = places i row e ∙ tell row.key h
