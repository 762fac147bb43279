-- Every node of a made run's plan has a table, and each published table is within its limit.
use Rattle.std.proofs.Common.{◌≡◌, refl, ap, sym, ◌∙◌, subst, ℕ, zero, suc, ◌+◌, ◌<◌, ◌≤◌, min, arith, true, false, cond, List, [], ◌∷◌, ◌++◌, map, take, drop, length, Some, None, ltb, length-append, length-take, pos}
use Rattle.std.{specs.Prelude.{filter, fold}, specs.List.AllByRecursion, proofs.lemmas.Bool.{cond-false, le-ltb}, proofs.lemmas.List.length-map}
use Rattle.tick_laws.proofs.ResultCells.{length-filter_most}
use Rattle.key_lists.{specs.Keys.IsRising, proofs.Every.{every-filter, every-map, every_weaker, map_map}, proofs.Rising.rising-filter}
use Rattle.tick_model.{specs.declared.plan.Agg.TheVariants.{Count, Sum, Max}, specs.declared.plan.Choice.TheVariants.Error, specs.declared.plan.Comparison.TheVariants.Ge, specs.declared.plan.Expr.{Cell, Number}, specs.declared.plan.Pred.Compare, specs.declared.table.NodeFault.TheVariants.TooManyRows, specs.declared.table.PlainRow.PlainRow, specs.declared.table.PlainTable.PlainTable, specs.Agg.{agg_row, agg_table, is_first}, specs.Evaluation.{Outcome, Table, eval, eval_node, or_fault}, specs.Formulas.truth, specs.HeadTail.head_table, specs.Join.{chosen, join_table, joined, matches}, specs.Merge.{merge_fault, merge_table}, specs.Sort.sort_table, specs.Spoiled.{ByPublication, node_fault, publication_fault}, specs.Tables.{IsRow, IsTable, cell, keys}, specs.View.{view_row, view_table}, specs.Where.where_table}
use Rattle.script_reader.specs.Plain.{mul}
use Rattle.made_run.{specs.Plan.{nodes, plan}, specs.Tables.ref_table, proofs.Groups.few_groups, proofs.Joined.{IsSector, by_symbol, joined_sector, no_join_fault, sectors}}

module _ (trades : PlainTable) where
  abbrev big : PlainTable
  big = where_table (Compare Ge (Cell 2) (Number (pos 50))) trades

  abbrev val : PlainTable
  val = view_table (mul (Cell 2) (Cell 3) ∷ []) big

  abbrev j : PlainTable
  j = join_table by_symbol (1 ∷ []) Error val ref_table

  abbrev bysec : PlainTable
  bysec = agg_table (5 ∷ []) (Count ∷ Sum 4 ∷ Max 3 ∷ []) j

  abbrev srt : PlainTable
  srt = sort_table (record { column = 4; descending = true } ∷ []) j

  abbrev top10 : PlainTable
  top10 = head_table 10 srt

  abbrev both : PlainTable
  both = merge_table (trades ∷ big ∷ [])

  abbrev pub outcomes : List Outcome
  outcomes = Table trades ∷ Table ref_table ∷ Table big ∷ Table val ∷ Table j ∷ Table bysec ∷ Table srt ∷ Table top10 ∷ Table both ∷ []

  module _ (few : length trades.rows ≤ 200000) where
    no_merge_fault : merge_fault (trades ∷ big ∷ []) ≡ None
    no_merge_fault =
        let fewer = length-filter_most (λ (row : PlainRow). truth (Compare Ge (Cell 2) (Number (pos 50))) row.cells) trades.rows in
        let count : 0 + length trades.rows + length big.rows ≤ 4194304 = omega (arith, few, fewer) in
        cond-false (ltb 4194304 (0 + length trades.rows + length big.rows)) (Some (TooManyRows (0 + length trades.rows + length big.rows))) None
        (le-ltb 4194304 (0 + length trades.rows + length big.rows) count)

    pub outcomes_are : eval plan (trades ∷ ref_table ∷ []) ≡ outcomes
    outcomes_are =
        ap (λ fault. fold (eval_node nodes (trades ∷ ref_table ∷ [])) (Table trades ∷ Table ref_table ∷ Table big ∷ Table val ∷ or_fault fault j ∷ []) (drop 5 nodes)) (no_join_fault val)
        ∙ ap (λ fault. Table trades ∷ Table ref_table ∷ Table big ∷ Table val ∷ Table j ∷ Table bysec ∷ Table srt ∷ Table top10 ∷ or_fault fault both ∷ []) no_merge_fault

  pub no_node_fault : node_fault 0 outcomes ≡ None
  no_node_fault = refl

  module _ (is : IsTable trades) (width : trades.width ≡ 4) where
    -- the rows of j rise and have sectors, so that there are three groups at most
    j_keys_rise : IsRising (keys j.rows)
    j_keys_rise =
        subst IsRising
        (sym (map_map (λ (row : PlainRow). row.key) (joined (1 ∷ []) (λ row. chosen Error (matches by_symbol ref_table.rows row))) val.rows ∙ map_map (λ (row : PlainRow). row.key) (view_row (mul (Cell 2) (Cell 3) ∷ [])) big.rows))
        (rising-filter (λ (row : PlainRow). row.key) (λ (row : PlainRow). truth (Compare Ge (Cell 2) (Number (pos 50))) row.cells) trades.rows is.rising)

    val_widths : AllByRecursion (λ (row : PlainRow). length row.cells ≡ 5) val.rows
    val_widths =
        every-map (λ (row : PlainRow). length row.cells ≡ 5) (view_row (mul (Cell 2) (Cell 3) ∷ [])) big.rows
        (every_weaker (IsRow trades.width) (λ row. length (view_row (mul (Cell 2) (Cell 3) ∷ []) row).cells ≡ 5) big.rows
        (λ row r. wider row (r.whole ∙ width))
        (every-filter (IsRow trades.width) (λ (row : PlainRow). truth (Compare Ge (Cell 2) (Number (pos 50))) row.cells) trades.rows is.rows))
      where
        wider : (row : PlainRow) → length row.cells ≡ 4 → length (view_row (mul (Cell 2) (Cell 3) ∷ []) row).cells ≡ 5
        wider row four = length-append row.cells _ ∙ ap (λ n. n + 1) four

    j_sectors : AllByRecursion (λ (row : PlainRow). IsSector (cell row.cells 5)) j.rows
    j_sectors =
        every-map (λ (row : PlainRow). IsSector (cell row.cells 5)) (joined (1 ∷ []) (λ row. chosen Error (matches by_symbol ref_table.rows row))) val.rows
        (every_weaker (λ (row : PlainRow). length row.cells ≡ 5) (λ row. IsSector (cell (joined (1 ∷ []) (λ row. chosen Error (matches by_symbol ref_table.rows row)) row).cells 5)) val.rows joined_sector val_widths)

    few_sectors : length bysec.rows ≤ 64
    few_sectors =
        let few = few_groups 5 j.rows j_keys_rise sectors j_sectors in
        let count : length bysec.rows ≡ length (filter (is_first (5 ∷ []) j.rows) j.rows) = length-map (filter (is_first (5 ∷ []) j.rows) j.rows) (agg_row (5 ∷ []) (Count ∷ Sum 4 ∷ Max 3 ∷ []) j.rows) in
        omega (arith, few, count)

    few_top : length top10.rows ≤ 10
    few_top = let count : length (take 10 srt.rows) ≡ min 10 (length srt.rows) = length-take 10 srt.rows in omega (arith, count)

    pub no_publication_fault : publication_fault 0 outcomes plan.published ≡ None
    no_publication_fault =
        cond-false (ltb 64 (length bysec.rows)) (Some (ByPublication 0 (length bysec.rows))) (cond (ltb 10 (length top10.rows)) (Some (ByPublication 1 (length top10.rows))) None) (le-ltb 64 (length bysec.rows) few_sectors)
        ∙ cond-false (ltb 10 (length top10.rows)) (Some (ByPublication 1 (length top10.rows))) None (le-ltb 10 (length top10.rows) few_top)
