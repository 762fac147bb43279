-- How many rows the nodes have at a step that a run reaches.
use Rattle.std.proofs.Common.{◌≡◌, sym, ap, ◌∙◌, subst, ℕ, ◌+◌, ◌<◌, ◌++◌, length, List, [], ◌∷◌, take, get_or}
use Rattle.std.proofs.lemmas.List.{get_or-map, length-map, take_more}
use Rattle.tick_laws.{specs.Reached.IsReached, proofs.EvalNodes.length_outcomes, proofs.Paired.no_node, proofs.RunTicks.lawful_ticks}
use Rattle.tick_model.{specs.declared.feed.Run.Run, specs.declared.table.PlainRow.PlainRow, specs.declared.table.PlainTable.PlainTable, specs.Evaluation.{NoInput, Outcome, table_of}, specs.LawfulRuns.IsLawfulRun, specs.Sources.sources, specs.States.{state, tick}, specs.Tables.keys}
use Rattle.tick_table.{specs.Exact.ticking, specs.Ticking.Ticking}
use Rattle.replay.specs.Outcomes.{row_counts}

abbrev rows_of : Outcome → ℕ
rows_of outcome = length (table_of outcome).rows

module _ (run : Run) (step : ℕ) where
  pub length-row_counts : length (row_counts run step) ≡ length run.plan.nodes
  length-row_counts = length-map (state run step) rows_of ∙ length_outcomes run.plan.nodes no_node (sources run step)

  -- the count of one node more
  pub counts_more : IsLawfulRun run → IsReached run step → (node count : ℕ) (table : Ticking) (held : List ℕ) → node < length run.plan.nodes → table ≡ ticking (tick run step node) → held ≡ keys table.new.rows → count ≡ length held →
      take (node + 1) (row_counts run step) ≡ take node (row_counts run step) ++ count ∷ []
  counts_more lawful reached node count table held less is keeps counts =
      let within : node < length (row_counts run step) = subst (λ n. node < n) (sym length-row_counts) less in
      let inside : node < length (state run step) = subst (λ n. node < n) (sym (length_outcomes run.plan.nodes no_node (sources run step))) less in
      let counted : count ≡ get_or (row_counts run step) node 0 =
      counts ∙ ap length keeps ∙ length-map table.new.rows (λ (row : PlainRow). row.key)
      ∙ ap (λ (of : Ticking). length of.new.rows) is
      ∙ ap (λ (of : PlainTable). length of.rows) (lawful_ticks run lawful step reached node less).new_is
      ∙ sym (get_or-map rows_of (state run step) node NoInput 0 inside) in
      take_more (row_counts run step) node 0 within ∙ ap (λ n. take node (row_counts run step) ++ n ∷ []) (sym counted)
