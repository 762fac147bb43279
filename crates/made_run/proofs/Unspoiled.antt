-- No step of a made run is spoiled.
use Rattle.std.proofs.Common.{◌≡◌, refl, ap, ap₂, sym, ◌∙◌, subst, ℕ, ◌+◌, ◌^◌, ◌<◌, ◌≤◌, arith, false, List, [], ◌∷◌, length, None}
use Rattle.std.{specs.Prelude.{is_some, option_map}, specs.List.range_with_len, specs.Option.option_or, proofs.lemmas.List.length-map, proofs.lemmas.List.FromFn.{length-map-range_with_len, length-range_with_len}}
use Rattle.key_lists.{proofs.Every.find_none, proofs.Ranges.each_from}
use Rattle.tick_model.{specs.declared.table.PlainRow.PlainRow, specs.declared.table.PlainTable.PlainTable, specs.Evaluation.{eval, table_at}, specs.LawfulRuns.sources_of, specs.Sources.{batch_fault, sources}, specs.Spoiled.{ByBatch, first_spoiled, node_fault, publication_fault, spoiled_by}, specs.States.state, specs.Tables.keys}
use Rattle.tick_laws.{specs.Bounded.{AreSourceTables, IsNodeTable}, proofs.LawfulSources.sources_bounded}
use Rattle.made_run.{specs.Plan.{nodes, plan}, specs.Run.made, specs.Steps.{batch_after, rows_after}, specs.Tables.ref_table, proofs.Lawful.made_is_lawful, proofs.Outcomes.{no_node_fault, no_publication_fault, outcomes, outcomes_are}, proofs.Rows.rows_are_few, proofs.Searches.{mapped_none, or_none}, proofs.Trades.{no_batch_fault, sources_made, trades, trades_keys}}

module _ (steps : ℕ) (few : steps ≤ 10000) where
  -- trades at a step is a table of its width
  trades_is : (step : ℕ) → step ≤ steps → IsNodeTable 4 (2 ^ 40) (trades step)
  trades_is step h =
      let bounded : AreSourceTables (sources_of nodes) (sources (made steps) step) = sources_bounded (made steps) (made_is_lawful steps few) step (λ s below. no_batch_fault steps few s (omega (arith, below, h))) in
      let tables : AreSourceTables (sources_of nodes) (trades step ∷ ref_table ∷ []) = subst (AreSourceTables (sources_of nodes)) (sources_made steps step h) bounded in
      tables.0

  rows_few : (step : ℕ) → step ≤ steps → length (trades step).rows ≤ 200000
  rows_few step h =
      let within : step ≤ 10000 = omega (arith, few, h) in
      let count : length (trades step).rows ≡ rows_after step = sym (length-map (trades step).rows (λ (row : PlainRow). row.key)) ∙ ap length (trades_keys step within) ∙ length-range_with_len 0 (rows_after step) in
      let most = rows_are_few step within in
      omega (arith, count, most)

  -- the outcomes of the nodes at a step
  pub state_is : (step : ℕ) → step ≤ steps → state (made steps) step ≡ outcomes (trades step)
  state_is step h = ap (eval plan) (sources_made steps step h) ∙ outcomes_are (trades step) (rows_few step h)

  pub numbered : (step : ℕ) → step ≤ steps → keys (table_at (state (made steps) step) 0).rows ≡ range_with_len 0 (rows_after step)
  numbered step h = ap (λ outcomes. keys (table_at outcomes 0).rows) (state_is step h) ∙ trades_keys step (omega (arith, few, h))

  not_spoiled : (step : ℕ) → step ≤ steps → spoiled_by (made steps) step ≡ None
  not_spoiled step h =
      or_none (option_map (λ broken. ByBatch broken.0 broken.1) (batch_fault (made steps) step)) (option_or (node_fault 0 (state (made steps) step)) (publication_fault 0 (state (made steps) step) plan.published))
      (mapped_none (λ broken. ByBatch broken.0 broken.1) (batch_fault (made steps) step) (no_batch_fault steps few step h))
      (or_none (node_fault 0 (state (made steps) step)) (publication_fault 0 (state (made steps) step) plan.published)
      (ap (node_fault 0) (state_is step h) ∙ no_node_fault (trades step))
      (ap (λ outcomes. publication_fault 0 outcomes plan.published) (state_is step h) ∙ no_publication_fault (trades step) (trades_is step h).is_table (trades_is step h).width_is))

  pub none_is_spoiled : first_spoiled (made steps) ≡ None
  none_is_spoiled =
      let count = length-map-range_with_len batch_after 0 steps in
      find_none (λ step. is_some (spoiled_by (made steps) step)) (range_with_len 0 (length (made steps).batches + 1))
      (each_from (λ step. is_some (spoiled_by (made steps) step) ≡ false) 0 (length (made steps).batches + 1) (λ step low high. ap is_some (not_spoiled step (omega (arith, count, high)))))
