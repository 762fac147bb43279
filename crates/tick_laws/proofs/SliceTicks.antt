-- The change of a slice over several steps is a tick.
use Rattle.std.proofs.Common.{◌≡◌, refl, sym, ◌∙◌, subst, ℕ, zero, suc, ◌+◌, ◌<◌, arith, List, take, drop, length}
use Rattle.std.proofs.lemmas.List.{length-map}
use Rattle.key_lists.proofs.Parts.{every-take, every-drop}
use Rattle.tick_model.{specs.declared.feed.Run.Run, specs.declared.table.PlainRow.PlainRow, specs.declared.table.PlainTable.PlainTable, specs.Tables.{cell, IsRow, IsTable}, specs.Shifts.composed, specs.Updates.IsTick, specs.Changes.{change_of, changed}, specs.Evaluation.table_at, specs.LawfulRuns.IsLawfulRun, specs.Slices.{chosen_cells, kept_over, slice, slice_tick, first_tick}, specs.States.{state, tick}}
use Rattle.tick_laws.{specs.Reached.IsReached, proofs.Composed.composed_tick, proofs.OperatorTicks.all_both_in, proofs.ReachedTables.reached_tables, proofs.ResultTables.{mapped_table, rising-take, rising-drop}, proofs.RunTicks.{lawful_ticks, reached_before}, proofs.SourceTicks.{opened_tick, unchanged_tick}, proofs.TickNodes.tick_from, proofs.ToldRows.change-carries}

-- a slice of a table is a table
pub slice_table : (first count : ℕ) (columns : List ℕ) (table : PlainTable) → IsTable table → IsTable (slice first count columns table)
slice_table first count columns table h =
    mapped_table (length columns) (chosen_cells columns) (record { width = table.width; rows = take count (drop first table.rows) })
    (record {
      rows = every-take (IsRow table.width) count (drop first table.rows) (every-drop (IsRow table.width) first table.rows h.rows);
      rising = rising-take (λ (row : PlainRow). row.key) count (drop first table.rows) (rising-drop (λ (row : PlainRow). row.key) first table.rows h.rising);
    })
    (λ row. refl) (λ row w. length-map columns (cell row.cells))

module _ (run : Run) (h : IsLawfulRun run) (node : ℕ) (within : node < length run.plan.nodes) where
  abbrev at : ℕ → PlainTable
  at step = table_at (state run step) node

  -- the pairs kept over several steps are those of a tick
  over_tick : (step more last : ℕ) → last ≡ step + more → IsReached run last → IsTick (tick_from (at step) (at last) (kept_over run node step more))
  over_tick step zero last e r =
      let same : step ≡ last = omega (arith, e) in
      subst (λ k. IsTick (tick_from (at step) (at k) (kept_over run node step zero))) same
      (unchanged_tick (at step) ((reached_tables run h step (reached_before run step last (omega (arith, e)) r)).tables node))
  over_tick step (suc more) last e r =
      let before = step + more in
      let next : suc before ≡ step + suc more = omega arith in
      let same : step + suc more ≡ last = sym e in
      let one = lawful_ticks run h (suc before) (subst (IsReached run) (sym (next ∙ same)) r) node within in
      let some = over_tick step more before refl (reached_before run before last (omega (arith, e)) r) in
      let t = tick run (suc before) node in
      let both = composed_tick (tick_from (at step) (at before) (kept_over run node step more)) t some one.is_tick (sym one.old_is) in
      subst (λ k. IsTick (tick_from (at step) (at k) (kept_over run node step (suc more)))) same
      (subst (λ k. IsTick (tick_from (at step) (at k) (composed (kept_over run node step more) (tick run k node).kept))) next
      (subst (λ new. IsTick (tick_from (at step) new (composed (kept_over run node step more) t.kept))) one.new_is both))

  pub kept_over_tick : (step more : ℕ) → IsReached run (step + more) → IsTick (tick_from (at step) (at (step + more)) (kept_over run node step more))
  kept_over_tick step more r = over_tick step more (step + more) refl r

  -- and those of which both rows are in the slice are those of a tick between slices
  pub slice_is_tick : (first count : ℕ) (columns : List ℕ) (step more : ℕ) → IsReached run (step + more) → IsTick (slice_tick run node (slice first count columns) step more)
  slice_is_tick first count columns step more r =
      let over = kept_over_tick step more r in
      all_both_in (tick_from (at step) (at (step + more)) (kept_over run node step more)) (slice first count columns (at step)) (slice first count columns (at (step + more))) over
      (slice_table first count columns (at step) over.old_table) (slice_table first count columns (at (step + more)) over.new_table) refl

  pub slice_first_tick : (first count : ℕ) (columns : List ℕ) (step : ℕ) → IsReached run step → IsTick (first_tick run node (slice first count columns) step)
  slice_first_tick first count columns step r = opened_tick (slice first count columns (at step)) (slice_table first count columns (at step) ((reached_tables run h step r).tables node))

  pub slice_carries : (first count : ℕ) (columns : List ℕ) (step more : ℕ) → IsReached run (step + more)
      → changed (slice first count columns (at step)) (change_of (slice_tick run node (slice first count columns) step more)) ≡ slice first count columns (at (step + more))
  slice_carries first count columns step more r = change-carries (slice_tick run node (slice first count columns) step more) (slice_is_tick first count columns step more r)
