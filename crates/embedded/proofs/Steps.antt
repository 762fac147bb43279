-- A node's table at a step of a graph.
use Rattle.std.proofs.Common.{◌≡◌, sym, ap, ◌∙◌, subst, ℕ, suc, ◌+◌, ◌<◌, add-one, length}
use Rattle.tick_laws.{specs.Reached.{IsReached, IsTickFrom}, proofs.RunTicks.lawful_ticks}
use Rattle.tick_model.{specs.declared.feed.Run.Run, specs.Evaluation.table_at, specs.LawfulRuns.IsLawfulRun, specs.States.{state, tick}}
use Rattle.tick_table.{specs.Exact.{IsExact, ticking}, specs.Ticking.Ticking, proofs.ExactAgain.exact_again}

module _ (run : Run) (lawful : IsLawfulRun run) (node : ℕ) (there : node < length run.plan.nodes) (other : Run) (at : ℕ) (same : other ≡ run) (reached : IsReached other at) (table : Ticking) (is : table ≡ ticking (tick other at node)) where
  own : (step : ℕ) → at ≡ step → table ≡ ticking (tick run step node)
  own step here = is ∙ ap (λ (of : Run). ticking (tick of at node)) same ∙ ap (λ n. ticking (tick run n node)) here

  own_reached : (step : ℕ) → at ≡ step → IsReached run step
  own_reached step here = subst (IsReached run) here (subst (λ (of : Run). IsReached of at) same reached)

  -- its rows are those of the step
  pub table_now : (step : ℕ) → at ≡ step → table.new ≡ table_at (state run step) node
  table_now step here =
      ap (λ (t : Ticking). t.new) (own step here) ∙ (lawful_ticks run lawful step (own_reached step here) node there).new_is

  -- after a cycle its rows before are those of the step before, and its update is the one between the two
  module _ (step : ℕ) (next : at ≡ step + 1) where
    one : IsTickFrom (table_at (state run step) node) (table_at (state run (suc step)) node) (tick run (suc step) node)
    one = lawful_ticks run lawful (suc step) (own_reached (suc step) (next ∙ add-one step)) node there

    pub stands_before : table_at (state run step) node ≡ table.old
    stands_before = sym (ap (λ (t : Ticking). t.old) (own (suc step) (next ∙ add-one step)) ∙ one.old_is)

    pub is_exact : IsExact table
    is_exact = subst IsExact (sym (own (suc step) (next ∙ add-one step))) (exact_again (tick run (suc step) node) one.is_tick)
