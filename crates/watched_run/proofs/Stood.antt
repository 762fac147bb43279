-- The graph of a watched run, by parts that are equal.
use Rattle.std.proofs.Common.{◌≡◌, sym, ap, ◌∙◌, subst, ℕ, suc, ◌+◌, ◌<◌, ◌≤◌, ◌^◌, arith, length, Option, Some, None}
use Rattle.std.specs.Prelude.{MatchOption}
use Rattle.tick_laws.specs.Reached.{IsReached}
use Rattle.tick_model.{specs.declared.feed.Run.Run, specs.Evaluation.table_at, specs.LawfulRuns.IsLawfulRun, specs.States.{state, tick}}
use Rattle.tick_table.{specs.Exact.ticking, specs.Ticking.Ticking}
use Rattle.replay.proofs.TablesInTurn.{table_now}
use Rattle.watched_run.{specs.declared.watch.Watch.Watch, specs.Messages.IsWatch}

module _ (run : Run) (watch : Watch) (w : IsWatch run watch) where
  pub node_of : (other : Run) → other ≡ run → watch.node < length other.plan.nodes
  node_of other same = subst (λ (of : Run). watch.node < length of.plan.nodes) (sym same) w.node

  -- its table of the node is that of the run
  pub tick_of_node : (step : ℕ) (other : Run) (at : ℕ) (table : Ticking) → other ≡ run → at ≡ step → table ≡ ticking (tick other at watch.node) → table ≡ ticking (tick run step watch.node)
  tick_of_node step other at table same here is =
      is ∙ ap (λ (of : Run). ticking (tick of at watch.node)) same ∙ ap (λ n. ticking (tick run n watch.node)) here

pub table_of : (run : Run) → IsLawfulRun run → (watch : Watch) → IsWatch run watch → (step : ℕ) → IsReached run step → (other : Run) (at : ℕ) (table : Ticking) → other ≡ run → at ≡ step → table ≡ ticking (tick other at watch.node)
    → table.new ≡ table_at (state run step) watch.node
table_of run lawful watch w step reached other at table same here is =
    table_now run lawful step reached watch.node w.node table (tick_of_node run watch w step other at table same here is)

-- there are few steps
pub few_steps : (run : Run) → IsLawfulRun run → (step : ℕ) → step ≤ length run.batches → step < 2 ^ 64
few_steps run lawful step within = omega (arith, lawful.steps, within)

-- where no table is held, none was to be
pub none_held : (held : Option Ticking) (none : Type 0) (some : Ticking → Type 0) → held ≡ None → MatchOption held none some → none
none_held None none some is given = given
none_held (Some table) none some is given = cc

pub some_held : (held : Option Ticking) (table : Ticking) (none : Type 0) (some : Ticking → Type 0) → held ≡ Some table → MatchOption held none some → some table
some_held None table none some is given = cc
some_held (Some other) table none some is given = let same : other ≡ table = cc in subst some same given
