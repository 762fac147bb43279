use Rattle.std.proofs.Common.{◌≡◌, ◌≤◌, ℕ, List, drop, map}
use Rattle.std.specs.Borrow.{Bor}
use Rattle.tick_model.specs.declared.plan.Node.{Node}
use Rattle.feed_run.{specs.Headline.NoLoadFailed, proofs.TableLemmas.{AsksOn, Opens}}
use Rattle.feed_run.proofs.tables.open_sources.Given as goal

abbrev pub invariant-loop-source : goal.invariant-loop-source
invariant-loop-source g l = record {
  opens : Opens g.I.Inputs.told (g.I.Inputs.content l.initial.inputs) (map (λ (source : Bor Node). source.now) l.sources) l.files (drop l.source-index (map (λ (source : Bor Node). source.now) l.sources)) l.left l.tables;
  never_falls : (other : List ℕ) → g.I.Inputs.failures l.initial.inputs other ≤ g.I.Inputs.failures l.inputs other;
  kept : g.I.Inputs.content l.inputs ≡ g.I.Inputs.content l.initial.inputs;
  asks : AsksOn g.I.Inputs.told (g.I.Inputs.content l.initial.inputs) (map (λ (source : Bor Node). source.now) l.sources) l.files (drop l.source-index (map (λ (source : Bor Node). source.now) l.sources)) l.left (g.I.Inputs.asked l.initial.inputs) (g.I.Inputs.asked l.inputs);
  steady : NoLoadFailed g.I.Inputs.failures l.initial.inputs l.inputs;
}
