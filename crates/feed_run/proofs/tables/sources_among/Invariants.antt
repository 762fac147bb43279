use Rattle.std.proofs.Common.{◌≡◌, map, take}
use Rattle.std.specs.Borrow.{Bor}
use Rattle.tick_model.{specs.declared.plan.Node.Node, specs.LawfulRuns.sources_of}
use Rattle.feed_run.proofs.tables.sources_among.Given as goal

abbrev pub invariant-loop-node : goal.invariant-loop-node
invariant-loop-node l = map (λ (source : Bor Node). source.now) l.sources.items ≡ sources_of (take l.node-index l.nodes)
