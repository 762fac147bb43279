use Rattle.std.proofs.Common.{◌≡◌, length, map, take}
use Rattle.table_operator.specs.Inputs.{tables}
use Rattle.tick_model.specs.Sources.{source_ticks}
use Rattle.tick_table.specs.Exact.{ticking}
use Rattle.update_graph.proofs.sources.changed_sources.Given as goal

abbrev pub invariant-loop-source : goal.invariant-loop-source
invariant-loop-source l = tables l.changed.items ≡ map ticking (take (length l.yielded) (source_ticks l.fn.context.run.now l.fn.context.step))
