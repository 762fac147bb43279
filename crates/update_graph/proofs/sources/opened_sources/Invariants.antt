use Rattle.std.proofs.Common.{◌≡◌, map, take}
use Rattle.table_operator.specs.Inputs.{tables}
use Rattle.tick_model.specs.Sources.{opened}
use Rattle.tick_table.specs.Exact.{ticking}
use Rattle.update_graph.proofs.sources.opened_sources.Given as goal

abbrev pub invariant-loop-table : goal.invariant-loop-table
invariant-loop-table l = tables l.sources.items ≡ map ticking (map opened (take l.table-index l.opening))
