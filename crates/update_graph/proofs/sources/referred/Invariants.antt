use Rattle.std.proofs.Common.{◌≡◌, map, take}
use Rattle.std.specs.Borrow.{Bor}
use Rattle.table_operator.specs.Inputs.{tables}
use Rattle.tick_table.specs.Ticking.{Ticking}
use Rattle.update_graph.proofs.sources.referred.Given as goal

abbrev pub invariant-loop-table : goal.invariant-loop-table
invariant-loop-table l = map (λ (table : Bor Ticking). table.now) l.referred.items ≡ tables (take l.table-index l.shared)
