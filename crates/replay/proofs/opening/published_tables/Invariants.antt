use Rattle.std.proofs.Common.{◌≡◌, map, take}
use Rattle.std.specs.Arc.{arc_value}
use Rattle.tick_model.{specs.declared.plan.Published.Published, specs.Evaluation.table_at, specs.States.state}
use Rattle.tick_table.specs.Ticking.{Ticking}
use Rattle.replay.proofs.opening.published_tables.Given as goal

abbrev pub invariant-loop-table : goal.invariant-loop-table
invariant-loop-table l = map (λ shared. (arc_value {X = Ticking} shared).new) l.tables.items ≡ map (λ (table : Published). table_at (state l.graph.run 0) table.node) (take l.table-index l.published)
