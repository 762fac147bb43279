use Rattle.std.proofs.Common.{◌≡◌, map, drop, not}
use Rattle.std.{specs.Prelude.◌==◌, specs.List.list_all}
use Rattle.tick_model.specs.declared.plan.Published.{Published}
use Rattle.tick_model.proofs.lawful.is_not_published.Given as goal

abbrev pub invariant-loop-table : goal.invariant-loop-table
invariant-loop-table l = list_all (λ other. not (l.node == other)) (map (λ (table : Published). table.node) (drop l.table-index l.published)) ≡ list_all (λ other. not (l.node == other)) (map (λ (table : Published). table.node) l.published)
