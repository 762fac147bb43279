use Rattle.std.proofs.Common.{◌≡◌, drop, is_some}
use Rattle.std.specs.List.{list_all}
use Rattle.tick_model.{specs.declared.plan.SortBy.SortBy, specs.Columns.kind_at}
use Rattle.tick_model.proofs.columns.are_columns.Given as goal

abbrev pub invariant-loop-sort : goal.invariant-loop-sort
invariant-loop-sort l = list_all (λ (sort : SortBy). is_some (kind_at l.input sort.column)) (drop l.sort-index l.by) ≡ list_all (λ (sort : SortBy). is_some (kind_at l.input sort.column)) l.by
