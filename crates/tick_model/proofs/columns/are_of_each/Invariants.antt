use Rattle.std.proofs.Common.{◌≡◌, drop}
use Rattle.std.specs.List.{list_all}
use Rattle.tick_model.{specs.Plans.columns_at, specs.Columns.same_columns}
use Rattle.tick_model.proofs.columns.are_of_each.Given as goal

abbrev pub invariant-loop-input : goal.invariant-loop-input
invariant-loop-input l = list_all (λ from. same_columns l.columns (columns_at l.nodes from)) (drop l.input-index l.inputs) ≡ list_all (λ from. same_columns l.columns (columns_at l.nodes from)) l.inputs
