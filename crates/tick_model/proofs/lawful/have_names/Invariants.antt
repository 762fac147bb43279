use Rattle.std.proofs.Common.{◌≡◌, drop}
use Rattle.std.specs.List.{list_all}
use Rattle.tick_model.{specs.declared.plan.ColumnSpec.ColumnSpec, specs.Names.is_name}
use Rattle.tick_model.proofs.lawful.have_names.Given as goal

abbrev pub invariant-loop-column : goal.invariant-loop-column
invariant-loop-column l = list_all (λ (column : ColumnSpec). is_name column.name) (drop l.column-index l.columns) ≡ list_all (λ (column : ColumnSpec). is_name column.name) l.columns
