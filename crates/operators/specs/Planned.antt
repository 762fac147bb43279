-- Operators of a plan.
--     op_at plan node      the operator of a node
--     input_widths plan op      the widths of the nodes that an operator reads
use Rattle.std.specs.Prelude.{ℕ, List, length, map, slice_index_or}
use Rattle.tick_model.{specs.declared.plan.Node.Node, specs.declared.plan.Op.Op, specs.declared.plan.Plan.Plan, specs.Operators.inputs_of, specs.Plans.columns_at}

abbrev pub op_at : Plan → ℕ → Node → Op
op_at plan node default = (slice_index_or plan.nodes node default).op

abbrev pub input_widths : Plan → Op → List ℕ
input_widths plan op = map (λ input. length (columns_at plan.nodes input)) (inputs_of op)
