use Rattle.std.proofs.Common.{◌∙◌, ap, sym}
use Rattle.tick_model.{specs.Operators.inputs_of, specs.States.empty_at}
use Rattle.tick_table.specs.Ticking.{no_rows}
use Rattle.operators.{specs.Planned.{input_widths, op_at}, proofs.Each.empty_result, proofs.Planning.{empty_inputs, empty_node, lawful_at, planned_node}}
use Rattle.operators.proofs.laws.lawful_operators_begin_empty.Goals as goal

pub returns-clause-inputs : goal.returns-clause-inputs
returns-clause-inputs c = λ plan lawful node default less. empty_inputs plan node (inputs_of (op_at plan node default)) less (lawful_at plan node default lawful less).lesser

pub returns-clause-result : goal.returns-clause-result
returns-clause-result c =
    λ plan lawful node default less is.
    let op = op_at plan node default in
    empty_result op (empty_at plan) (input_widths plan op) (empty_inputs plan node (inputs_of op) less (lawful_at plan node default lawful less).lesser)
    ∙ ap no_rows (planned_node plan node default lawful less is).width ∙ sym (empty_node plan node less)
