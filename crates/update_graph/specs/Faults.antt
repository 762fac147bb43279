-- Why nodes have no tables.
--     fault_in outcome      the fault of a node that has no table although its inputs have theirs
use Rattle.std.specs.Prelude.{Option, Some, None}
use Rattle.tick_model.{specs.declared.table.NodeFault.NodeFault, specs.Evaluation.{Outcome, Table, Fault, NoInput}}

abbrev pub fault_in : Outcome → Option NodeFault
fault_in (Table table) = None
fault_in (Fault fault) = Some fault
fault_in NoInput = None
