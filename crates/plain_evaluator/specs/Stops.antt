-- Why an evaluation has stopped.
use Rattle.std.specs.Prelude.{◌≡◌, ℕ, List, Some}
use Rattle.plain_evaluator.{specs.declared.evaluation.EvalStop.EvalStop, specs.declared.evaluation.EvalStop.TheVariants.{Memory, Node}, specs.declared.operators.NoTable.NoTable, specs.declared.operators.NoTable.TheVariants.{Memory as NoMemory, Fault}}
use Rattle.tick_model.{specs.Evaluation.Outcome, specs.Spoiled.{node_fault, ByNode}}

-- the least node that has no table although its inputs have theirs, and its fault; or want of memory, whatever the outcomes
abbrev pub IsCause : List Outcome → EvalStop → Type 0
IsCause outcomes Memory = Unit {0}
IsCause outcomes (Node node kind) = node_fault 0 outcomes ≡ Some (ByNode node kind)

-- what it is for an evaluation that a node gets no table
abbrev pub stop_at : ℕ → NoTable → EvalStop
stop_at node NoMemory = Memory
stop_at node (Fault kind) = Node node kind
