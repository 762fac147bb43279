-- What a call gives of an outcome.
--     Gives result outcome      its table, or its fault; out of memory says nothing
use Rattle.std.specs.Prelude.{◌≡◌, Result, Ok, Err}
use Rattle.plain_evaluator.{specs.declared.operators.NoTable.NoTable, specs.declared.operators.NoTable.TheVariants.{Memory, Fault as ByFault}}
use Rattle.tick_model.{specs.Evaluation.{Outcome, Table, Fault}, specs.declared.table.PlainTable.PlainTable}

-- what a call says of an outcome: its table, or its fault
abbrev pub Gives : Result PlainTable NoTable → Outcome → Type 0
Gives (Ok table) outcome = outcome ≡ Table table
Gives (Err Memory) outcome = Unit {0}
Gives (Err (ByFault fault)) outcome = outcome ≡ Fault fault
