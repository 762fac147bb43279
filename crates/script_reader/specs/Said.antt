-- What a line says, by its form.
--     said_source script name columns file, said_node script name making, said_print script name, said_publish script name rows      the script after the line
use Rattle.std.specs.Prelude.{ℕ, ℤ, List, [], ◌∷◌, length, Option, Result}
use Rattle.script_lines.{specs.declared.fault.ScriptKind.ScriptKind, specs.declared.line.Declared.Declared, specs.declared.making.Making.Making, specs.Answers.◌>>=◌}
use Rattle.script_reader.{specs.declared.script.Script.Script, specs.Checks.{before_of, node_named, names_of, drafted, placed, printed, published, source_draft}}

abbrev pub said_source : Script → List ℕ → List Declared → Option (List ℕ) → Result Script ScriptKind
said_source script name columns file = placed script name (source_draft columns script.literals) (record { node = length script.plan.nodes; file = file } ∷ [])

abbrev pub said_node : Script → List ℕ → Making → Result Script ScriptKind
said_node script name making = drafted (before_of script) making >>= (λ draft. placed script name draft [])

abbrev pub said_print : Script → List ℕ → Result Script ScriptKind
said_print script name = node_named (names_of script.plan.nodes) name >>= printed script

abbrev pub said_publish : Script → List ℕ → ℤ → Result Script ScriptKind
said_publish script name rows = node_named (names_of script.plan.nodes) name >>= (λ node. published script node rows)
