-- What a fault of a reader tells.
--     at_line number fault      the fault of a line, told with its number
--     Refuses answer fault      the fault is the refusal that the definition gives, unless memory ran out
use Rattle.std.specs.Prelude.{◌≡◌, ℕ, Result, Err}
use Rattle.script_lines.specs.declared.fault.LineFault.{LineFault}
use Rattle.script_lines.specs.declared.fault.LineFault.TheVariants as lines
use Rattle.script_reader.{specs.declared.fault.ScriptFault.ScriptFault, specs.declared.fault.ScriptFault.TheVariants.{Memory, Refused}, specs.declared.script.Script.Script, specs.Scripts.Refusal}

abbrev pub at_line : ℕ → LineFault → ScriptFault
at_line number lines.Memory = Memory
at_line number (lines.Refused kind) = Refused number kind

abbrev pub Refuses : Result Script Refusal → ScriptFault → Type 0
Refuses answer Memory = Unit {0}
Refuses answer (Refused number kind) = answer ≡ Err (record { line = number; kind = kind })
