-- What a script says, or its first refused line.
--     script_of bytes      the script, whose formulas lie nowhere, or the refusal of its first refused line; lines are counted from 1
use Rattle.std.specs.Prelude.{ℕ, ◌+◌, List, [], ◌∷◌, length, Result, Ok, Err, nat_lt, if◌then◌else◌}
use Rattle.script_lines.{specs.declared.fault.ScriptKind.ScriptKind, specs.declared.fault.ScriptKind.TheVariants.TooLong, specs.Answers.◌>>=◌, specs.Lines.{lines_of, line_of}}
use Rattle.script_reader.{specs.declared.script.Script.Script, specs.Checks.said}

-- a refused line and why
pub record Refusal : Type 0 where
  pub line : ℕ
  pub kind : ScriptKind

abbrev pub nothing : Script
nothing = record { plan = record { nodes = []; printed = []; published = [] }; literals = []; files = [] }

-- the script after a line
unfoldable pub after_line : Script → List ℕ → Result Script ScriptKind
after_line script line = line_of line >>= said script

-- the script after lines, of which the first has a number
abbrev pub going_on : ℕ → Result Script ScriptKind → (Script → Result Script Refusal) → Result Script Refusal
going_on number (Ok script) next = next script
going_on number (Err kind) next = Err (record { line = number; kind = kind })

unfoldable pub after_lines : ℕ → Script → List (List ℕ) → Result Script Refusal
after_lines number script [] = Ok script
after_lines number script (line ∷ lines) = going_on number (after_line script line) (λ next. after_lines (number + 1) next lines)

unfoldable pub script_of : List ℕ → Result Script Refusal
script_of bytes = if nat_lt 1048576 (length bytes) then Err (record { line = 0; kind = TooLong }) else after_lines 1 nothing (lines_of bytes)
