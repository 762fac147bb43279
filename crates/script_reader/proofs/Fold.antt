-- Going on from line to line.
use Rattle.std.proofs.Common.{◌≡◌, refl, ap, ℕ, ◌+◌, ◌<◌, arith, List, [], ◌∷◌, length, Option, Some, None, Ok, Bor}
use Rattle.std.specs.Prelude.{IfSome, IfNone}
use Rattle.script_lines.{specs.declared.fault.LineFault.LineFault, specs.Answers.Fails, specs.Lines.lines_of}
use Rattle.script_lines.specs.declared.fault.LineFault.TheVariants as faults
use Rattle.script_reader.{specs.declared.script.Script.Script, specs.Refusals.{at_line, Refuses}, specs.Scripts.{after_line, after_lines, going_on}}

-- the lines that are left, and more than how many bytes they have
abbrev pub lines_left : Option (Bor (List ℕ)) → List (List ℕ)
lines_left None = []
lines_left (Some rest) = lines_of rest.now

abbrev pub bytes_left : Option (Bor (List ℕ)) → ℕ
bytes_left None = 0
bytes_left (Some rest) = length rest.now + 1

-- a line that says something
pub one_line : (number : ℕ) (script next : Script) (line : List ℕ) (lines : List (List ℕ)) → after_line script line ≡ Ok next → after_lines number script (line ∷ lines) ≡ after_lines (number + 1) next lines
unfolding after_lines
one_line number script next line lines h = ap (λ r. going_on number r (λ next. after_lines (number + 1) next lines)) h

-- a line that is refused
pub refused_line : (number : ℕ) (script : Script) (line : List ℕ) (lines : List (List ℕ)) (fault : LineFault) → Fails fault (after_line script line) → Refuses (after_lines number script (line ∷ lines)) (at_line number fault)
unfolding after_lines
refused_line number script line lines faults.Memory h = tt
refused_line number script line lines (faults.Refused kind) h = ap (λ r. going_on number r (λ next. after_lines (number + 1) next lines)) h

pub no_lines : (number : ℕ) (script : Script) → after_lines number script [] ≡ Ok script
unfolding after_lines
no_lines number script = refl

-- the lines of a text are its first one and those that are left
pub next_line : (rest : Option (Bor (List ℕ))) (text line : List ℕ) → IfSome rest (λ later. lines_of text ≡ line ∷ lines_of later.now) → IfNone rest (lines_of text ≡ line ∷ []) → lines_of text ≡ line ∷ lines_left rest
next_line None text line some none = none
next_line (Some later) text line some none = some

pub fewer_bytes : (rest : Option (Bor (List ℕ))) (text : List ℕ) → IfSome rest (λ later. length later.now < length text) → bytes_left rest < length text + 1
fewer_bytes None text some = omega arith
fewer_bytes (Some later) text some = omega (arith, some)
