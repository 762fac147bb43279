-- The lines of a script.
--     lines_of bytes      the lines of a script, without their ends
--     line_of bytes      what a line says, or why it is refused by itself
use Rattle.std.{specs.Prelude.{ℕ, ◌==◌, Bool, true, not, List, [], ◌∷◌, Result, Ok, Err, if◌then◌else◌}, specs.List.slice_split, specs.Str.is_utf8}
use Rattle.script_lines.{specs.declared.fault.ScriptKind.ScriptKind, specs.declared.fault.ScriptKind.TheVariants.NotUtf8, specs.declared.line.Line.Line, specs.declared.line.Line.TheVariants.Skipped, specs.Answers.◌>>=◌, specs.Tokens.{is_blank, tokens_of}, specs.Grammar.line_at}

-- a carriage return directly before a line feed is dropped
abbrev pub without_return : List ℕ → List ℕ
without_return [] = []
without_return (byte ∷ []) = if byte == 13 then [] else byte ∷ []
without_return (byte ∷ next ∷ bytes) = byte ∷ without_return (next ∷ bytes)

-- each piece but the last was ended by a line feed; the last keeps a carriage return at its end
abbrev pub ended : List (List ℕ) → List (List ℕ)
ended [] = []
ended (last ∷ []) = last ∷ []
ended (piece ∷ next ∷ pieces) = without_return piece ∷ ended (next ∷ pieces)

-- where the script ends with a line feed this has one line more, a blank one, which says nothing
abbrev pub lines_of : List ℕ → List (List ℕ)
lines_of bytes = ended (slice_split (λ byte. byte == 10) bytes)

-- blanks alone, or a `#` after blanks
abbrev pub is_skipped : List ℕ → Bool
is_skipped [] = true
is_skipped (byte ∷ bytes) = if is_blank byte then is_skipped bytes else byte == 35

unfoldable pub line_of : List ℕ → Result Line ScriptKind
line_of bytes =
    if not (is_utf8 bytes) then Err NotUtf8
    else (if is_skipped bytes then Ok Skipped
    else (tokens_of bytes >>= line_at))
