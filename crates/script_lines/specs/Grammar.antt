-- The forms of lines, over the tokens of a line.
--     line_at tokens      what the line says, where it is of the grammar
--     KeepsRules line      what are to be names are names, numbers are of 64 bits, texts in formulas are not empty, and lists have members
use Rattle.std.specs.Prelude.{ℕ, ◌==◌, List, [], ◌∷◌, length, Option, Some, None, Result, Ok, Err, codes, if◌then◌else◌}
use Rattle.script_lines.{specs.declared.fault.ScriptKind.ScriptKind, specs.declared.fault.ScriptKind.TheVariants.BadLine, specs.declared.line.Line.Line, specs.declared.line.Line.TheVariants.{Skipped, Source, Node, Print, Publish}, specs.declared.lists.Separator.TheVariants.Nothing, specs.declared.token.Token.Token, specs.Answers.{◌>>=◌, when_some}, specs.Formulas.{Reading, after_word, mark_expected, name_at}, specs.Kept.{IsNamed, DeclaredKeeps, MembersKeep}, specs.Making.{making_at, MakingKeeps}, specs.Members.{list_at, declared_at, digits_at}}
use Rattle.script_lines.specs.declared.token.Token.TheVariants as tokens

-- NAME = MAKING
unfoldable pub node_at : List Token → Reading Line
node_at ts = do
  name ← name_at ts
  rest ← mark_expected (codes "=") name.1
  making ← making_at rest
  Ok (Node name.0 making.0, making.1)

-- [from TEXT]: the empty text is null and names no file
unfoldable pub file_name_at : List Token → Reading (Option (List ℕ))
file_name_at [] = Err BadLine
file_name_at (tokens.Word word ∷ rest) = Err BadLine
file_name_at (tokens.Number n ∷ rest) = Err BadLine
file_name_at (tokens.Text [] ∷ rest) = Err BadLine
file_name_at (tokens.Text (byte ∷ bytes) ∷ rest) = Ok (Some (byte ∷ bytes), rest)
file_name_at (tokens.Mark mark ∷ rest) = Err BadLine

unfoldable pub file_at : List Token → Reading (Option (List ℕ))
file_at ts = when_some (after_word (codes "from") ts) file_name_at (Ok (None, ts))

-- NAME COL : KIND {COL : KIND} [from TEXT]
unfoldable pub source_at : List Token → Reading Line
source_at ts = do
  name ← name_at ts
  columns ← list_at declared_at Nothing name.1
  file ← file_at columns.1
  Ok (Source name.0 columns.0 file.0, file.1)

unfoldable pub print_at : List Token → Reading Line
print_at ts = do
  name ← name_at ts
  Ok (Print name.0, name.1)

unfoldable pub publish_at : List Token → Reading Line
publish_at ts = do
  name ← name_at ts
  rows ← digits_at name.1
  Ok (Publish name.0 rows.0, rows.1)

unfoldable pub form_at : List Token → Reading Line
form_at ts =
    when_some (after_word (codes "table") ts) source_at
    (when_some (after_word (codes "print") ts) print_at
    (when_some (after_word (codes "publish") ts) publish_at
    (node_at ts)))

-- nothing may follow
abbrev pub alone : {X : Type 0} → X × List Token → Result X ScriptKind
alone read = if length read.1 == 0 then Ok read.0 else Err BadLine

unfoldable pub line_at : List Token → Result Line ScriptKind
line_at ts = form_at ts >>= alone

abbrev pub KeepsRules : Line → Type 0
KeepsRules Skipped = Unit {0}
KeepsRules (Source name columns file) = IsNamed name × MembersKeep DeclaredKeeps columns
KeepsRules (Node name making) = IsNamed name × MakingKeeps making
KeepsRules (Print name) = IsNamed name
KeepsRules (Publish name rows) = IsNamed name
