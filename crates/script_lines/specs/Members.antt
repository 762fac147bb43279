-- Members of lists, and lists of them, over the tokens of a line.
--     list_at item_at separator tokens      one member or more
--     option_at item_at word tokens      a word and then such a list, or nothing
use Rattle.std.{specs.Prelude.{ℕ, zero, suc, Bool, true, false, ℤ, List, [], ◌∷◌, ◌++◌, Option, Some, None, Ok, Err, codes, if◌then◌else◌}, specs.Str.bytes_eq}
use Rattle.tick_model.specs.declared.plan.Kind.{Kind}
use Rattle.tick_model.specs.declared.plan.Kind.TheVariants as kinds
use Rattle.script_lines.{specs.declared.fault.ScriptKind.TheVariants.BadLine, specs.declared.line.Computed.Computed, specs.declared.line.Declared.Declared, specs.declared.line.Function.Function, specs.declared.line.Function.TheVariants.{Count, Sum, Min, Max, First, Last}, specs.declared.line.AggColumn.AggColumn, specs.declared.line.Pair.Pair, specs.declared.line.Sorted.Sorted, specs.declared.lists.Separator.Separator, specs.declared.lists.Separator.TheVariants.{Comma, Nothing}, specs.declared.token.Token.Token, specs.Answers.{◌>>=◌, when_some}, specs.Formulas.{Reading, after_word, after_mark, mark_expected, name_at, expr_at}}
use Rattle.script_lines.specs.declared.token.Token.TheVariants as tokens

-- whether a list without separators ends: at the end of the line, or at the word `from`
abbrev pub ends_bare : List Token → Bool
ends_bare [] = true
ends_bare (tokens.Word word ∷ rest) = bytes_eq word (codes "from")
ends_bare (tokens.Number n ∷ rest) = false
ends_bare (tokens.Text text ∷ rest) = false
ends_bare (tokens.Mark mark ∷ rest) = false

-- where the next member of a list begins, if there is one
unfoldable pub next_at : Separator → List Token → Option (List Token)
next_at Comma ts = after_mark (codes ",") ts
next_at Nothing ts = if ends_bare ts then None else Some ts

-- further members after those so far; a line of 512 tokens has fewer than 512
module _ {X : Type 0} (item_at : List Token → Reading X) where
  unfoldable pub more_at : ℕ → Separator → List X → List Token → Reading (List X)
  more_at zero separator members ts = Err BadLine
  more_at (suc most) separator members ts =
      when_some (next_at separator ts) (λ rest. item_at rest >>= (λ member. more_at most separator (members ++ member.0 ∷ []) member.1)) (Ok (members, ts))

  unfoldable pub list_at : Separator → List Token → Reading (List X)
  list_at separator ts = item_at ts >>= (λ first. more_at 512 separator (first.0 ∷ []) first.1)

  -- [word list]
  unfoldable pub option_at : List ℕ → List Token → Reading (List X)
  option_at word ts = when_some (after_word word ts) (λ rest. list_at Comma rest) (Ok ([], ts))

-- long or text
unfoldable pub kind_at : List Token → Reading Kind
kind_at ts =
    when_some (after_word (codes "long") ts) (λ rest. Ok (kinds.Long, rest))
    (when_some (after_word (codes "text") ts) (λ rest. Ok (kinds.Text, rest))
    (Err BadLine))

-- COL : KIND
unfoldable pub declared_at : List Token → Reading Declared
declared_at ts = do
  name ← name_at ts
  rest ← mark_expected (codes ":") name.1
  kind ← kind_at rest
  Ok (record { name = name.0; kind = kind.0 }, kind.1)

-- COL = EXPR
unfoldable pub computed_at : List Token → Reading Computed
computed_at ts = do
  name ← name_at ts
  rest ← mark_expected (codes "=") name.1
  formula ← expr_at rest
  Ok (record { name = name.0; formula = formula.0 }, formula.1)

-- COL [= COL]: one alone stands for both
unfoldable pub pair_at : List Token → Reading Pair
pair_at ts = do
  first ← name_at ts
  when_some (after_mark (codes "=") first.1) (λ rest. name_at rest >>= (λ second. Ok (record { first = first.0; second = second.0 }, second.1)))
      (Ok (record { first = first.0; second = first.0 }, first.1))

-- a function over a column
unfoldable pub over_at : (List ℕ → Function) → List Token → Reading Function
over_at of ts = do
  name ← name_at ts
  Ok (of name.0, name.1)

unfoldable pub function_at : List Token → Reading Function
function_at ts =
    when_some (after_word (codes "count") ts) (λ rest. Ok (Count, rest))
    (when_some (after_word (codes "sum") ts) (over_at Sum)
    (when_some (after_word (codes "min") ts) (over_at Min)
    (when_some (after_word (codes "max") ts) (over_at Max)
    (when_some (after_word (codes "first") ts) (over_at First)
    (when_some (after_word (codes "last") ts) (over_at Last)
    (Err BadLine))))))

-- COL = FUNC
unfoldable pub gathered_at : List Token → Reading AggColumn
gathered_at ts = do
  name ← name_at ts
  rest ← mark_expected (codes "=") name.1
  function ← function_at rest
  Ok (record { name = name.0; function = function.0 }, function.1)

-- [-] COL
unfoldable pub sorted_at : List Token → Reading Sorted
sorted_at ts =
    when_some (after_mark (codes "-") ts) (λ rest. name_at rest >>= (λ name. Ok (record { name = name.0; descending = true }, name.1)))
    (name_at ts >>= (λ name. Ok (record { name = name.0; descending = false }, name.1)))

unfoldable pub digits_at : List Token → Reading ℤ
digits_at [] = Err BadLine
digits_at (tokens.Word word ∷ rest) = Err BadLine
digits_at (tokens.Number n ∷ rest) = Ok (n, rest)
digits_at (tokens.Text text ∷ rest) = Err BadLine
digits_at (tokens.Mark mark ∷ rest) = Err BadLine
