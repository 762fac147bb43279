-- Formulas and tests over the tokens of a line. Each reading gives what it read and the tokens after it.
--     after_word w tokens, after_mark m tokens      what follows the word or the mark, where the tokens begin with it
--     name_at tokens      a name
--     expr_at tokens      EXPR: TERM { (+ or -) TERM }, where TERM is FACTOR { * FACTOR }, grouped from the left
--     test_at tokens      PRED: CONJ { or CONJ }, where CONJ is FACT { and FACT }, grouped from the left
use Rattle.std.{specs.Prelude.{ℕ, zero, suc, List, [], ◌∷◌, Option, Some, None, Result, Ok, Err, codes, if◌then◌else◌}, specs.Str.bytes_eq}
use Rattle.tick_model.{specs.declared.plan.Comparison.Comparison, specs.declared.plan.Comparison.TheVariants.{Eq, Ne, Lt, Le, Gt, Ge}, specs.Names.is_name}
use Rattle.script_lines.{specs.declared.fault.ScriptKind.ScriptKind, specs.declared.fault.ScriptKind.TheVariants.BadLine, specs.declared.line.Formula.{Formula, Column, Number, Text, Null}, specs.declared.line.Test.{Test, Compare}, specs.declared.token.Token.Token, specs.Answers.{◌>>=◌, when_some}, specs.Bare.{neg_of, add_of, sub_of, mul_of, and_of, or_of, not_of}}
use Rattle.script_lines.specs.declared.token.Token.TheVariants as tokens

-- what is read, and the tokens after it
abbrev pub Reading : Type 0 → Type 0
Reading X = Result (X × List Token) ScriptKind

unfoldable pub after_word : List ℕ → List Token → Option (List Token)
after_word word [] = None
after_word word (tokens.Word other ∷ rest) = if bytes_eq other word then Some rest else None
after_word word (tokens.Number n ∷ rest) = None
after_word word (tokens.Text text ∷ rest) = None
after_word word (tokens.Mark mark ∷ rest) = None

unfoldable pub after_mark : List ℕ → List Token → Option (List Token)
after_mark mark [] = None
after_mark mark (tokens.Word word ∷ rest) = None
after_mark mark (tokens.Number n ∷ rest) = None
after_mark mark (tokens.Text text ∷ rest) = None
after_mark mark (tokens.Mark other ∷ rest) = if bytes_eq other mark then Some rest else None

abbrev pub or_bad : {X : Type 0} → Option X → Result X ScriptKind
or_bad None = Err BadLine
or_bad (Some x) = Ok x

unfoldable pub word_expected : List ℕ → List Token → Result (List Token) ScriptKind
word_expected word ts = or_bad (after_word word ts)

unfoldable pub mark_expected : List ℕ → List Token → Result (List Token) ScriptKind
mark_expected mark ts = or_bad (after_mark mark ts)

unfoldable pub name_at : List Token → Reading (List ℕ)
name_at [] = Err BadLine
name_at (tokens.Word word ∷ rest) = if is_name word then Ok (word, rest) else Err BadLine
name_at (tokens.Number n ∷ rest) = Err BadLine
name_at (tokens.Text text ∷ rest) = Err BadLine
name_at (tokens.Mark mark ∷ rest) = Err BadLine

-- the empty text is null
abbrev pub text_of : List ℕ → Formula
text_of [] = Null
text_of (byte ∷ bytes) = Text (byte ∷ bytes)

-- a number, a text, null or a column
unfoldable pub atom_at : List Token → Reading Formula
atom_at [] = Err BadLine
atom_at (tokens.Word word ∷ rest) = if bytes_eq word (codes "null") then Ok (Null, rest) else (if is_name word then Ok (Column word, rest) else Err BadLine)
atom_at (tokens.Number n ∷ rest) = Ok (Number n, rest)
atom_at (tokens.Text text ∷ rest) = Ok (text_of text, rest)
atom_at (tokens.Mark mark ∷ rest) = Err BadLine

-- over a reading of factors: what the left is multiplied by, grouped from the left; a line of 512 tokens has fewer factors than 512
unfoldable pub product_at : (List Token → Reading Formula) → ℕ → Formula → List Token → Reading Formula
product_at factor zero left ts = Err BadLine
product_at factor (suc most) left ts =
    when_some (after_mark (codes "*") ts) (λ rest. factor rest >>= (λ right. product_at factor most (mul_of left right.0) right.1)) (Ok (left, ts))

unfoldable pub term_at : (List Token → Reading Formula) → List Token → Reading Formula
term_at factor ts = factor ts >>= (λ first. product_at factor 512 first.0 first.1)

-- what is added to the left, grouped from the left
unfoldable pub sum_at : (List Token → Reading Formula) → ℕ → Formula → List Token → Reading Formula
sum_at factor zero left ts = Err BadLine
sum_at factor (suc most) left ts =
    when_some (after_mark (codes "+") ts) (λ rest. term_at factor rest >>= (λ right. sum_at factor most (add_of left right.0) right.1))
    (when_some (after_mark (codes "-") ts) (λ rest. term_at factor rest >>= (λ right. sum_at factor most (sub_of left right.0) right.1))
    (Ok (left, ts)))

unfoldable pub sum_over : (List Token → Reading Formula) → List Token → Reading Formula
sum_over factor ts = term_at factor ts >>= (λ first. sum_at factor 512 first.0 first.1)

-- - FACTOR, ( EXPR ), or an atom: factors stand in one another at most so deep, and each takes a token
unfoldable pub factor_at : ℕ → List Token → Reading Formula
factor_at zero ts = Err BadLine
factor_at (suc depth) ts =
    when_some (after_mark (codes "-") ts) (λ rest. factor_at depth rest >>= (λ inner. Ok (neg_of inner.0, inner.1)))
    (when_some (after_mark (codes "(") ts) (λ rest. sum_over (factor_at depth) rest >>= (λ inner. mark_expected (codes ")") inner.1 >>= (λ after. Ok (inner.0, after))))
    (atom_at ts))

unfoldable pub expr_at : List Token → Reading Formula
expr_at ts = sum_over (factor_at 512) ts

abbrev pub comparison_of : List ℕ → Option Comparison
comparison_of mark =
    if bytes_eq mark (codes "=") then Some Eq
    else (if bytes_eq mark (codes "!=") then Some Ne
    else (if bytes_eq mark (codes "<") then Some Lt
    else (if bytes_eq mark (codes "<=") then Some Le
    else (if bytes_eq mark (codes ">") then Some Gt
    else (if bytes_eq mark (codes ">=") then Some Ge else None)))))

unfoldable pub comparison_at : List Token → Reading Comparison
comparison_at [] = Err BadLine
comparison_at (tokens.Word word ∷ rest) = Err BadLine
comparison_at (tokens.Number n ∷ rest) = Err BadLine
comparison_at (tokens.Text text ∷ rest) = Err BadLine
comparison_at (tokens.Mark mark ∷ rest) = or_bad (comparison_of mark) >>= (λ how. Ok (how, rest))

-- EXPR COMPARISON EXPR
unfoldable pub compare_at : List Token → Reading Test
compare_at ts = do
  left ← expr_at ts
  how ← comparison_at left.1
  right ← expr_at how.1
  Ok (Compare how.0 left.0 right.0, right.1)

-- over a reading of facts: { and FACT }
unfoldable pub both_at : (List Token → Reading Test) → ℕ → Test → List Token → Reading Test
both_at fact zero left ts = Err BadLine
both_at fact (suc most) left ts =
    when_some (after_word (codes "and") ts) (λ rest. fact rest >>= (λ right. both_at fact most (and_of left right.0) right.1)) (Ok (left, ts))

unfoldable pub all_at : (List Token → Reading Test) → List Token → Reading Test
all_at fact ts = fact ts >>= (λ first. both_at fact 512 first.0 first.1)

-- { or CONJ }
unfoldable pub either_at : (List Token → Reading Test) → ℕ → Test → List Token → Reading Test
either_at fact zero left ts = Err BadLine
either_at fact (suc most) left ts =
    when_some (after_word (codes "or") ts) (λ rest. all_at fact rest >>= (λ right. either_at fact most (or_of left right.0) right.1)) (Ok (left, ts))

unfoldable pub any_over : (List Token → Reading Test) → List Token → Reading Test
any_over fact ts = all_at fact ts >>= (λ first. either_at fact 512 first.0 first.1)

-- not FACT, [ PRED ], or a comparison
unfoldable pub fact_at : ℕ → List Token → Reading Test
fact_at zero ts = Err BadLine
fact_at (suc depth) ts =
    when_some (after_word (codes "not") ts) (λ rest. fact_at depth rest >>= (λ inner. Ok (not_of inner.0, inner.1)))
    (when_some (after_mark (codes "[") ts) (λ rest. any_over (fact_at depth) rest >>= (λ inner. mark_expected (codes "]") inner.1 >>= (λ after. Ok (inner.0, after))))
    (compare_at ts))

unfoldable pub test_at : List Token → Reading Test
test_at ts = any_over (fact_at 512) ts
