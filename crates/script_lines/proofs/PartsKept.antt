-- What is read of a line's parts keeps its rules, and so do the tokens after it.
use Rattle.std.proofs.Common.{◌≡◌, ℕ, zero, suc, true, cond, List, [], ◌∷◌, ◌++◌, Option, Some, None, Result, Ok, Err, ℤ, refl}
use Rattle.std.{specs.Prelude.{IfOk, IfSome, FitsSigned, codes}, specs.List.AllByRecursion, specs.Int.w64, specs.Str.bytes_eq, proofs.lemmas.Bool.cond_both}
use Rattle.key_lists.proofs.Every.{every-append}
use Rattle.tick_model.{specs.declared.plan.Comparison.Comparison, specs.declared.plan.Kind.Kind, specs.Names.is_name, specs.Columns.some_of}
use Rattle.script_lines.{specs.declared.fault.ScriptKind.ScriptKind, specs.declared.fault.ScriptKind.TheVariants.BadLine, specs.declared.line.Formula.{Formula, Column, Null}, specs.declared.line.Function.Function, specs.declared.line.Sorted.Sorted, specs.declared.line.Test.Test, specs.declared.lists.Separator.Separator, specs.declared.lists.Separator.TheVariants.{Comma, Nothing}, specs.declared.token.Token.Token, specs.Answers.{◌>>=◌, when_some}, specs.Bare.{add_of, sub_of, mul_of, and_of, or_of}, specs.Formulas.{Reading, after_word, after_mark, or_bad, word_expected, mark_expected, name_at, text_of, atom_at, product_at, term_at, sum_at, sum_over, factor_at, expr_at, comparison_of, comparison_at, compare_at, both_at, all_at, either_at, any_over, fact_at, test_at}, specs.Kept.{IsNamed, FormulaKeeps, TestKeeps, DeclaredKeeps, ComputedKeeps, PairKeeps, GatheredKeeps, MembersKeep}, specs.Members.{ends_bare, next_at, more_at, list_at, option_at, kind_at, declared_at, computed_at, pair_at, over_at, function_at, gathered_at, sorted_at, digits_at}}
use Rattle.script_lines.specs.declared.token.Token.TheVariants as tokens

-- a number of a line is one of 64 bits
abbrev pub TokenFits : Token → Type 0
TokenFits (tokens.Word word) = Unit {0}
TokenFits (tokens.Number n) = FitsSigned w64 n
TokenFits (tokens.Text text) = Unit {0}
TokenFits (tokens.Mark mark) = Unit {0}

pub record Fit (ts : List Token) : Type 0 where
  pub each : AllByRecursion TokenFits ts

pub later : {token : Token} {ts : List Token} → Fit (token ∷ ts) → Fit ts
later fit = record { each = fit.each.1 }

-- what is read keeps its rules
pub record Read {X : Type 0} (P : X → Type 0) (read : Reading X) : Type 0 where
  pub keeps : IfOk read (λ x. P x.0 × Fit x.1)

abbrev pub Keeps : {X : Type 0} → (X → Type 0) → (List Token → Reading X) → Type 0
Keeps P at = (ts : List Token) → Fit ts → Read P (at ts)

abbrev pub Any : {X : Type 0} → X → Type 0
Any x = Unit {0}

-- the tokens that are found, where they are
pub record Found (found : Option (List Token)) : Type 0 where
  pub fit : IfSome found Fit

pub record Rest (rest : Result (List Token) ScriptKind) : Type 0 where
  pub fit : IfOk rest Fit

pub done : {X : Type 0} {P : X → Type 0} {x : X} {ts : List Token} → P x → Fit ts → Read P (Ok (x, ts))
done good fit = record { keeps = (good, fit) }

pub refused : {X : Type 0} {P : X → Type 0} {kind : ScriptKind} → Read P (Err kind)
refused = record { keeps = tt }

-- one reading after another
pub then : {X Y : Type 0} {P : X → Type 0} {Q : Y → Type 0} {read : Reading X} → Read P read → (f : X × List Token → Reading Y) → ((x : X) (ts : List Token) → P x → Fit ts → Read Q (f (x, ts))) → Read Q (read >>= f)
then {read = Ok x} keeps f next = next x.0 x.1 keeps.keeps.0 keeps.keeps.1
then {read = Err kind} keeps f next = refused

pub behind : {Y : Type 0} {Q : Y → Type 0} {rest : Result (List Token) ScriptKind} → Rest rest → (f : List Token → Reading Y) → Keeps Q f → Read Q (rest >>= f)
behind {rest = Ok ts} rest f next = next ts rest.fit
behind {rest = Err kind} rest f next = refused

pub choose : {Y : Type 0} {Q : Y → Type 0} {found : Option (List Token)} {f : List Token → Reading Y} {other : Reading Y} → Found found → Keeps Q f → Read Q other → Read Q (when_some found f other)
choose {found = None} found next or = or
choose {found = Some ts} found next or = next ts found.fit

-- words and marks
pub word : (word : List ℕ) {ts : List Token} → Fit ts → Found (after_word word ts)
unfolding after_word
word w {ts = []} fit = record { fit = tt }
word w {ts = tokens.Word other ∷ rest} fit = record { fit = cond_both (bytes_eq other w) (Some rest) None (λ o. IfSome o Fit) (λ _. later fit) (λ _. tt) }
word w {ts = token ∷ rest} fit = record { fit = tt }

mark : (mark : List ℕ) {ts : List Token} → Fit ts → Found (after_mark mark ts)
unfolding after_mark
mark m {ts = []} fit = record { fit = tt }
mark m {ts = tokens.Mark other ∷ rest} fit = record { fit = cond_both (bytes_eq other m) (Some rest) None (λ o. IfSome o Fit) (λ _. later fit) (λ _. tt) }
mark m {ts = token ∷ rest} fit = record { fit = tt }

expected : {found : Option (List Token)} → Found found → Rest (or_bad found)
expected {found = None} found = record { fit = tt }
expected {found = Some ts} found = record { fit = found.fit }

pub word_after : (after : List ℕ) {ts : List Token} → Fit ts → Rest (word_expected after ts)
unfolding word_expected
word_after after fit = expected (word after fit)

pub mark_after : (after : List ℕ) {ts : List Token} → Fit ts → Rest (mark_expected after ts)
unfolding mark_expected
mark_after after fit = expected (mark after fit)

pub name-keeps : Keeps IsNamed name_at
unfolding name_at
name-keeps [] fit = refused
name-keeps (tokens.Word word ∷ rest) fit = cond_both (is_name word) (Ok (word, rest)) (Err BadLine) (λ r. Read IsNamed r) (λ e. done e (later fit)) (λ _. refused)
name-keeps (token ∷ rest) fit = refused

-- formulas
text-keeps : (text : List ℕ) → FormulaKeeps (text_of text)
text-keeps [] = tt
text-keeps (byte ∷ bytes) = refl

atom-keeps : Keeps FormulaKeeps atom_at
unfolding atom_at
atom-keeps [] fit = refused
atom-keeps (tokens.Word word ∷ rest) fit =
    cond_both (bytes_eq word (codes "null")) (Ok (Null, rest)) (cond (is_name word) (Ok (Column word, rest)) (Err BadLine)) (λ r. Read FormulaKeeps r) (λ _. done tt (later fit))
    (λ _. cond_both (is_name word) (Ok (Column word, rest)) (Err BadLine) (λ r. Read FormulaKeeps r) (λ e. done e (later fit)) (λ _. refused))
atom-keeps (tokens.Number n ∷ rest) fit = done fit.each.0 (later fit)
atom-keeps (tokens.Text text ∷ rest) fit = done (text-keeps text) (later fit)
atom-keeps (tokens.Mark mark ∷ rest) fit = refused

module _ (factor : List Token → Reading Formula) (keeps : Keeps FormulaKeeps factor) where
  product-keeps : (most : ℕ) (left : Formula) → FormulaKeeps left → Keeps FormulaKeeps (product_at factor most left)
  unfolding product_at
  product-keeps zero left good ts fit = refused
  product-keeps (suc most) left good ts fit = choose (mark _ fit) (λ rest fit. then (keeps rest fit) _ (λ right after is fit. product-keeps most (mul_of left right) (good, is) after fit)) (done good fit)

  term-keeps : Keeps FormulaKeeps (term_at factor)
  unfolding term_at
  term-keeps ts fit = then (keeps ts fit) _ (λ first after is fit. product-keeps 512 first is after fit)

  sum-keeps : (most : ℕ) (left : Formula) → FormulaKeeps left → Keeps FormulaKeeps (sum_at factor most left)
  unfolding sum_at
  sum-keeps zero left good ts fit = refused
  sum-keeps (suc most) left good ts fit =
      choose (mark _ fit) (λ rest fit. then (term-keeps rest fit) _ (λ right after is fit. sum-keeps most (add_of left right) (good, is) after fit))
      (choose (mark _ fit) (λ rest fit. then (term-keeps rest fit) _ (λ right after is fit. sum-keeps most (sub_of left right) (good, is) after fit)) (done good fit))

  sum_over-keeps : Keeps FormulaKeeps (sum_over factor)
  unfolding sum_over
  sum_over-keeps ts fit = then (term-keeps ts fit) _ (λ first after is fit. sum-keeps 512 first is after fit)

factor-keeps : (depth : ℕ) → Keeps FormulaKeeps (factor_at depth)
unfolding factor_at
factor-keeps zero ts fit = refused
factor-keeps (suc depth) ts fit =
    choose (mark _ fit) (λ rest fit. then (factor-keeps depth rest fit) _ (λ inner after is fit. done is fit))
    (choose (mark _ fit) (λ rest fit. then (sum_over-keeps (factor_at depth) (factor-keeps depth) rest fit) _ (λ inner after is fit. behind (mark_after _ fit) _ (λ last fit. done is fit))) (atom-keeps ts fit))

expr-keeps : Keeps FormulaKeeps expr_at
unfolding expr_at
expr-keeps = sum_over-keeps (factor_at 512) (factor-keeps 512)

-- tests
comparison-keeps : Keeps (Any {X = Comparison}) comparison_at
unfolding comparison_at
comparison-keeps [] fit = refused
comparison-keeps (tokens.Mark mark ∷ rest) fit = found (comparison_of mark) rest (later fit)
  where
    found : (how : Option Comparison) (rest : List Token) → Fit rest → Read (Any {X = Comparison}) (or_bad how >>= (λ h. Ok (h, rest)))
    found None rest fit = refused
    found (Some how) rest fit = done tt fit
comparison-keeps (token ∷ rest) fit = refused

compare-keeps : Keeps TestKeeps compare_at
unfolding compare_at
compare-keeps ts fit = then (expr-keeps ts fit) _ (λ left ts is fit. then (comparison-keeps ts fit) _ (λ how ts _ fit. then (expr-keeps ts fit) _ (λ right ts good fit. done (is, good) fit)))

module _ (fact : List Token → Reading Test) (keeps : Keeps TestKeeps fact) where
  both-keeps : (most : ℕ) (left : Test) → TestKeeps left → Keeps TestKeeps (both_at fact most left)
  unfolding both_at
  both-keeps zero left good ts fit = refused
  both-keeps (suc most) left good ts fit = choose (word _ fit) (λ rest fit. then (keeps rest fit) _ (λ right after is fit. both-keeps most (and_of left right) (good, is) after fit)) (done good fit)

  all-keeps : Keeps TestKeeps (all_at fact)
  unfolding all_at
  all-keeps ts fit = then (keeps ts fit) _ (λ first after is fit. both-keeps 512 first is after fit)

  either-keeps : (most : ℕ) (left : Test) → TestKeeps left → Keeps TestKeeps (either_at fact most left)
  unfolding either_at
  either-keeps zero left good ts fit = refused
  either-keeps (suc most) left good ts fit = choose (word _ fit) (λ rest fit. then (all-keeps rest fit) _ (λ right after is fit. either-keeps most (or_of left right) (good, is) after fit)) (done good fit)

  any_over-keeps : Keeps TestKeeps (any_over fact)
  unfolding any_over
  any_over-keeps ts fit = then (all-keeps ts fit) _ (λ first after is fit. either-keeps 512 first is after fit)

fact-keeps : (depth : ℕ) → Keeps TestKeeps (fact_at depth)
unfolding fact_at
fact-keeps zero ts fit = refused
fact-keeps (suc depth) ts fit =
    choose (word _ fit) (λ rest fit. then (fact-keeps depth rest fit) _ (λ inner after is fit. done is fit))
    (choose (mark _ fit) (λ rest fit. then (any_over-keeps (fact_at depth) (fact-keeps depth) rest fit) _ (λ inner after is fit. behind (mark_after _ fit) _ (λ last fit. done is fit))) (compare-keeps ts fit))

pub test-keeps : Keeps TestKeeps test_at
unfolding test_at
test-keeps = any_over-keeps (fact_at 512) (fact-keeps 512)

-- lists
next : (separator : Separator) {ts : List Token} → Fit ts → Found (next_at separator ts)
unfolding next_at
next Comma fit = mark _ fit
next Nothing {ts} fit = record { fit = cond_both (ends_bare ts) None (Some ts) (λ o. IfSome o Fit) (λ _. tt) (λ _. fit) }

some_of-more : {X : Type 0} (members : List X) (member : X) → some_of (members ++ member ∷ []) ≡ true
some_of-more [] member = refl
some_of-more (first ∷ members) member = refl

module _ {X : Type 0} (P : X → Type 0) (item : List Token → Reading X) (keeps : Keeps P item) where
  more-keeps : (most : ℕ) (separator : Separator) (members : List X) → MembersKeep P members → Keeps (MembersKeep P) (more_at item most separator members)
  unfolding more_at
  more-keeps zero separator members good ts fit = refused
  more-keeps (suc most) separator members good ts fit =
      choose (next separator fit) (λ rest fit. then (keeps rest fit) _ (λ member after is fit. more-keeps most separator (members ++ member ∷ []) (some_of-more members member, every-append P members (member ∷ []) good.1 (is, tt)) after fit)) (done good fit)

  pub list-keeps : (separator : Separator) → Keeps (MembersKeep P) (list_at item separator)
  unfolding list_at
  list-keeps separator ts fit = then (keeps ts fit) _ (λ first after is fit. more-keeps 512 separator (first ∷ []) (refl, (is, tt)) after fit)

  all_members : {read : Reading (List X)} → Read (MembersKeep P) read → Read (AllByRecursion P) read
  all_members {read = Ok x} keeps = done keeps.keeps.0.1 keeps.keeps.1
  all_members {read = Err kind} keeps = refused

  pub option-keeps : (after : List ℕ) → Keeps (AllByRecursion P) (option_at item after)
  unfolding option_at
  option-keeps after ts fit = choose (word _ fit) (λ rest fit. all_members (list-keeps Comma rest fit)) (done tt fit)

-- members
kind-keeps : Keeps (Any {X = Kind}) kind_at
unfolding kind_at
kind-keeps ts fit = choose (word _ fit) (λ rest. done tt) (choose (word _ fit) (λ rest. done tt) refused)

pub declared-keeps : Keeps DeclaredKeeps declared_at
unfolding declared_at
declared-keeps ts fit = then (name-keeps ts fit) _ (λ name ts is fit. behind (mark_after _ fit) _ (λ ts fit. then (kind-keeps ts fit) _ (λ kind ts _. done is)))

pub computed-keeps : Keeps ComputedKeeps computed_at
unfolding computed_at
computed-keeps ts fit = then (name-keeps ts fit) _ (λ name ts is fit. behind (mark_after _ fit) _ (λ ts fit. then (expr-keeps ts fit) _ (λ formula ts good. done (is, good))))

pub pair-keeps : Keeps PairKeeps pair_at
unfolding pair_at
pair-keeps ts fit = then (name-keeps ts fit) _ (λ first ts is fit. choose (mark _ fit) (λ ts fit. then (name-keeps ts fit) _ (λ second ts good. done (is, good))) (done (is, is) fit))

over-keeps : (of : List ℕ → Function) → Keeps (Any {X = Function}) (over_at of)
unfolding over_at
over-keeps of ts fit = then (name-keeps ts fit) _ (λ name ts _. done tt)

function-keeps : Keeps (Any {X = Function}) function_at
unfolding function_at
function-keeps ts fit =
    choose (word _ fit) (λ rest. done tt) (choose (word _ fit) (over-keeps _) (choose (word _ fit) (over-keeps _) (choose (word _ fit) (over-keeps _) (choose (word _ fit) (over-keeps _) (choose (word _ fit) (over-keeps _) refused)))))

pub gathered-keeps : Keeps GatheredKeeps gathered_at
unfolding gathered_at
gathered-keeps ts fit = then (name-keeps ts fit) _ (λ name ts is fit. behind (mark_after _ fit) _ (λ ts fit. then (function-keeps ts fit) _ (λ function ts _. done is)))

pub sorted-keeps : Keeps (Any {X = Sorted}) sorted_at
unfolding sorted_at
sorted-keeps ts fit = choose (mark _ fit) (λ ts fit. then (name-keeps ts fit) _ (λ name ts _. done tt)) (then (name-keeps ts fit) _ (λ name ts _. done tt))

pub digits-keep : Keeps (Any {X = ℤ}) digits_at
unfolding digits_at
digits-keep [] fit = refused
digits-keep (tokens.Number n ∷ rest) fit = done tt (later fit)
digits-keep (token ∷ rest) fit = refused
