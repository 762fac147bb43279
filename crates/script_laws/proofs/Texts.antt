-- The formulas of a script that is read: their numbers are of 64 bits, and their literals are its texts, none of which is empty.
use Rattle.std.proofs.Common.{◌≡◌, refl, ap, Bool, true, false, not, ◌||◌, ℕ, zero, suc, ◌+◌, ◌<◌, ◌≤◌, arith, List, [], ◌∷◌, ◌++◌, length, length-append, Result, Ok}
use Rattle.std.{specs.Prelude.slice_index_or, specs.List.{AllByRecursion, list_all, list_any, position_or_len}, specs.Str.bytes_eq, proofs.lemmas.Bool.{cond_both, and_parts, and_from, lt-ltb, ltb-true}, proofs.lemmas.List.Sums.prefix_len-le-length}
use Rattle.key_lists.proofs.Every.{every-append}
use Rattle.tick_model.{specs.declared.plan.ColumnSpec.ColumnSpec, specs.declared.plan.Expr.{Expr, Cell, Number, Null, Literal, Rank, Neg', Add', Sub', Mul'}, specs.declared.plan.Pred.{Pred, Compare, And', Or', Not'}, specs.Changes.is_none, specs.Numbers.HasNumbers}
use Rattle.script_lines.{specs.declared.line.Computed.Computed, specs.declared.line.Formula.{Formula, Column, Number as Digits, Text as Quoted, Null as Nothing, Neg' as Minus', Add' as Plus', Sub' as Less', Mul' as Times'}, specs.declared.line.Test.{Test, Compare as Compares, And' as Both', Or' as Either', Not' as Never'}, specs.declared.fault.ScriptKind.ScriptKind, specs.Answers.◌>>=◌, specs.Kept.{FormulaKeeps, TestKeeps, ComputedKeeps}}
use Rattle.script_reader.{specs.Checks.{column_named, expr_of, pred_of, exprs_of, with_text, place_of}, specs.Plain.{add, sub, mul, both, either}}
use Rattle.script_laws.{specs.Literals.{names_literal, has_literals, has_test_literals}, proofs.Reading.{Holds, done, then, whatever}}

-- no text is empty
abbrev pub AreWritten : List (List ℕ) → Type 0
AreWritten = AllByRecursion (λ text. is_none text ≡ false)

-- no text is lost, and none that came is empty
pub record Grow (before after : List (List ℕ)) : Type 0 where
  pub longer : length before ≤ length after
  pub written : AreWritten after

pub not_grown : (texts : List (List ℕ)) → AreWritten texts → Grow texts texts
not_grown texts written = record { longer = omega arith; written = written }

pub grown_twice : (a b c : List (List ℕ)) → Grow a b → Grow b c → Grow a c
grown_twice a b c first next = let x = first.longer in let y = next.longer in record { longer = omega (arith, x, y); written = next.written }

written_at : (texts : List (List ℕ)) (i : ℕ) → AreWritten texts → i < length texts → is_none (slice_index_or texts i []) ≡ false
written_at [] i written less = absurd (omega (arith, less))
written_at (text ∷ texts) zero written less = written.0
written_at (text ∷ texts) (suc i) written less = written_at texts i written.1 (omega (arith, less))

named : (texts : List (List ℕ)) (i : ℕ) → AreWritten texts → i < length texts → names_literal texts i ≡ true
named texts i written less = and_from _ _ (lt-ltb i (length texts) less) (ap not (written_at texts i written less))

-- what names texts names them among more
module _ (before after : List (List ℕ)) (grow : Grow before after) where
  pub literals-grown : (e : Expr) → has_literals before e ≡ true → has_literals after e ≡ true
  literals-grown (Cell column) h = refl
  literals-grown (Number n) h = refl
  literals-grown Null h = refl
  literals-grown (Literal text) h =
      let within : text < length before = ltb-true text (length before) (and_parts _ (not (is_none (slice_index_or before text []))) h).0 in
      let more = grow.longer in
      named after text grow.written (omega (arith, within, more))
  literals-grown (Rank rank) h = h
  literals-grown (Neg' p a) h = literals-grown a h
  literals-grown (Add' p a q b) h = let parts = and_parts (has_literals before a) (has_literals before b) h in and_from _ _ (literals-grown a parts.0) (literals-grown b parts.1)
  literals-grown (Sub' p a q b) h = let parts = and_parts (has_literals before a) (has_literals before b) h in and_from _ _ (literals-grown a parts.0) (literals-grown b parts.1)
  literals-grown (Mul' p a q b) h = let parts = and_parts (has_literals before a) (has_literals before b) h in and_from _ _ (literals-grown a parts.0) (literals-grown b parts.1)

  pub test_literals-grown : (t : Pred) → has_test_literals before t ≡ true → has_test_literals after t ≡ true
  test_literals-grown (Compare how a b) h = let parts = and_parts (has_literals before a) (has_literals before b) h in and_from _ _ (literals-grown a parts.0) (literals-grown b parts.1)
  test_literals-grown (And' p a q b) h = let parts = and_parts (has_test_literals before a) (has_test_literals before b) h in and_from _ _ (test_literals-grown a parts.0) (test_literals-grown b parts.1)
  test_literals-grown (Or' p a q b) h = let parts = and_parts (has_test_literals before a) (has_test_literals before b) h in and_from _ _ (test_literals-grown a parts.0) (test_literals-grown b parts.1)
  test_literals-grown (Not' p a) h = test_literals-grown a h

  pub all_literals-grown : (es : List Expr) → list_all (has_literals before) es ≡ true → list_all (has_literals after) es ≡ true
  all_literals-grown [] h = refl
  all_literals-grown (e ∷ es) h = let parts = and_parts (has_literals before e) (list_all (has_literals before) es) h in and_from _ _ (literals-grown e parts.0) (all_literals-grown es parts.1)

-- a text with its place
place-among : (p : List ℕ → Bool) (texts : List (List ℕ)) → list_any p texts ≡ true → position_or_len p texts < length texts
place-among p [] h = absurd (cc)
place-among p (text ∷ texts) h =
    cond_both (not (p text)) (1 + position_or_len p texts) 0 (λ n. n < length (text ∷ texts))
    (λ e. let later = place-among p texts (later_any (p text) e h) in omega (arith, later)) (λ _. omega arith)
  where
    later_any : (b : Bool) → not b ≡ true → b || list_any p texts ≡ true → list_any p texts ≡ true
    later_any true e h = absurd (cc)
    later_any false e h = h

pub record IsWritten (before : List (List ℕ)) (text : List ℕ) (after : List (List ℕ)) : Type 0 where
  pub grown : Grow before after
  pub place : place_of text before < length after

text_written : (texts : List (List ℕ)) (text : List ℕ) → AreWritten texts → is_none text ≡ false → IsWritten texts text (with_text texts text)
text_written texts text written some =
    cond_both (list_any (bytes_eq text) texts) texts (texts ++ text ∷ []) (IsWritten texts text)
    (λ e. record { grown = not_grown texts written; place = place-among (bytes_eq text) texts e })
    (λ _.
    let longer : length (texts ++ text ∷ []) ≡ length texts + 1 = length-append texts (text ∷ []) in
    let place = prefix_len-le-length (λ other. not (bytes_eq text other)) texts in
    record {
      grown = record { longer = omega (arith, longer); written = every-append (λ text. is_none text ≡ false) texts (text ∷ []) written (some, tt) };
      place = omega (arith, longer, place);
    })

-- what is read of a formula
pub record IsFormula (before : List (List ℕ)) (found : Expr × List (List ℕ)) : Type 0 where
  pub grown : Grow before found.1
  pub literals : has_literals found.1 found.0 ≡ true
  pub numbers : HasNumbers found.0

module _ (columns : List ColumnSpec) where
  -- two formulas, one after the other
  two_read : (e : Expr → Expr → Expr) → ((texts : List (List ℕ)) (a b : Expr) → has_literals texts a ≡ true → has_literals texts b ≡ true → has_literals texts (e a b) ≡ true) → ((a b : Expr) → HasNumbers a → HasNumbers b → HasNumbers (e a b))
      → (texts : List (List ℕ)) (b : Formula) {first : Result (Expr × List (List ℕ)) ScriptKind} → Holds (IsFormula texts) first → ((more : List (List ℕ)) → AreWritten more → Holds (IsFormula more) (expr_of columns more b))
      → Holds (IsFormula texts) (first >>= (λ x. expr_of columns x.1 b >>= (λ y. Ok (e x.0 y.0, y.1))))
  two_read e literals numbers texts b first next =
      then first _ (λ x one. then (next x.1 one.grown.written) _ (λ y two. done (record {
        grown = grown_twice texts x.1 y.1 one.grown two.grown;
        literals = literals y.1 x.0 y.0 (literals-grown x.1 y.1 two.grown x.0 one.literals) two.literals;
        numbers = numbers x.0 y.0 one.numbers two.numbers;
      })))

  pub expr_read : (formula : Formula) (texts : List (List ℕ)) → AreWritten texts → FormulaKeeps formula → Holds (IsFormula texts) (expr_of columns texts formula)
  unfolding expr_of
  expr_read (Column name) texts written keeps = whatever (column_named columns name) _ (λ column. done (record { grown = not_grown texts written; literals = refl; numbers = tt }))
  expr_read (Digits n) texts written keeps = done (record { grown = not_grown texts written; literals = refl; numbers = keeps })
  expr_read (Quoted text) texts written keeps =
      let more = text_written texts text written keeps in
      done (record { grown = more.grown; literals = named (with_text texts text) (place_of text texts) more.grown.written more.place; numbers = tt })
  expr_read Nothing texts written keeps = done (record { grown = not_grown texts written; literals = refl; numbers = tt })
  expr_read (Minus' p a) texts written keeps = then (expr_read a texts written keeps) _ (λ x one. done (record { grown = one.grown; literals = one.literals; numbers = one.numbers }))
  expr_read (Plus' p a q b) texts written keeps = two_read add (λ texts a b. and_from _ _) (λ a b x y. (x, y)) texts b (expr_read a texts written keeps.0) (λ more still. expr_read b more still keeps.1)
  expr_read (Less' p a q b) texts written keeps = two_read sub (λ texts a b. and_from _ _) (λ a b x y. (x, y)) texts b (expr_read a texts written keeps.0) (λ more still. expr_read b more still keeps.1)
  expr_read (Times' p a q b) texts written keeps = two_read mul (λ texts a b. and_from _ _) (λ a b x y. (x, y)) texts b (expr_read a texts written keeps.0) (λ more still. expr_read b more still keeps.1)

-- what is read of a test
pub record IsTest (before : List (List ℕ)) (found : Pred × List (List ℕ)) : Type 0 where
  pub grown : Grow before found.1
  pub literals : has_test_literals found.1 found.0 ≡ true

module _ (columns : List ColumnSpec) where
  two_tests : (t : Pred → Pred → Pred) → ((texts : List (List ℕ)) (a b : Pred) → has_test_literals texts a ≡ true → has_test_literals texts b ≡ true → has_test_literals texts (t a b) ≡ true)
      → (texts : List (List ℕ)) (b : Test) {first : Result (Pred × List (List ℕ)) ScriptKind} → Holds (IsTest texts) first → ((more : List (List ℕ)) → AreWritten more → Holds (IsTest more) (pred_of columns more b))
      → Holds (IsTest texts) (first >>= (λ x. pred_of columns x.1 b >>= (λ y. Ok (t x.0 y.0, y.1))))
  two_tests t literals texts b first next =
      then first _ (λ x one. then (next x.1 one.grown.written) _ (λ y two. done (record {
        grown = grown_twice texts x.1 y.1 one.grown two.grown;
        literals = literals y.1 x.0 y.0 (test_literals-grown x.1 y.1 two.grown x.0 one.literals) two.literals;
      })))

  pub test_read : (test : Test) (texts : List (List ℕ)) → AreWritten texts → TestKeeps test → Holds (IsTest texts) (pred_of columns texts test)
  unfolding pred_of
  test_read (Compares how a b) texts written keeps =
      then (expr_read columns a texts written keeps.0) _ (λ x one. then (expr_read columns b x.1 one.grown.written keeps.1) _ (λ y two. done (record {
        grown = grown_twice texts x.1 y.1 one.grown two.grown;
        literals = and_from (has_literals y.1 x.0) (has_literals y.1 y.0) (literals-grown x.1 y.1 two.grown x.0 one.literals) two.literals;
      })))
  test_read (Both' p a q b) texts written keeps = two_tests both (λ texts a b. and_from _ _) texts b (test_read a texts written keeps.0) (λ more still. test_read b more still keeps.1)
  test_read (Either' p a q b) texts written keeps = two_tests either (λ texts a b. and_from _ _) texts b (test_read a texts written keeps.0) (λ more still. test_read b more still keeps.1)
  test_read (Never' p a) texts written keeps = then (test_read a texts written keeps) _ (λ x one. done (record { grown = one.grown; literals = one.literals }))

-- what is read of formulas, one behind the other
pub record AreFormulas (before : List (List ℕ)) (many : ℕ) (found : List Expr × List (List ℕ)) : Type 0 where
  pub long : length found.0 ≡ many
  pub grown : Grow before found.1
  pub literals : list_all (has_literals found.1) found.0 ≡ true
  pub numbers : AllByRecursion HasNumbers found.0

pub exprs_read : (columns : List ColumnSpec) (computed : List Computed) (texts : List (List ℕ)) → AreWritten texts → AllByRecursion ComputedKeeps computed → Holds (AreFormulas texts (length computed)) (exprs_of columns texts computed)
unfolding exprs_of
exprs_read columns [] texts written keeps = done (record { long = refl; grown = not_grown texts written; literals = refl; numbers = tt })
exprs_read columns (c ∷ computed) texts written keeps =
    then (expr_read columns c.formula texts written keeps.0.1) _ (λ x one. then (exprs_read columns computed x.1 one.grown.written keeps.1) _ (λ ys later. done (record {
      long = ap suc later.long;
      grown = grown_twice texts x.1 ys.1 one.grown later.grown;
      literals = and_from (has_literals ys.1 x.0) (list_all (has_literals ys.1) ys.0) (literals-grown x.1 ys.1 later.grown x.0 one.literals) later.literals;
      numbers = (one.numbers, later.numbers);
    })))
