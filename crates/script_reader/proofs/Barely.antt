-- Where the parts of a line lie makes no difference to what it says.
use Rattle.std.proofs.Common.{◌≡◌, refl, ap, ◌∙◌, ℕ, List, [], ◌∷◌, ◌++◌, map, Result, Ok, Err}
use Rattle.tick_model.{specs.declared.plan.ColumnSpec.ColumnSpec, specs.declared.plan.Expr.Expr, specs.declared.plan.Pred.{Pred, Compare}, specs.Columns.{kinds_of, test_fits}}
use Rattle.tick_model.specs.declared.plan.Op.TheVariants as ops
use Rattle.script_lines.{specs.declared.fault.ScriptKind.ScriptKind, specs.declared.line.Computed.Computed, specs.declared.line.Formula.{Formula, Column, Number as Digits, Text as Quoted, Null as Nothing, Neg' as Minus', Add' as Plus', Sub' as Less', Mul' as Times'}, specs.declared.line.Line.Line, specs.declared.making.Making.Making, specs.declared.making.Making.TheVariants.{Keep, View}, specs.declared.line.Test.{Test, Compare as Compares, And' as Both', Or' as Either', Not' as Never'}, specs.Answers.◌>>=◌, specs.Bare.{bare, bare_test, bare_column, bare_making, bare_line}}
use Rattle.script_lines.specs.declared.line.Line.TheVariants as lines
use Rattle.script_reader.{specs.declared.script.Script.Script, specs.Checks.{Before, Draft, expr_of, pred_of, exprs_of, kept, viewed, drafted, said, node_named, table_at, placed, before_of, draft_of, all_there, expr_kinds, named_columns}, specs.Plain.{neg, add, sub, mul, both, either, negated}}

-- a part, and then another after its texts
module _ {X Y : Type 0} where
  abbrev made : (X → Y) → X × List (List ℕ) → Result (Y × List (List ℕ)) ScriptKind
  made g x = Ok (g x.0, x.1)

  abbrev then_second : (X → X → Y) → (List (List ℕ) → Result (X × List (List ℕ)) ScriptKind) → X × List (List ℕ) → Result (Y × List (List ℕ)) ScriptKind
  then_second g second x = second x.1 >>= made (g x.0)

  two_parts : (r s : Result (X × List (List ℕ)) ScriptKind) (f h : List (List ℕ) → Result (X × List (List ℕ)) ScriptKind) (g : X → X → Y) → r ≡ s → ((literals : List (List ℕ)) → f literals ≡ h literals)
      → r >>= then_second g f ≡ s >>= then_second g h
  two_parts r s f h g e same = ap (λ r. r >>= then_second g f) e ∙ seconds s
    where
      seconds : (s : Result (X × List (List ℕ)) ScriptKind) → s >>= then_second g f ≡ s >>= then_second g h
      seconds (Ok x) = ap (λ r. r >>= made (g x.0)) (same x.1)
      seconds (Err kind) = refl

module _ (columns : List ColumnSpec) where
  pub expr_bare : (literals : List (List ℕ)) (formula : Formula) → expr_of columns literals (bare formula) ≡ expr_of columns literals formula
  unfolding expr_of
  expr_bare literals (Column name) = refl
  expr_bare literals (Digits n) = refl
  expr_bare literals (Quoted text) = refl
  expr_bare literals Nothing = refl
  expr_bare literals (Minus' p a) = ap (λ r. r >>= made neg) (expr_bare literals a)
  expr_bare literals (Plus' p a q b) = two_parts _ _ (λ l. expr_of columns l (bare b)) (λ l. expr_of columns l b) add (expr_bare literals a) (λ l. expr_bare l b)
  expr_bare literals (Less' p a q b) = two_parts _ _ (λ l. expr_of columns l (bare b)) (λ l. expr_of columns l b) sub (expr_bare literals a) (λ l. expr_bare l b)
  expr_bare literals (Times' p a q b) = two_parts _ _ (λ l. expr_of columns l (bare b)) (λ l. expr_of columns l b) mul (expr_bare literals a) (λ l. expr_bare l b)

  pub pred_bare : (literals : List (List ℕ)) (test : Test) → pred_of columns literals (bare_test test) ≡ pred_of columns literals test
  unfolding pred_of
  pred_bare literals (Compares how a b) = two_parts _ _ (λ l. expr_of columns l (bare b)) (λ l. expr_of columns l b) (Compare how) (expr_bare literals a) (λ l. expr_bare l b)
  pred_bare literals (Both' p a q b) = two_parts _ _ (λ l. pred_of columns l (bare_test b)) (λ l. pred_of columns l b) both (pred_bare literals a) (λ l. pred_bare l b)
  pred_bare literals (Either' p a q b) = two_parts _ _ (λ l. pred_of columns l (bare_test b)) (λ l. pred_of columns l b) either (pred_bare literals a) (λ l. pred_bare l b)
  pred_bare literals (Never' p a) = ap (λ r. r >>= made negated) (pred_bare literals a)

  abbrev with_first : Expr → List Expr × List (List ℕ) → Result (List Expr × List (List ℕ)) ScriptKind
  with_first x found = Ok (x ∷ found.0, found.1)

  abbrev then_all : (List (List ℕ) → Result (List Expr × List (List ℕ)) ScriptKind) → Expr × List (List ℕ) → Result (List Expr × List (List ℕ)) ScriptKind
  then_all more x = more x.1 >>= with_first x.0

  all_same : (r s : Result (Expr × List (List ℕ)) ScriptKind) (f h : List (List ℕ) → Result (List Expr × List (List ℕ)) ScriptKind) → r ≡ s → ((literals : List (List ℕ)) → f literals ≡ h literals) → r >>= then_all f ≡ s >>= then_all h
  all_same r s f h e same = ap (λ r. r >>= then_all f) e ∙ laters s
    where
      laters : (s : Result (Expr × List (List ℕ)) ScriptKind) → s >>= then_all f ≡ s >>= then_all h
      laters (Ok x) = ap (λ r. r >>= with_first x.0) (same x.1)
      laters (Err kind) = refl

  pub exprs_bare : (literals : List (List ℕ)) (computed : List Computed) → exprs_of columns literals (map bare_column computed) ≡ exprs_of columns literals computed
  unfolding exprs_of
  exprs_bare literals [] = refl
  exprs_bare literals (c ∷ computed) =
      all_same _ _ (λ l. exprs_of columns l (map bare_column computed)) (λ l. exprs_of columns l computed) (expr_bare literals c.formula) (λ l. exprs_bare l computed)

new_names_bare : (computed : List Computed) → map (λ (c : Computed). c.name) (map bare_column computed) ≡ map (λ (c : Computed). c.name) computed
new_names_bare [] = refl
new_names_bare (c ∷ computed) = ap (λ names. c.name ∷ names) (new_names_bare computed)

kept_bare : (before : Before) (name : List ℕ) (test : Test) → kept before name (bare_test test) ≡ kept before name test
unfolding kept
kept_bare before name test = found (node_named before.names name)
  where
    draft : ℕ → (Pred × List (List ℕ)) → Result Draft ScriptKind
    draft input x = Ok (draft_of (ops.Keep input x.0) (table_at before.tables input) (test_fits x.0 (kinds_of (table_at before.tables input))) x.1)

    found : (r : Result ℕ ScriptKind)
        → r >>= (λ input. pred_of (table_at before.tables input) before.literals (bare_test test) >>= draft input) ≡ r >>= (λ input. pred_of (table_at before.tables input) before.literals test >>= draft input)
    found (Ok input) = ap (λ r. r >>= draft input) (pred_bare (table_at before.tables input) before.literals test)
    found (Err kind) = refl

viewed_bare : (before : Before) (name : List ℕ) (computed : List Computed) → viewed before name (map bare_column computed) ≡ viewed before name computed
unfolding viewed
viewed_bare before name computed = found (node_named before.names name)
  where
    draft : List (List ℕ) → ℕ → (List Expr × List (List ℕ)) → Result Draft ScriptKind
    draft names input x =
        Ok (draft_of (ops.View input x.0) (table_at before.tables input ++ named_columns names (expr_kinds (table_at before.tables input) x.0)) (all_there (expr_kinds (table_at before.tables input) x.0)) x.1)

    names : List Computed → List (List ℕ)
    names = map (λ (c : Computed). c.name)

    found : (r : Result ℕ ScriptKind)
        → r >>= (λ input. exprs_of (table_at before.tables input) before.literals (map bare_column computed) >>= draft (names (map bare_column computed)) input)
        ≡ r >>= (λ input. exprs_of (table_at before.tables input) before.literals computed >>= draft (names computed) input)
    found (Ok input) =
        ap (λ r. r >>= draft (names (map bare_column computed)) input) (exprs_bare (table_at before.tables input) before.literals computed)
        ∙ ap (λ names. exprs_of (table_at before.tables input) before.literals computed >>= draft names input) (new_names_bare computed)
    found (Err kind) = refl

pub drafted_bare : (before : Before) (making : Making) → drafted before (bare_making making) ≡ drafted before making
unfolding drafted
drafted_bare before (Keep input test) = kept_bare before input test
drafted_bare before (View input columns) = viewed_bare before input columns
drafted_bare before making = refl

pub said_bare : (script : Script) (line : Line) → said script (bare_line line) ≡ said script line
unfolding said
said_bare script (lines.Node name making) = ap (λ r. r >>= (λ draft. placed script name draft [])) (drafted_bare (before_of script) making)
said_bare script line = refl
