-- Where the parts of formulas lie makes no difference.
use Rattle.std.proofs.Common.{◌≡◌, refl, ap, ◌∙◌, ◌&&◌, ◌||◌, ℕ, List, [], ◌∷◌, ◌++◌, map, get_or}
use Rattle.std.specs.Prelude.{fold}
use Rattle.tick_model.{specs.declared.plan.ColumnSpec.ColumnSpec, specs.declared.plan.Expr.{Expr, Cell, Number, Null, Literal, Rank, Neg', Add', Sub', Mul'}, specs.declared.plan.Kind.Kind, specs.declared.plan.Node.Node, specs.declared.plan.Op.Op, specs.declared.plan.Pred.{Pred, Compare, And', Or', Not'}, specs.Plans.{with_bound, key_bounds}, specs.Columns.{long_alone, both_long, kind_of, kinds_of, kinds_meet, is_null_alone, test_fits}, specs.Operators.bound_of}
use Rattle.tick_model.specs.declared.plan.Op.TheVariants as ops
use Rattle.script_reader.{specs.Checks.{expr_kinds, names_of, tables_of}, specs.Plain.{plain, plain_test, plain_op, plain_node}}

pub kind_of_plain : (expr : Expr) (kinds : List Kind) → kind_of (plain expr) kinds ≡ kind_of expr kinds
kind_of_plain (Cell column) kinds = refl
kind_of_plain (Number n) kinds = refl
kind_of_plain Null kinds = refl
kind_of_plain (Literal text) kinds = refl
kind_of_plain (Rank rank) kinds = refl
kind_of_plain (Neg' p a) kinds = ap long_alone (kind_of_plain a kinds)
kind_of_plain (Add' p a q b) kinds = ap (λ x. both_long x (kind_of (plain b) kinds)) (kind_of_plain a kinds) ∙ ap (both_long (kind_of a kinds)) (kind_of_plain b kinds)
kind_of_plain (Sub' p a q b) kinds = ap (λ x. both_long x (kind_of (plain b) kinds)) (kind_of_plain a kinds) ∙ ap (both_long (kind_of a kinds)) (kind_of_plain b kinds)
kind_of_plain (Mul' p a q b) kinds = ap (λ x. both_long x (kind_of (plain b) kinds)) (kind_of_plain a kinds) ∙ ap (both_long (kind_of a kinds)) (kind_of_plain b kinds)

null_plain : (expr : Expr) → is_null_alone (plain expr) ≡ is_null_alone expr
null_plain (Cell column) = refl
null_plain (Number n) = refl
null_plain Null = refl
null_plain (Literal text) = refl
null_plain (Rank rank) = refl
null_plain (Neg' p a) = refl
null_plain (Add' p a q b) = refl
null_plain (Sub' p a q b) = refl
null_plain (Mul' p a q b) = refl

pub test_fits_plain : (test : Pred) (kinds : List Kind) → test_fits (plain_test test) kinds ≡ test_fits test kinds
test_fits_plain (Compare how a b) kinds =
    ap (λ x. kinds_meet x (kind_of (plain b) kinds) (is_null_alone (plain a) || is_null_alone (plain b))) (kind_of_plain a kinds)
    ∙ ap (λ y. kinds_meet (kind_of a kinds) y (is_null_alone (plain a) || is_null_alone (plain b))) (kind_of_plain b kinds)
    ∙ ap (λ c. kinds_meet (kind_of a kinds) (kind_of b kinds) (c || is_null_alone (plain b))) (null_plain a)
    ∙ ap (λ c. kinds_meet (kind_of a kinds) (kind_of b kinds) (is_null_alone a || c)) (null_plain b)
test_fits_plain (And' p a q b) kinds = ap (λ x. x && test_fits (plain_test b) kinds) (test_fits_plain a kinds) ∙ ap (λ y. test_fits a kinds && y) (test_fits_plain b kinds)
test_fits_plain (Or' p a q b) kinds = ap (λ x. x && test_fits (plain_test b) kinds) (test_fits_plain a kinds) ∙ ap (λ y. test_fits a kinds && y) (test_fits_plain b kinds)
test_fits_plain (Not' p a) kinds = test_fits_plain a kinds

pub expr_kinds_plain : (columns : List ColumnSpec) (exprs : List Expr) → expr_kinds columns (map plain exprs) ≡ map (λ expr. kind_of expr (kinds_of columns)) exprs
expr_kinds_plain columns [] = refl
expr_kinds_plain columns (expr ∷ exprs) =
    ap (λ k. k ∷ expr_kinds columns (map plain exprs)) (kind_of_plain expr (kinds_of columns)) ∙ ap (λ ks. kind_of expr (kinds_of columns) ∷ ks) (expr_kinds_plain columns exprs)

pub bound_plain : (op : Op) (bound : ℕ → ℕ) → bound_of (plain_op op) bound ≡ bound_of op bound
bound_plain (ops.Keep input test) bound = refl
bound_plain op bound = refl

pub key_bounds_plain : (nodes : List Node) → key_bounds (map plain_node nodes) ≡ key_bounds nodes
key_bounds_plain nodes = from nodes []
  where
    from : (nodes : List Node) (bounds : List ℕ) → fold with_bound bounds (map plain_node nodes) ≡ fold with_bound bounds nodes
    from [] bounds = refl
    from (node ∷ nodes) bounds =
        ap (λ bound. fold with_bound (bounds ++ bound ∷ []) (map plain_node nodes)) (bound_plain node.op (λ input. get_or bounds input 0)) ∙ from nodes (with_bound bounds node)

pub names_plain : (nodes : List Node) → names_of (map plain_node nodes) ≡ names_of nodes
names_plain [] = refl
names_plain (node ∷ nodes) = ap (λ names. node.name ∷ names) (names_plain nodes)

pub tables_plain : (nodes : List Node) → tables_of (map plain_node nodes) ≡ tables_of nodes
tables_plain [] = refl
tables_plain (node ∷ nodes) = ap (λ tables. node.columns ∷ tables) (tables_plain nodes)
