-- Ranks in the place of literals change neither kinds, names, columns, inputs nor keys.
use Rattle.std.proofs.Common.{◌≡◌, refl, ap, ◌∙◌, true, ◌&&◌, ◌||◌, ℕ, List, [], ◌∷◌, ◌++◌, map, get_or}
use Rattle.std.{specs.Prelude.fold, specs.List.list_all, proofs.lemmas.Bool.and_from}
use Rattle.tick_model.{specs.declared.plan.Expr.{Expr, Cell, Number, Null, Literal, Rank, Neg', Add', Sub', Mul'}, specs.declared.plan.Kind.Kind, specs.declared.plan.Node.Node, specs.declared.plan.Op.Op, specs.declared.plan.Pred.{Pred, Compare, And', Or', Not'}, specs.Operators.{inputs_of, bound_of}, specs.Plans.{with_bound, key_bounds}, specs.Columns.{long_alone, both_long, kind_of, kinds_meet, is_null_alone, test_fits, is_bound, is_test_bound}}
use Rattle.tick_model.specs.declared.plan.Op.TheVariants as ops
use Rattle.script_reader.{specs.Binding.{bound_expr, bound_test, bound_op, bound_node}, specs.Checks.{names_of, tables_of}}

module _ (ranks : List ℕ) where
  kind_bound : (expr : Expr) (kinds : List Kind) → kind_of (bound_expr ranks expr) kinds ≡ kind_of expr kinds
  kind_bound (Cell column) kinds = refl
  kind_bound (Number n) kinds = refl
  kind_bound Null kinds = refl
  kind_bound (Literal text) kinds = refl
  kind_bound (Rank rank) kinds = refl
  kind_bound (Neg' p a) kinds = ap long_alone (kind_bound a kinds)
  kind_bound (Add' p a q b) kinds = ap (λ x. both_long x (kind_of (bound_expr ranks b) kinds)) (kind_bound a kinds) ∙ ap (both_long (kind_of a kinds)) (kind_bound b kinds)
  kind_bound (Sub' p a q b) kinds = ap (λ x. both_long x (kind_of (bound_expr ranks b) kinds)) (kind_bound a kinds) ∙ ap (both_long (kind_of a kinds)) (kind_bound b kinds)
  kind_bound (Mul' p a q b) kinds = ap (λ x. both_long x (kind_of (bound_expr ranks b) kinds)) (kind_bound a kinds) ∙ ap (both_long (kind_of a kinds)) (kind_bound b kinds)

  pub kinds_bound : (exprs : List Expr) (kinds : List Kind) → map (λ expr. kind_of expr kinds) (map (bound_expr ranks) exprs) ≡ map (λ expr. kind_of expr kinds) exprs
  kinds_bound [] kinds = refl
  kinds_bound (expr ∷ exprs) kinds =
      ap (λ k. k ∷ map (λ expr. kind_of expr kinds) (map (bound_expr ranks) exprs)) (kind_bound expr kinds) ∙ ap (λ ks. kind_of expr kinds ∷ ks) (kinds_bound exprs kinds)

  null_bound : (expr : Expr) → is_null_alone (bound_expr ranks expr) ≡ is_null_alone expr
  null_bound (Cell column) = refl
  null_bound (Number n) = refl
  null_bound Null = refl
  null_bound (Literal text) = refl
  null_bound (Rank rank) = refl
  null_bound (Neg' p a) = refl
  null_bound (Add' p a q b) = refl
  null_bound (Sub' p a q b) = refl
  null_bound (Mul' p a q b) = refl

  pub test_fits_bound : (test : Pred) (kinds : List Kind) → test_fits (bound_test ranks test) kinds ≡ test_fits test kinds
  test_fits_bound (Compare how a b) kinds =
      ap (λ x. kinds_meet x (kind_of (bound_expr ranks b) kinds) (is_null_alone (bound_expr ranks a) || is_null_alone (bound_expr ranks b))) (kind_bound a kinds)
      ∙ ap (λ y. kinds_meet (kind_of a kinds) y (is_null_alone (bound_expr ranks a) || is_null_alone (bound_expr ranks b))) (kind_bound b kinds)
      ∙ ap (λ c. kinds_meet (kind_of a kinds) (kind_of b kinds) (c || is_null_alone (bound_expr ranks b))) (null_bound a)
      ∙ ap (λ c. kinds_meet (kind_of a kinds) (kind_of b kinds) (is_null_alone a || c)) (null_bound b)
  test_fits_bound (And' p a q b) kinds = ap (λ x. x && test_fits (bound_test ranks b) kinds) (test_fits_bound a kinds) ∙ ap (λ y. test_fits a kinds && y) (test_fits_bound b kinds)
  test_fits_bound (Or' p a q b) kinds = ap (λ x. x && test_fits (bound_test ranks b) kinds) (test_fits_bound a kinds) ∙ ap (λ y. test_fits a kinds && y) (test_fits_bound b kinds)
  test_fits_bound (Not' p a) kinds = test_fits_bound a kinds

  expr_bound : (expr : Expr) → is_bound (bound_expr ranks expr) ≡ true
  expr_bound (Cell column) = refl
  expr_bound (Number n) = refl
  expr_bound Null = refl
  expr_bound (Literal text) = refl
  expr_bound (Rank rank) = refl
  expr_bound (Neg' p a) = expr_bound a
  expr_bound (Add' p a q b) = and_from (is_bound (bound_expr ranks a)) (is_bound (bound_expr ranks b)) (expr_bound a) (expr_bound b)
  expr_bound (Sub' p a q b) = and_from (is_bound (bound_expr ranks a)) (is_bound (bound_expr ranks b)) (expr_bound a) (expr_bound b)
  expr_bound (Mul' p a q b) = and_from (is_bound (bound_expr ranks a)) (is_bound (bound_expr ranks b)) (expr_bound a) (expr_bound b)

  pub exprs_bound : (exprs : List Expr) → list_all is_bound (map (bound_expr ranks) exprs) ≡ true
  exprs_bound [] = refl
  exprs_bound (expr ∷ exprs) = and_from (is_bound (bound_expr ranks expr)) (list_all is_bound (map (bound_expr ranks) exprs)) (expr_bound expr) (exprs_bound exprs)

  pub test_bound : (test : Pred) → is_test_bound (bound_test ranks test) ≡ true
  test_bound (Compare how a b) = and_from (is_bound (bound_expr ranks a)) (is_bound (bound_expr ranks b)) (expr_bound a) (expr_bound b)
  test_bound (And' p a q b) = and_from (is_test_bound (bound_test ranks a)) (is_test_bound (bound_test ranks b)) (test_bound a) (test_bound b)
  test_bound (Or' p a q b) = and_from (is_test_bound (bound_test ranks a)) (is_test_bound (bound_test ranks b)) (test_bound a) (test_bound b)
  test_bound (Not' p a) = test_bound a

  pub inputs_bound : (op : Op) → inputs_of (bound_op ranks op) ≡ inputs_of op
  inputs_bound (ops.Keep input test) = refl
  inputs_bound op = refl

  room_bound : (op : Op) (bound : ℕ → ℕ) → bound_of (bound_op ranks op) bound ≡ bound_of op bound
  room_bound (ops.Keep input test) bound = refl
  room_bound op bound = refl

  rooms_bound : (nodes : List Node) (bounds : List ℕ) → fold with_bound bounds (map (bound_node ranks) nodes) ≡ fold with_bound bounds nodes
  rooms_bound [] bounds = refl
  rooms_bound (node ∷ nodes) bounds =
      ap (λ bound. fold with_bound (bounds ++ bound ∷ []) (map (bound_node ranks) nodes)) (room_bound node.op (λ input. get_or bounds input 0)) ∙ rooms_bound nodes (with_bound bounds node)

  pub key_bounds_bound : (nodes : List Node) → key_bounds (map (bound_node ranks) nodes) ≡ key_bounds nodes
  key_bounds_bound nodes = rooms_bound nodes []

  pub names_bound : (nodes : List Node) → names_of (map (bound_node ranks) nodes) ≡ names_of nodes
  names_bound [] = refl
  names_bound (node ∷ nodes) = ap (λ names. node.name ∷ names) (names_bound nodes)

  pub tables_bound : (nodes : List Node) → tables_of (map (bound_node ranks) nodes) ≡ tables_of nodes
  tables_bound [] = refl
  tables_bound (node ∷ nodes) = ap (λ tables. node.columns ∷ tables) (tables_bound nodes)
