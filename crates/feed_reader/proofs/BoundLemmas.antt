-- The ranks and the numbers of a script's plan whose literals have ranks.
use Rattle.std.proofs.Common.{◌≡◌, ℕ, ◌^◌, ◌<◌, true, List, [], ◌∷◌, map, length, get_or, pos, refl, sym, subst, arith}
use Rattle.std.{specs.Prelude.{not, nat_lt, slice_index_or}, specs.List.{AllByRecursion, list_all}, specs.Int.w64, proofs.lemmas.Bool.{and_parts, and_from, ltb-true, lt-ltb, not-true}, proofs.lemmas.Int.fits_signed_from_abs, proofs.lemmas.List.get_or-map}
use Rattle.key_lists.proofs.Parts.{every_at}
use Rattle.tick_model.{specs.declared.plan.Expr.{Expr, Cell, Number, Null, Literal, Rank, Neg', Add', Sub', Mul'}, specs.declared.plan.Node.Node, specs.declared.plan.Op.Op, specs.declared.plan.Op.TheVariants.{Keep, View}, specs.declared.plan.Pred.{Pred, Compare, And', Or', Not'}, specs.Changes.is_none, specs.LawfulRuns.{has_ranks, has_test_ranks, has_op_ranks}, specs.Numbers.{HasNumbers, HasOpNumbers}}
use Rattle.script_reader.specs.Binding.{ranks_of, bound_expr, bound_test, bound_op, bound_node}
use Rattle.script_laws.specs.Literals.{names_literal, has_literals, has_test_literals, has_op_literals}
use Rattle.feed_reader.{specs.Coding.rank_of, specs.Runs.IsAmong, proofs.CodedLemmas.rank_below}

module _ (texts literals : List (List ℕ)) (small : length texts < 2 ^ 63) (among : AllByRecursion (IsAmong texts) literals) where
  rank_there : (text : ℕ) → names_literal literals text ≡ true → slice_index_or (ranks_of texts literals) text 0 < length texts
  rank_there text names =
      let parts = and_parts (nat_lt text (length literals)) (not (is_none (slice_index_or literals text []))) names in
      let within : text < length literals = ltb-true text (length literals) parts.0 in
      let there = every_at (IsAmong texts) literals text [] within among (not-true (is_none (slice_index_or literals text [])) parts.1) in
      subst (λ rank. rank < length texts) (sym (get_or-map (rank_of texts) literals text [] 0 within)) (rank_below (get_or literals text []) texts there)

  ranks_bound : (expr : Expr) → has_literals literals expr ≡ true → has_ranks (length texts) (bound_expr (ranks_of texts literals) expr) ≡ true
  ranks_bound (Cell column) has = refl
  ranks_bound (Number n) has = refl
  ranks_bound Null has = refl
  ranks_bound (Literal text) has = lt-ltb (slice_index_or (ranks_of texts literals) text 0) (length texts) (rank_there text has)
  ranks_bound (Rank rank) has = cc has
  ranks_bound (Neg' p a) has = ranks_bound a has
  ranks_bound (Add' p a q b) has =
      let parts = and_parts (has_literals literals a) (has_literals literals b) has in
      and_from (has_ranks (length texts) (bound_expr (ranks_of texts literals) a)) (has_ranks (length texts) (bound_expr (ranks_of texts literals) b)) (ranks_bound a parts.0) (ranks_bound b parts.1)
  ranks_bound (Sub' p a q b) has =
      let parts = and_parts (has_literals literals a) (has_literals literals b) has in
      and_from (has_ranks (length texts) (bound_expr (ranks_of texts literals) a)) (has_ranks (length texts) (bound_expr (ranks_of texts literals) b)) (ranks_bound a parts.0) (ranks_bound b parts.1)
  ranks_bound (Mul' p a q b) has =
      let parts = and_parts (has_literals literals a) (has_literals literals b) has in
      and_from (has_ranks (length texts) (bound_expr (ranks_of texts literals) a)) (has_ranks (length texts) (bound_expr (ranks_of texts literals) b)) (ranks_bound a parts.0) (ranks_bound b parts.1)

  test_ranks_bound : (test : Pred) → has_test_literals literals test ≡ true → has_test_ranks (length texts) (bound_test (ranks_of texts literals) test) ≡ true
  test_ranks_bound (Compare how a b) has =
      let parts = and_parts (has_literals literals a) (has_literals literals b) has in
      and_from (has_ranks (length texts) (bound_expr (ranks_of texts literals) a)) (has_ranks (length texts) (bound_expr (ranks_of texts literals) b)) (ranks_bound a parts.0) (ranks_bound b parts.1)
  test_ranks_bound (And' p a q b) has =
      let parts = and_parts (has_test_literals literals a) (has_test_literals literals b) has in
      and_from (has_test_ranks (length texts) (bound_test (ranks_of texts literals) a)) (has_test_ranks (length texts) (bound_test (ranks_of texts literals) b)) (test_ranks_bound a parts.0) (test_ranks_bound b parts.1)
  test_ranks_bound (Or' p a q b) has =
      let parts = and_parts (has_test_literals literals a) (has_test_literals literals b) has in
      and_from (has_test_ranks (length texts) (bound_test (ranks_of texts literals) a)) (has_test_ranks (length texts) (bound_test (ranks_of texts literals) b)) (test_ranks_bound a parts.0) (test_ranks_bound b parts.1)
  test_ranks_bound (Not' p a) has = test_ranks_bound a has

  all_ranks_bound : (exprs : List Expr) → list_all (has_literals literals) exprs ≡ true → list_all (has_ranks (length texts)) (map (bound_expr (ranks_of texts literals)) exprs) ≡ true
  all_ranks_bound [] has = refl
  all_ranks_bound (expr ∷ exprs) has =
      let parts = and_parts (has_literals literals expr) (list_all (has_literals literals) exprs) has in
      and_from (has_ranks (length texts) (bound_expr (ranks_of texts literals) expr)) (list_all (has_ranks (length texts)) (map (bound_expr (ranks_of texts literals)) exprs)) (ranks_bound expr parts.0) (all_ranks_bound exprs parts.1)

  op_ranks_bound : (op : Op) → has_op_literals literals op ≡ true → has_op_ranks (length texts) (bound_op (ranks_of texts literals) op) ≡ true
  op_ranks_bound (Keep input test) has = test_ranks_bound test has
  op_ranks_bound (View input exprs) has = all_ranks_bound exprs has
  op_ranks_bound op has = refl

  -- numbers
  numbers_bound : (expr : Expr) → has_literals literals expr ≡ true → HasNumbers expr → HasNumbers (bound_expr (ranks_of texts literals) expr)
  numbers_bound (Cell column) has numbers = tt
  numbers_bound (Number n) has numbers = numbers
  numbers_bound Null has numbers = tt
  numbers_bound (Literal text) has numbers =
      let there = rank_there text has in
      fits_signed_from_abs w64 (pos (slice_index_or (ranks_of texts literals) text 0)) (omega arith)
  numbers_bound (Rank rank) has numbers = cc has
  numbers_bound (Neg' p a) has numbers = numbers_bound a has numbers
  numbers_bound (Add' p a q b) has numbers = let parts = and_parts (has_literals literals a) (has_literals literals b) has in (numbers_bound a parts.0 numbers.0, numbers_bound b parts.1 numbers.1)
  numbers_bound (Sub' p a q b) has numbers = let parts = and_parts (has_literals literals a) (has_literals literals b) has in (numbers_bound a parts.0 numbers.0, numbers_bound b parts.1 numbers.1)
  numbers_bound (Mul' p a q b) has numbers = let parts = and_parts (has_literals literals a) (has_literals literals b) has in (numbers_bound a parts.0 numbers.0, numbers_bound b parts.1 numbers.1)

  all_numbers_bound : (exprs : List Expr) → list_all (has_literals literals) exprs ≡ true → AllByRecursion HasNumbers exprs → AllByRecursion HasNumbers (map (bound_expr (ranks_of texts literals)) exprs)
  all_numbers_bound [] has numbers = tt
  all_numbers_bound (expr ∷ exprs) has numbers =
      let parts = and_parts (has_literals literals expr) (list_all (has_literals literals) exprs) has in
      (numbers_bound expr parts.0 numbers.0, all_numbers_bound exprs parts.1 numbers.1)

  op_numbers_bound : (op : Op) → has_op_literals literals op ≡ true → HasOpNumbers op → HasOpNumbers (bound_op (ranks_of texts literals) op)
  op_numbers_bound (Keep input test) has numbers = tt
  op_numbers_bound (View input exprs) has numbers = all_numbers_bound exprs has numbers
  op_numbers_bound op has numbers = numbers

  pub nodes_ranks_bound : (nodes : List Node) → AllByRecursion (λ node. has_op_literals literals node.op ≡ true) nodes → AllByRecursion (λ node. has_op_ranks (length texts) node.op ≡ true) (map (bound_node (ranks_of texts literals)) nodes)
  nodes_ranks_bound [] has = tt
  nodes_ranks_bound (node ∷ nodes) has = (op_ranks_bound node.op has.0, nodes_ranks_bound nodes has.1)

  pub nodes_numbers_bound : (nodes : List Node) → AllByRecursion (λ node. has_op_literals literals node.op ≡ true) nodes → AllByRecursion (λ node. HasOpNumbers node.op) nodes → AllByRecursion (λ node. HasOpNumbers node.op) (map (bound_node (ranks_of texts literals)) nodes)
  nodes_numbers_bound [] has numbers = tt
  nodes_numbers_bound (node ∷ nodes) has numbers = (op_numbers_bound node.op has.0 numbers.0, nodes_numbers_bound nodes has.1 numbers.1)
