-- A plan keeps its rules wherever its formulas lie.
use Rattle.std.proofs.Common.{◌≡◌, ℕ, ◌+◌, ◌^◌, Bool, true, List, [], ◌∷◌, map, length, refl, sym, ap, ◌∙◌}
use Rattle.std.{specs.Prelude.{◌&&◌, ◌==◌, nat_lt, nat_le, slice_index_or}, specs.List.{AllByRecursion, list_all, enumerate_from}, proofs.lemmas.List.length-map}
use Rattle.key_lists.proofs.Every.{every_weaker, every_unmapped}
use Rattle.tick_model.{specs.declared.plan.ColumnSpec.ColumnSpec, specs.declared.plan.Expr.{Expr, Cell, Number, Null, Literal, Rank, Neg', Add', Sub', Mul'}, specs.declared.plan.Node.Node, specs.declared.plan.Op.Op, specs.declared.plan.Op.TheVariants.{Keep, View}, specs.declared.plan.Plan.Plan, specs.declared.plan.Pred.{Pred, Compare, And', Or', Not'}, specs.declared.plan.Published.Published, specs.Operators.{inputs_of, columns_fit}, specs.LawfulRuns.{has_ranks, has_test_ranks, has_op_ranks}, specs.Names.{is_name, are_distinct}, specs.Numbers.{HasNumbers, HasOpNumbers, HasPlanNumbers}, specs.Plans.{columns_at, node_lawful, key_bounds, rises, number_distinct, published_words, is_lawful}, specs.Columns.{is_bound, is_test_bound, same_columns, kinds_of, test_fits, some_of, follow, kind_of}}
use Rattle.script_reader.{specs.Plain.{plain, plain_test, plain_op, plain_node, plain_plan}, proofs.Plainly.{test_fits_plain, expr_kinds_plain, key_bounds_plain, names_plain, tables_plain}}

-- two parts of a test
and_same : (a b c d : Bool) → a ≡ b → c ≡ d → (a && c) ≡ (b && d)
and_same a b c d first second = ap (λ x. x && c) first ∙ ap (λ y. b && y) second

-- ranks in the place of literals
is_bound_plain : (expr : Expr) → is_bound (plain expr) ≡ is_bound expr
is_bound_plain (Cell column) = refl
is_bound_plain (Number n) = refl
is_bound_plain Null = refl
is_bound_plain (Literal text) = refl
is_bound_plain (Rank rank) = refl
is_bound_plain (Neg' p a) = is_bound_plain a
is_bound_plain (Add' p a q b) = and_same (is_bound (plain a)) (is_bound a) (is_bound (plain b)) (is_bound b) (is_bound_plain a) (is_bound_plain b)
is_bound_plain (Sub' p a q b) = and_same (is_bound (plain a)) (is_bound a) (is_bound (plain b)) (is_bound b) (is_bound_plain a) (is_bound_plain b)
is_bound_plain (Mul' p a q b) = and_same (is_bound (plain a)) (is_bound a) (is_bound (plain b)) (is_bound b) (is_bound_plain a) (is_bound_plain b)

is_test_bound_plain : (test : Pred) → is_test_bound (plain_test test) ≡ is_test_bound test
is_test_bound_plain (Compare how a b) = and_same (is_bound (plain a)) (is_bound a) (is_bound (plain b)) (is_bound b) (is_bound_plain a) (is_bound_plain b)
is_test_bound_plain (And' p a q b) = and_same (is_test_bound (plain_test a)) (is_test_bound a) (is_test_bound (plain_test b)) (is_test_bound b) (is_test_bound_plain a) (is_test_bound_plain b)
is_test_bound_plain (Or' p a q b) = and_same (is_test_bound (plain_test a)) (is_test_bound a) (is_test_bound (plain_test b)) (is_test_bound b) (is_test_bound_plain a) (is_test_bound_plain b)
is_test_bound_plain (Not' p a) = is_test_bound_plain a

all_bound_plain : (exprs : List Expr) → list_all is_bound (map plain exprs) ≡ list_all is_bound exprs
all_bound_plain [] = refl
all_bound_plain (expr ∷ exprs) = and_same (is_bound (plain expr)) (is_bound expr) (list_all is_bound (map plain exprs)) (list_all is_bound exprs) (is_bound_plain expr) (all_bound_plain exprs)

some_of_plain : (exprs : List Expr) → some_of (map plain exprs) ≡ some_of exprs
some_of_plain [] = refl
some_of_plain (expr ∷ exprs) = refl

-- the columns of a node
columns_fit_plain : (op : Op) (input : ℕ → List ColumnSpec) (columns : List ColumnSpec) → columns_fit (plain_op op) input columns ≡ columns_fit op input columns
columns_fit_plain (Keep from test) input columns =
    and_same (same_columns columns (input from) && test_fits (plain_test test) (kinds_of (input from))) (same_columns columns (input from) && test_fits test (kinds_of (input from))) (is_test_bound (plain_test test)) (is_test_bound test)
    (ap (λ fits. same_columns columns (input from) && fits) (test_fits_plain test (kinds_of (input from)))) (is_test_bound_plain test)
columns_fit_plain (View from exprs) input columns =
    and_same (some_of (map plain exprs) && list_all is_bound (map plain exprs)) (some_of exprs && list_all is_bound exprs)
    (follow columns (input from) (map (λ expr. kind_of expr (kinds_of (input from))) (map plain exprs))) (follow columns (input from) (map (λ expr. kind_of expr (kinds_of (input from))) exprs))
    (and_same (some_of (map plain exprs)) (some_of exprs) (list_all is_bound (map plain exprs)) (list_all is_bound exprs) (some_of_plain exprs) (all_bound_plain exprs))
    (ap (follow columns (input from)) (expr_kinds_plain (input from) exprs))
columns_fit_plain op input columns = refl

inputs_plain : (op : Op) → inputs_of (plain_op op) ≡ inputs_of op
inputs_plain (Keep from test) = refl
inputs_plain (View from exprs) = refl
inputs_plain op = refl

-- a node
abbrev names_fit : Node → Bool
names_fit node =
    is_name node.name && list_all (λ column. is_name column.name) node.columns && are_distinct (map (λ column. column.name) node.columns)
    && nat_le 1 (length node.columns) && nat_le (length node.columns) 32

node_lawful_plain : (nodes : List Node) (number : ℕ) (node : Node) → node_lawful (map plain_node nodes) (number, plain_node node) ≡ node_lawful nodes (number, node)
node_lawful_plain nodes number node =
    and_same (names_fit node && list_all (λ input. nat_lt input number) (inputs_of (plain_op node.op))) (names_fit node && list_all (λ input. nat_lt input number) (inputs_of node.op))
    (columns_fit (plain_op node.op) (columns_at (map plain_node nodes)) node.columns) (columns_fit node.op (columns_at nodes) node.columns)
    (ap (λ inputs. names_fit node && list_all (λ input. nat_lt input number) inputs) (inputs_plain node.op))
    (columns_fit_plain node.op (columns_at (map plain_node nodes)) node.columns ∙ ap (λ tables. columns_fit node.op (λ at. slice_index_or tables at []) node.columns) (tables_plain nodes))

nodes_lawful_plain : (all : List Node) (number : ℕ) (nodes : List Node) → list_all (node_lawful (map plain_node all)) (enumerate_from number (map plain_node nodes)) ≡ list_all (node_lawful all) (enumerate_from number nodes)
nodes_lawful_plain all number [] = refl
nodes_lawful_plain all number (node ∷ nodes) =
    and_same (node_lawful (map plain_node all) (number, plain_node node)) (node_lawful all (number, node)) (list_all (node_lawful (map plain_node all)) (enumerate_from (number + 1) (map plain_node nodes))) (list_all (node_lawful all) (enumerate_from (number + 1) nodes))
    (node_lawful_plain all number node) (nodes_lawful_plain all (number + 1) nodes)

-- a plan, by what its rules ask of it
abbrev verdict : ℕ → List (List ℕ) → Bool → List ℕ → List (List ColumnSpec) → List ℕ → List Published → Bool
verdict count names nodes_fit bounds tables printed published =
    nat_le count 256 && are_distinct names && nodes_fit
    && list_all (λ bound. nat_lt bound (2 ^ 62)) bounds
    && rises printed && list_all (λ node. nat_lt node count) printed
    && number_distinct (map (λ (publication : Published). publication.node) published)
    && list_all (λ (publication : Published). nat_lt publication.node count && (publication.width == length (slice_index_or tables publication.node [])) && nat_le 1 publication.limit && nat_le publication.limit 4194304) published
    && nat_le (published_words published) 1048576

abbrev columns_of : List Node → List (List ColumnSpec)
columns_of = map (λ node. node.columns)

abbrev named : List Node → List (List ℕ)
named = map (λ node. node.name)

pub is_lawful_plain : (plan : Plan) → is_lawful (plain_plan plan) ≡ is_lawful plan
is_lawful_plain plan =
    let nodes = plan.nodes in
    let plains = map plain_node nodes in
    let fits = list_all (node_lawful plains) (enumerate_from 0 plains) in
    ap (λ count. verdict count (named plains) fits (key_bounds plains) (columns_of plains) plan.printed plan.published) (length-map nodes plain_node)
    ∙ ap (λ names. verdict (length nodes) names fits (key_bounds plains) (columns_of plains) plan.printed plan.published) (names_plain nodes)
    ∙ ap (λ all. verdict (length nodes) (named nodes) all (key_bounds plains) (columns_of plains) plan.printed plan.published) (nodes_lawful_plain nodes 0 nodes)
    ∙ ap (λ bounds. verdict (length nodes) (named nodes) (list_all (node_lawful nodes) (enumerate_from 0 nodes)) bounds (columns_of plains) plan.printed plan.published) (key_bounds_plain nodes)
    ∙ ap (λ tables. verdict (length nodes) (named nodes) (list_all (node_lawful nodes) (enumerate_from 0 nodes)) (key_bounds nodes) tables plan.printed plan.published) (tables_plain nodes)

-- numbers
numbers_plain : (expr : Expr) → HasNumbers (plain expr) → HasNumbers expr
numbers_plain (Cell column) has = has
numbers_plain (Number n) has = has
numbers_plain Null has = has
numbers_plain (Literal text) has = has
numbers_plain (Rank rank) has = has
numbers_plain (Neg' p a) has = numbers_plain a has
numbers_plain (Add' p a q b) has = (numbers_plain a has.0, numbers_plain b has.1)
numbers_plain (Sub' p a q b) has = (numbers_plain a has.0, numbers_plain b has.1)
numbers_plain (Mul' p a q b) has = (numbers_plain a has.0, numbers_plain b has.1)

op_numbers_plain : (op : Op) → HasOpNumbers (plain_op op) → HasOpNumbers op
op_numbers_plain (Keep from test) has = tt
op_numbers_plain (View from exprs) has = every_weaker (λ expr. HasNumbers (plain expr)) HasNumbers exprs numbers_plain (every_unmapped HasNumbers plain exprs has)
op_numbers_plain op has = has

pub plan_numbers_plain : (plan : Plan) → HasPlanNumbers (plain_plan plan) → HasPlanNumbers plan
plan_numbers_plain plan has =
    every_weaker (λ (node : Node). HasOpNumbers (plain_op node.op)) (λ node. HasOpNumbers node.op) plan.nodes (λ node. op_numbers_plain node.op) (every_unmapped (λ (node : Node). HasOpNumbers node.op) plain_node plan.nodes has)

-- ranks
module _ (texts : ℕ) where
  ranks_plain : (expr : Expr) → has_ranks texts (plain expr) ≡ has_ranks texts expr
  ranks_plain (Cell column) = refl
  ranks_plain (Number n) = refl
  ranks_plain Null = refl
  ranks_plain (Literal text) = refl
  ranks_plain (Rank rank) = refl
  ranks_plain (Neg' p a) = ranks_plain a
  ranks_plain (Add' p a q b) = and_same (has_ranks texts (plain a)) (has_ranks texts a) (has_ranks texts (plain b)) (has_ranks texts b) (ranks_plain a) (ranks_plain b)
  ranks_plain (Sub' p a q b) = and_same (has_ranks texts (plain a)) (has_ranks texts a) (has_ranks texts (plain b)) (has_ranks texts b) (ranks_plain a) (ranks_plain b)
  ranks_plain (Mul' p a q b) = and_same (has_ranks texts (plain a)) (has_ranks texts a) (has_ranks texts (plain b)) (has_ranks texts b) (ranks_plain a) (ranks_plain b)

  test_ranks_plain : (test : Pred) → has_test_ranks texts (plain_test test) ≡ has_test_ranks texts test
  test_ranks_plain (Compare how a b) = and_same (has_ranks texts (plain a)) (has_ranks texts a) (has_ranks texts (plain b)) (has_ranks texts b) (ranks_plain a) (ranks_plain b)
  test_ranks_plain (And' p a q b) = and_same (has_test_ranks texts (plain_test a)) (has_test_ranks texts a) (has_test_ranks texts (plain_test b)) (has_test_ranks texts b) (test_ranks_plain a) (test_ranks_plain b)
  test_ranks_plain (Or' p a q b) = and_same (has_test_ranks texts (plain_test a)) (has_test_ranks texts a) (has_test_ranks texts (plain_test b)) (has_test_ranks texts b) (test_ranks_plain a) (test_ranks_plain b)
  test_ranks_plain (Not' p a) = test_ranks_plain a

  all_ranks_plain : (exprs : List Expr) → list_all (has_ranks texts) (map plain exprs) ≡ list_all (has_ranks texts) exprs
  all_ranks_plain [] = refl
  all_ranks_plain (expr ∷ exprs) = and_same (has_ranks texts (plain expr)) (has_ranks texts expr) (list_all (has_ranks texts) (map plain exprs)) (list_all (has_ranks texts) exprs) (ranks_plain expr) (all_ranks_plain exprs)

  op_ranks_plain : (op : Op) → has_op_ranks texts (plain_op op) ≡ has_op_ranks texts op
  op_ranks_plain (Keep from test) = test_ranks_plain test
  op_ranks_plain (View from exprs) = all_ranks_plain exprs
  op_ranks_plain op = refl

  pub plan_ranks_plain : (plan : Plan) → AllByRecursion (λ node. has_op_ranks texts node.op ≡ true) (plain_plan plan).nodes → AllByRecursion (λ node. has_op_ranks texts node.op ≡ true) plan.nodes
  plan_ranks_plain plan has =
      every_weaker (λ (node : Node). has_op_ranks texts (plain_op node.op) ≡ true) (λ node. has_op_ranks texts node.op ≡ true) plan.nodes (λ node is. sym (op_ranks_plain node.op) ∙ is)
      (every_unmapped (λ (node : Node). has_op_ranks texts node.op ≡ true) plain_node plan.nodes has)
