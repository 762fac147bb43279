-- A script's plan, with the rank of its text in the place of each literal. The texts rise in byte order, and a text's rank is its place.
--     bound script texts      the plan
use Rattle.std.{specs.Prelude.{ℕ, ℤ, pos, List, map, slice_index_or}, specs.List.position_or_len, specs.Str.bytes_eq}
use Rattle.tick_model.{specs.declared.plan.Expr.{Expr, Cell, Number, Null, Literal, Rank, Neg', Add', Sub', Mul'}, specs.declared.plan.Node.Node, specs.declared.plan.Op.Op, specs.declared.plan.Op.TheVariants.{Keep, View}, specs.declared.plan.Plan.Plan, specs.declared.plan.Pred.{Pred, Compare, And', Or', Not'}}
use Rattle.script_reader.{specs.declared.script.Script.Script, specs.Plain.{neg, add, sub, mul, both, either, negated}}

-- the rank of each literal, in order of their numbers
abbrev pub ranks_of : List (List ℕ) → List (List ℕ) → List ℕ
ranks_of texts = map (λ literal. position_or_len (bytes_eq literal) texts)

abbrev pub rank_at : List ℕ → ℕ → ℤ
rank_at ranks literal = pos (slice_index_or ranks literal 0)

abbrev pub bound_expr : List ℕ → Expr → Expr
bound_expr ranks (Cell column) = Cell column
bound_expr ranks (Number n) = Number n
bound_expr ranks Null = Null
bound_expr ranks (Literal text) = Rank (rank_at ranks text)
bound_expr ranks (Rank rank) = Rank rank
bound_expr ranks (Neg' p a) = neg (bound_expr ranks a)
bound_expr ranks (Add' p a q b) = add (bound_expr ranks a) (bound_expr ranks b)
bound_expr ranks (Sub' p a q b) = sub (bound_expr ranks a) (bound_expr ranks b)
bound_expr ranks (Mul' p a q b) = mul (bound_expr ranks a) (bound_expr ranks b)

abbrev pub bound_test : List ℕ → Pred → Pred
bound_test ranks (Compare how a b) = Compare how (bound_expr ranks a) (bound_expr ranks b)
bound_test ranks (And' p a q b) = both (bound_test ranks a) (bound_test ranks b)
bound_test ranks (Or' p a q b) = either (bound_test ranks a) (bound_test ranks b)
bound_test ranks (Not' p a) = negated (bound_test ranks a)

abbrev pub bound_op : List ℕ → Op → Op
bound_op ranks (Keep input test) = Keep input (bound_test ranks test)
bound_op ranks (View input exprs) = View input (map (bound_expr ranks) exprs)
bound_op ranks op = op

abbrev pub bound_node : List ℕ → Node → Node
bound_node ranks node = record { name = node.name; columns = node.columns; op = bound_op ranks node.op }

abbrev pub bound : Script → List (List ℕ) → Plan
bound script texts = record {
  nodes = map (bound_node (ranks_of texts script.literals)) script.plan.nodes;
  printed = script.plan.printed;
  published = script.plan.published;
}
