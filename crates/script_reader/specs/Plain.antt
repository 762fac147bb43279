-- Expressions, and what has them, without where their parts lie in memory. Definitions make such ones, and contracts compare by them.
--     plain e, plain_test t, plain_op o, plain_plan p, plain_script s      an expression, a test, an operator, a plan, a script
use Rattle.std.specs.Prelude.{map}
use Rattle.tick_model.{specs.declared.plan.Expr.{Expr, Cell, Number, Null, Literal, Rank, Neg', Add', Sub', Mul'}, specs.declared.plan.Node.Node, specs.declared.plan.Op.Op, specs.declared.plan.Op.TheVariants.{Keep, View}, specs.declared.plan.Plan.Plan, specs.declared.plan.Pred.{Pred, Compare, And', Or', Not'}}
use Rattle.script_lines.specs.Bare.{nowhere}
use Rattle.script_reader.specs.declared.script.Script.{Script}

abbrev pub plain : Expr → Expr
plain (Cell column) = Cell column
plain (Number n) = Number n
plain Null = Null
plain (Literal text) = Literal text
plain (Rank rank) = Rank rank
plain (Neg' p a) = Neg' nowhere (plain a)
plain (Add' p a q b) = Add' nowhere (plain a) nowhere (plain b)
plain (Sub' p a q b) = Sub' nowhere (plain a) nowhere (plain b)
plain (Mul' p a q b) = Mul' nowhere (plain a) nowhere (plain b)

abbrev pub plain_test : Pred → Pred
plain_test (Compare how a b) = Compare how (plain a) (plain b)
plain_test (And' p a q b) = And' nowhere (plain_test a) nowhere (plain_test b)
plain_test (Or' p a q b) = Or' nowhere (plain_test a) nowhere (plain_test b)
plain_test (Not' p a) = Not' nowhere (plain_test a)

abbrev pub plain_op : Op → Op
plain_op (Keep input test) = Keep input (plain_test test)
plain_op (View input exprs) = View input (map plain exprs)
plain_op op = op

abbrev pub plain_node : Node → Node
plain_node node = record { name = node.name; columns = node.columns; op = plain_op node.op }

abbrev pub plain_plan : Plan → Plan
plain_plan plan = record { nodes = map plain_node plan.nodes; printed = plan.printed; published = plan.published }

abbrev pub plain_script : Script → Script
plain_script script = record { plan = plain_plan script.plan; literals = script.literals; files = script.files }

-- of a plan
abbrev pub neg : Expr → Expr
neg a = Neg' nowhere a

abbrev pub add : Expr → Expr → Expr
add a b = Add' nowhere a nowhere b

abbrev pub sub : Expr → Expr → Expr
sub a b = Sub' nowhere a nowhere b

abbrev pub mul : Expr → Expr → Expr
mul a b = Mul' nowhere a nowhere b

abbrev pub both : Pred → Pred → Pred
both a b = And' nowhere a nowhere b

abbrev pub either : Pred → Pred → Pred
either a b = Or' nowhere a nowhere b

abbrev pub negated : Pred → Pred
negated a = Not' nowhere a
