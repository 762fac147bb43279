-- The literals of a script's plan, which are numbers of its texts.
--     NamesLiterals script      each literal of the script's plan is one of its texts, and not empty
use Rattle.std.{specs.Prelude.{◌≡◌, ℕ, ◌&&◌, Bool, true, false, not, List, [], length, nat_lt, slice_index_or}, specs.List.{AllByRecursion, list_all}}
use Rattle.tick_model.{specs.declared.plan.Expr.{Expr, Cell, Number, Null, Literal, Rank, Neg', Add', Sub', Mul'}, specs.declared.plan.Op.Op, specs.declared.plan.Op.TheVariants.{Keep, View}, specs.declared.plan.Pred.{Pred, Compare, And', Or', Not'}, specs.Changes.is_none}
use Rattle.script_reader.specs.declared.script.Script.{Script}

abbrev pub names_literal : List (List ℕ) → ℕ → Bool
names_literal literals text = nat_lt text (length literals) && not (is_none (slice_index_or literals text []))

abbrev pub has_literals : List (List ℕ) → Expr → Bool
has_literals literals (Cell column) = true
has_literals literals (Number n) = true
has_literals literals Null = true
has_literals literals (Literal text) = names_literal literals text
has_literals literals (Rank rank) = false
has_literals literals (Neg' p a) = has_literals literals a
has_literals literals (Add' p a q b) = has_literals literals a && has_literals literals b
has_literals literals (Sub' p a q b) = has_literals literals a && has_literals literals b
has_literals literals (Mul' p a q b) = has_literals literals a && has_literals literals b

abbrev pub has_test_literals : List (List ℕ) → Pred → Bool
has_test_literals literals (Compare how a b) = has_literals literals a && has_literals literals b
has_test_literals literals (And' p a q b) = has_test_literals literals a && has_test_literals literals b
has_test_literals literals (Or' p a q b) = has_test_literals literals a && has_test_literals literals b
has_test_literals literals (Not' p a) = has_test_literals literals a

abbrev pub has_op_literals : List (List ℕ) → Op → Bool
has_op_literals literals (Keep input test) = has_test_literals literals test
has_op_literals literals (View input exprs) = list_all (has_literals literals) exprs
has_op_literals literals op = true

abbrev pub NamesLiterals : Script → Type 0
NamesLiterals script = AllByRecursion (λ node. has_op_literals script.literals node.op ≡ true) script.plan.nodes
