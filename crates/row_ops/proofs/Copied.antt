-- A copy of a formula is made of copies of its parts.
use Rattle.std.proofs.Common.{◌≡◌, sym, subst, List, [], ◌∷◌, ◌++◌}
use Rattle.tick_model.{specs.declared.plan.Expr.Expr, specs.declared.plan.Pred.Pred}
use Rattle.row_ops.specs.Copies.{AreCopies, IsCopy, IsTestCopy}

-- what lies in a box, and what was copied
pub in_box : (made copy own of : Expr) → made ≡ copy → of ≡ own → IsCopy copy of → IsCopy made own
in_box made copy own of e f h = subst (λ (own : Expr). IsCopy made own) f (subst (λ (made : Expr). IsCopy made of) (sym e) h)

pub test_in_box : (made copy own of : Pred) → made ≡ copy → of ≡ own → IsTestCopy copy of → IsTestCopy made own
test_in_box made copy own of e f h = subst (λ (own : Pred). IsTestCopy made own) f (subst (λ (made : Pred). IsTestCopy made of) (sym e) h)

-- one more
pub copy_more : (copies exprs : List Expr) (copy expr : Expr) → AreCopies copies exprs → IsCopy copy expr → AreCopies (copies ++ copy ∷ []) (exprs ++ expr ∷ [])
copy_more [] [] copy expr h k = (k, tt)
copy_more [] (e ∷ exprs) copy expr h k = absurd h
copy_more (c ∷ copies) [] copy expr h k = absurd h
copy_more (c ∷ copies) (e ∷ exprs) copy expr h k = (h.0, copy_more copies exprs copy expr h.1 k)
