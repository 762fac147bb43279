use Rattle.std.proofs.Common.{◌+◌, ◌≡◌, ap, subst, sym, ◌∙◌, List, take, ◌++◌, ◌∷◌, []}
use Rattle.std.proofs.lemmas.List.{take_more}
use Rattle.tick_model.specs.declared.plan.Expr.{Expr}
use Rattle.row_ops.{specs.Copies.AreCopies, proofs.Copied.copy_more}
use Rattle.row_ops.proofs.copies.copied_exprs.Goals as goal

pub loop-expr-preserved : goal.loop-expr-preserved
loop-expr-preserved c =
    let items = c.as_slice-expr-items.result.now in
    let i = c.loop-expr.expr-index in
    let item = c.expr-item.result in
    let more = copy_more c.loop-expr.copies (take i items) c.in_ok-copy.copy item c.loop-expr.invariant c.in_ok-copy.ensures in
    let seen : take (i + 1) items ≡ take i items ++ item ∷ [] = take_more items i item c.loop-expr-test.true ∙ ap (λ (item : Expr). take i items ++ item ∷ []) (sym c.expr-item.is) in
    subst (λ (copies : List Expr). AreCopies copies (take (i + 1) items)) (sym c.in_ok-push.ensures.ok)
    (subst (λ (exprs : List Expr). AreCopies (c.loop-expr.copies ++ c.in_ok-copy.copy ∷ []) exprs) (sym seen) more)
