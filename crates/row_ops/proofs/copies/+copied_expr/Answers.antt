use Rattle.std.proofs.Common.{ap, ap₂, subst, sym}
use Rattle.std.specs.Prelude.{neg_ℤ, ◌+ℤ◌, ◌-ℤ◌, ◌*ℤ◌}
use Rattle.tick_model.{specs.declared.plan.Expr.{Expr, Neg, Add, Sub, Mul}, specs.Formulas.{lifted, lifted2}}
use Rattle.row_ops.{specs.Copies.IsCopy, proofs.Copied.in_box}
use Rattle.row_ops.proofs.copies.+copied_expr.Goals as goal

pub returns-in_ok-new-in-Neg : goal.returns-in_ok-new-in-Neg
returns-in_ok-new-in-Neg t c =
    let a = in_box c.in_ok-new-in-Neg.field-0.value c.in_ok-a-in-Neg.a c.in-Neg.a.value _ c.in_ok-new-in-Neg.ensures.ok c.deref.ensures c.in_ok-a-in-Neg.ensures in
    subst (λ (expr : Expr). IsCopy (Neg c.in_ok-new-in-Neg.field-0) expr) (sym c.in-Neg.is) (record { same = λ cells. ap (lifted neg_ℤ) (a.same cells); within = λ width h. a.within width h })

pub returns-in_ok-new-in-Add-2 : goal.returns-in_ok-new-in-Add-2
returns-in_ok-new-in-Add-2 t c =
    let a = in_box c.in_ok-new-in-Add.field-0.value c.in_ok-a-in-Add.a c.in-Add.a.value _ c.in_ok-new-in-Add.ensures.ok c.deref-in-Add.ensures c.in_ok-a-in-Add.ensures in
    let b = in_box c.in_ok-new-in-Add-2.field-0.value c.in_ok-b-in-Add.b c.in-Add.b.value _ c.in_ok-new-in-Add-2.ensures.ok c.deref-in-Add-2.ensures c.in_ok-b-in-Add.ensures in
    subst (λ (expr : Expr). IsCopy (Add c.in_ok-new-in-Add.field-0 c.in_ok-new-in-Add-2.field-0) expr) (sym c.in-Add.is)
    (record { same = λ cells. ap₂ (lifted2 ◌+ℤ◌) (a.same cells) (b.same cells); within = λ width h. (a.within width h.0, b.within width h.1) })

pub returns-in_ok-new-in-Sub-2 : goal.returns-in_ok-new-in-Sub-2
returns-in_ok-new-in-Sub-2 t c =
    let a = in_box c.in_ok-new-in-Sub.field-0.value c.in_ok-a-in-Sub.a c.in-Sub.a.value _ c.in_ok-new-in-Sub.ensures.ok c.deref-in-Sub.ensures c.in_ok-a-in-Sub.ensures in
    let b = in_box c.in_ok-new-in-Sub-2.field-0.value c.in_ok-b-in-Sub.b c.in-Sub.b.value _ c.in_ok-new-in-Sub-2.ensures.ok c.deref-in-Sub-2.ensures c.in_ok-b-in-Sub.ensures in
    subst (λ (expr : Expr). IsCopy (Sub c.in_ok-new-in-Sub.field-0 c.in_ok-new-in-Sub-2.field-0) expr) (sym c.in-Sub.is)
    (record { same = λ cells. ap₂ (lifted2 ◌-ℤ◌) (a.same cells) (b.same cells); within = λ width h. (a.within width h.0, b.within width h.1) })

pub returns-in_ok-new-in-Mul-2 : goal.returns-in_ok-new-in-Mul-2
returns-in_ok-new-in-Mul-2 t c =
    let a = in_box c.in_ok-new-in-Mul.field-0.value c.in_ok-a-in-Mul.a c.in-Mul.a.value _ c.in_ok-new-in-Mul.ensures.ok c.deref-in-Mul.ensures c.in_ok-a-in-Mul.ensures in
    let b = in_box c.in_ok-new-in-Mul-2.field-0.value c.in_ok-b-in-Mul.b c.in-Mul.b.value _ c.in_ok-new-in-Mul-2.ensures.ok c.deref-in-Mul-2.ensures c.in_ok-b-in-Mul.ensures in
    subst (λ (expr : Expr). IsCopy (Mul c.in_ok-new-in-Mul.field-0 c.in_ok-new-in-Mul-2.field-0) expr) (sym c.in-Mul.is)
    (record { same = λ cells. ap₂ (lifted2 ◌*ℤ◌) (a.same cells) (b.same cells); within = λ width h. (a.within width h.0, b.within width h.1) })
