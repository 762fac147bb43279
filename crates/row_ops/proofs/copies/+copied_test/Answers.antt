use Rattle.std.proofs.Common.{ap, ap₂, subst, sym, ◌&&◌, ◌||◌, not}
use Rattle.tick_model.{specs.declared.plan.Pred.{Pred, And, Or, Not}, specs.declared.plan.Pred.TheVariants.Compare, specs.Formulas.compares}
use Rattle.row_ops.{specs.Copies.IsTestCopy, proofs.Copied.test_in_box}
use Rattle.row_ops.proofs.copies.+copied_test.Goals as goal

pub returns-in_ok-b-in-Compare : goal.returns-in_ok-b-in-Compare
returns-in_ok-b-in-Compare t c =
    let a = c.in_ok-a-in-Compare.ensures in
    let b = c.in_ok-b-in-Compare.ensures in
    subst (λ (test : Pred). IsTestCopy (Compare c.in-Compare.how c.in_ok-a-in-Compare.a c.in_ok-b-in-Compare.b) test) (sym c.in-Compare.is)
    (record { same = λ cells. ap₂ (compares c.in-Compare.how) (a.same cells) (b.same cells); within = λ width h. (a.within width h.0, b.within width h.1) })

pub returns-in_ok-new-in-And-2 : goal.returns-in_ok-new-in-And-2
returns-in_ok-new-in-And-2 t c =
    let a = test_in_box c.in_ok-new-in-And.field-0.value c.in_ok-a-in-And.a c.in-And.a.value _ c.in_ok-new-in-And.ensures.ok c.deref.ensures c.in_ok-a-in-And.ensures in
    let b = test_in_box c.in_ok-new-in-And-2.field-0.value c.in_ok-b-in-And.b c.in-And.b.value _ c.in_ok-new-in-And-2.ensures.ok c.deref-in-And.ensures c.in_ok-b-in-And.ensures in
    subst (λ (test : Pred). IsTestCopy (And c.in_ok-new-in-And.field-0 c.in_ok-new-in-And-2.field-0) test) (sym c.in-And.is)
    (record { same = λ cells. ap₂ ◌&&◌ (a.same cells) (b.same cells); within = λ width h. (a.within width h.0, b.within width h.1) })

pub returns-in_ok-new-in-Or-2 : goal.returns-in_ok-new-in-Or-2
returns-in_ok-new-in-Or-2 t c =
    let a = test_in_box c.in_ok-new-in-Or.field-0.value c.in_ok-a-in-Or.a c.in-Or.a.value _ c.in_ok-new-in-Or.ensures.ok c.deref-in-Or.ensures c.in_ok-a-in-Or.ensures in
    let b = test_in_box c.in_ok-new-in-Or-2.field-0.value c.in_ok-b-in-Or.b c.in-Or.b.value _ c.in_ok-new-in-Or-2.ensures.ok c.deref-in-Or-2.ensures c.in_ok-b-in-Or.ensures in
    subst (λ (test : Pred). IsTestCopy (Or c.in_ok-new-in-Or.field-0 c.in_ok-new-in-Or-2.field-0) test) (sym c.in-Or.is)
    (record { same = λ cells. ap₂ ◌||◌ (a.same cells) (b.same cells); within = λ width h. (a.within width h.0, b.within width h.1) })

pub returns-in_ok-new-in-Not : goal.returns-in_ok-new-in-Not
returns-in_ok-new-in-Not t c =
    let a = test_in_box c.in_ok-new-in-Not.field-0.value c.in_ok-a-in-Not.a c.in-Not.a.value _ c.in_ok-new-in-Not.ensures.ok c.deref-in-Not.ensures c.in_ok-a-in-Not.ensures in
    subst (λ (test : Pred). IsTestCopy (Not c.in_ok-new-in-Not.field-0) test) (sym c.in-Not.is) (record { same = λ cells. ap not (a.same cells); within = λ width h. a.within width h })
