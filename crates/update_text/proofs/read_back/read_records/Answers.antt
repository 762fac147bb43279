use Rattle.std.proofs.Common.{◌≡◌, ap, sym, ◌∙◌, subst, List, ℕ}
use Rattle.tick_model.{specs.declared.plan.ColumnSpec.ColumnSpec, specs.Printable.IsPrintable, specs.Texts.records_text}
use Rattle.update_text.{specs.OneToOne.TellApart, specs.Told.parts_shown, proofs.ReadBack.told_text, proofs.ReadRows.gives_memory}
use Rattle.update_text.proofs.read_back.read_records.Goals as goal

-- a fact of columns and texts, at equal ones
moved : (P : List ColumnSpec → List (List ℕ) → Type 0) (columns columns' : List ColumnSpec) (texts texts' : List (List ℕ)) → columns' ≡ columns → texts' ≡ texts → P columns texts → P columns' texts'
moved P columns columns' texts texts' c t h = subst (λ some. P some texts') (sym c) (subst (P columns) (sym t) h)

pub returns-in_err-step-clause-told : goal.returns-in_err-step-clause-told
returns-in_err-step-clause-told c step change apart p e =
    let shown = c.args.shown.now in
    gives_memory c.from_residual.result _ c.in_err-step.field-0.0 c.from_residual.ensures.1
    (c.in_err-step.ensures step shown.name (records_text (parts_shown shown.columns c.args.texts.now change)) p.within (e ∙ told_text step shown.name shown.columns c.args.texts.now change p.some))

pub returns-in_err-update-clause-told : goal.returns-in_err-update-clause-told
returns-in_err-update-clause-told c step change apart p e =
    let shown = c.args.shown.now in
    let texts = c.args.texts.now in
    let first = c.in_ok-step.ensures step shown.name (records_text (parts_shown shown.columns texts change)) p.within (e ∙ told_text step shown.name shown.columns texts change p.some) in
    let columns' = c.as_slice.result.now in
    let texts' = c.as_slice-2.result.now in
    gives_memory c.from_residual-in_err-update.result _ c.in_err-update.field-0.0 c.from_residual-in_err-update.ensures.1
    (c.in_err-update.ensures.told change
    (moved TellApart shown.columns columns' texts texts' c.as_slice.ensures c.as_slice-2.ensures apart)
    (moved (λ a b. IsPrintable a b change) shown.columns columns' texts texts' c.as_slice.ensures c.as_slice-2.ensures p.printable)
    (moved (λ a b. c.in_ok-step.rest.now ≡ records_text (parts_shown a b change)) shown.columns columns' texts texts' c.as_slice.ensures c.as_slice-2.ensures first.1))

pub returns-clause-told : goal.returns-clause-told
returns-clause-told c step change apart p e =
    let shown = c.args.shown.now in
    let texts = c.args.texts.now in
    let first = c.in_ok-step.ensures step shown.name (records_text (parts_shown shown.columns texts change)) p.within (e ∙ told_text step shown.name shown.columns texts change p.some) in
    let columns' = c.as_slice.result.now in
    let texts' = c.as_slice-2.result.now in (
      first.0,
      c.in_ok-update.ensures.told change
          (moved TellApart shown.columns columns' texts texts' c.as_slice.ensures c.as_slice-2.ensures apart)
          (moved (λ a b. IsPrintable a b change) shown.columns columns' texts texts' c.as_slice.ensures c.as_slice-2.ensures p.printable)
          (moved (λ a b. c.in_ok-step.rest.now ≡ records_text (parts_shown a b change)) shown.columns columns' texts texts' c.as_slice.ensures c.as_slice-2.ensures first.1),
    )
