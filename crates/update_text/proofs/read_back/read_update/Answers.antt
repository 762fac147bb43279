use Rattle.std.proofs.Common.{◌≡◌, ap, sym, ◌∙◌, subst, true≢false, false, List, ℕ, ◌^◌, ◌<◌}
use Rattle.tick_model.{specs.Changes.{Change, is_empty}, specs.Printable.IsPrintable}
use Rattle.update_text.{specs.OneToOne.{IsPrinted, change_text}, specs.Reading.IsConsistent, specs.Told.change_with, proofs.ReadBack.{ok_three, printable_from}}
use Rattle.update_text.proofs.read_back.read_update.Goals as goal

pub returns-then-is_empty-clause-none : goal.returns-then-is_empty-clause-none
returns-then-is_empty-clause-none c _ step change p e =
    let read = c.in_ok-step.ensures.told step change c.requires.apart p e in
    true≢false (sym c.if-is_empty.true ∙ c.is_empty.ensures ∙ ap (λ (some : Change). is_empty some.update) read.1 ∙ p.some)

pub compared-requires-clause-printable : goal.compared-requires-clause-printable
compared-requires-clause-printable c =
    let read = c.in_ok-step.ensures.read in
    printable_from c.args.shown.now.columns c.args.texts.now read.0 read.1 (change_with c.in_ok-step.update c.in_ok-step.cells.items) read.2
    c.in_ok-consistent.ensures.removed c.in_ok-consistent.ensures.added c.in_ok-consistent.ensures.modified c.in_ok-consistent.ensures.shifted (c.in_ok-consistent.ensures.yes c.if-consistent.true)

pub returns-clause-none : goal.returns-clause-none
returns-clause-none c _ step change p e =
    let read = c.in_ok-step.ensures.told step change c.requires.apart p e in
    let consistent = subst (λ (some : Change). IsConsistent some.update) (sym read.1) (p.printable.apart, p.printable.columns_say) in
    true≢false (sym (c.in_ok-consistent.ensures.told consistent) ∙ c.if-consistent.false)

pub returns-then-consistent-clause-printed : goal.returns-then-consistent-clause-printed
returns-then-consistent-clause-printed c =
    let columns = c.args.shown.now.columns in
    let texts = c.args.texts.now in
    let read = c.in_ok-step.ensures.read in
    let own = change_with c.in_ok-step.update c.in_ok-step.cells.items in
    let printable : IsPrintable columns texts own =
    printable_from columns texts read.0 read.1 own read.2
    c.in_ok-consistent.ensures.removed c.in_ok-consistent.ensures.added c.in_ok-consistent.ensures.modified c.in_ok-consistent.ensures.shifted (c.in_ok-consistent.ensures.yes c.if-consistent.true) in
    let base : IsPrinted columns texts c.in_ok-step.step own = record { printable = printable; some = sym c.is_empty.ensures ∙ c.if-is_empty.false; within = c.compared.ensures.within } in
    ok_three c.compared.result _ _ _ _
    (λ printed s ch t. subst (λ (some : Change). IsPrinted columns texts printed.step some) (sym ch) (subst (λ (n : ℕ). IsPrinted columns texts n own) (sym s) base))
    c.compared.ensures.step c.compared.ensures.change c.compared.ensures.text
