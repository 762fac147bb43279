use Rattle.std.proofs.Common.{◌≡◌, ap, sym, ◌∙◌, subst, ◌==◌, length, true, false, ℕ}
use Rattle.tick_model.{specs.declared.plan.Kind.Kind, specs.Printable.fits_kind, specs.Texts.known_cell_text}
use Rattle.update_text.{proofs.ReadRows.{null_cell, known_cell, none_from_test}, proofs.RowsBack.known_rank}
use Rattle.update_text.proofs.read_rows.cell_of.Goals as goal

pub returns-then-is_empty-clause-told : goal.returns-then-is_empty-clause-told
returns-then-is_empty-clause-told c cell texts fits kind told =
    sym (null_cell c.args.texts.now c.args.kind cell texts fits kind (sym told ∙ none_from_test c.args.field.now (sym c.is_empty.ensures ∙ c.if-is_empty.true)))

pub returns-in-Long-clause-told : goal.returns-in-Long-clause-told
returns-in-Long-clause-told c cell texts fits kind told =
    let known = known_cell c.args.texts.now c.args.kind cell c.args.field.now (sym c.is_empty.ensures ∙ c.if-is_empty.false) told in
    c.signed_of.ensures cell fits (known.1 ∙ ap (λ (k : Kind). known_cell_text c.args.texts.now k cell) c.in-Long.is)

pub returns-in-Text-clause-told : goal.returns-in-Text-clause-told
returns-in-Text-clause-told c cell texts fits kind told =
    let known = known_cell c.args.texts.now c.args.kind cell c.args.field.now (sym c.is_empty.ensures ∙ c.if-is_empty.false) told in
    c.rank_of.ensures.told cell texts
    (known_rank (length c.args.texts.now) cell known.0 (sym (ap (λ (k : Kind). fits_kind (length c.args.texts.now) k cell) c.in-Text.is) ∙ kind))
    (known.1 ∙ ap (λ (k : Kind). known_cell_text c.args.texts.now k cell) c.in-Text.is)
