use Rattle.std.proofs.Common.{◌≡◌, ℤ, Some, ap, sym, ◌∙◌, subst, length, to_z, w64}
use Rattle.std.{proofs.lemmas.Bool.eqb-true, proofs.lemmas.Int.to_z_pos}
use Rattle.tick_model.{specs.declared.plan.Kind.Kind, specs.declared.plan.Kind.TheVariants.{Long as LongKind, Text as TextKind}}
use Rattle.feed_reader.{specs.Cells.{long_of, IsCellOf}, proofs.CellLemmas.{null_cell, long_cell, text_cell}}
use Rattle.feed_reader.proofs.cells.ReadCells.cell.Goals as goal

pub returns-then-is_empty-clause-cell : goal.returns-then-is_empty-clause-cell
returns-then-is_empty-clause-cell c =
    null_cell c.args.kind c.args.field.now c.args.self.now.texts (eqb-true (length c.args.field.now) 0 (sym c.is_empty.ensures ∙ c.if-is_empty.true))

pub returns-in-Long-clause-cell : goal.returns-in-Long-clause-cell
returns-in-Long-clause-cell c =
    let field = c.args.field.now in
    let texts = c.args.self.now.texts in
    let is : c.signed_number.result ≡ long_of field = c.signed_number.ensures ∙ ap long_of c.as_bytes.ensures.value in
    subst (λ (kind : Kind). IsCellOf kind field texts texts c.signed_number.result) (sym c.in-Long.is)
    (subst (IsCellOf LongKind field texts texts) (sym is) (long_cell field texts (sym c.is_empty.ensures ∙ c.if-is_empty.false)))

pub returns-in_ok-number-in-Text-clause-cell : goal.returns-in_ok-number-in-Text-clause-cell
returns-in_ok-number-in-Text-clause-cell c =
    let field = c.args.field.now in
    let texts = c.args.self.now.texts in
    let new = c.number.new.self in
    let number = c.in_ok-number-in-Text.field-0 in
    subst (λ (kind : Kind). IsCellOf kind field texts new (Some (to_z w64 number))) (sym c.in-Text.is)
    (subst (λ (n : ℤ). IsCellOf TextKind field texts new (Some n)) (sym (to_z_pos w64 number c.in_ok-number-in-Text.ensures.small))
    (text_cell field texts new number (sym c.is_empty.ensures ∙ c.if-is_empty.false) c.in_ok-number-in-Text.ensures.number c.in_ok-number-in-Text.ensures.texts))
