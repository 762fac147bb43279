use Rattle.std.proofs.Common.{◌≡◌, ap, sym, ◌∙◌, ◌∷◌, [], true≢false}
use Rattle.std.{specs.Cmp.Lexicographic.bytes_decides, proofs.lemmas.List.append-nil}
use Rattle.tick_model.specs.Texts.{record_text}
use Rattle.update_text.proofs.ReadRows.{gives_memory}
use Rattle.update_text.proofs.record_back.read_record.Goals as goal

pub returns-in_err-fields-clause-told : goal.returns-in_err-fields-clause-told
returns-in_err-fields-clause-told c first others e =
    gives_memory c.from_residual.result _ c.in_err-fields.field-0.0 c.from_residual.ensures.1 (c.in_err-fields.ensures first others [] (e ∙ sym (append-nil (record_text (first ∷ others)))))

pub returns-then-eq-clause-told : goal.returns-then-eq-clause-told
returns-then-eq-clause-told c first others e = c.in_ok-fields.ensures first others [] (e ∙ sym (append-nil (record_text (first ∷ others))))

pub returns-else-eq-clause-told : goal.returns-else-eq-clause-told
returns-else-eq-clause-told c first others e =
    let read = c.in_ok-fields.ensures first others [] (e ∙ sym (append-nil (record_text (first ∷ others)))) in
    let same : c.as_slice-2.result.now ≡ c.args.bytes.now = c.as_slice-2.ensures.value ∙ c.in_ok-text.ensures ∙ ap record_text (c.as_slice.ensures ∙ read) ∙ sym e in
    absurd (true≢false (sym ((bytes_decides c.as_slice-2.result.now c.args.bytes.now).1 same) ∙ sym c.if-eq.ensures))
