use Rattle.std.proofs.Common.{ap, sym, ◌∙◌, true≢false, get_or, [], List, ℕ}
use Rattle.std.specs.Prelude.{codes}
use Rattle.update_text.proofs.ReadRows.{gives_memory}
use Rattle.run_output.proofs.one_entry.read_fault.Goals as goal

pub returns-in_err-fields-clause-told : goal.returns-in_err-fields-clause-told
returns-in_err-fields-clause-told c fields e = gives_memory c.from_residual.result _ c.in_err-fields.field-0.0 c.from_residual.ensures.1 (c.in_err-fields.ensures.told (codes "fault") fields e)

pub returns-else-is_tag-clause-told : goal.returns-else-is_tag-clause-told
returns-else-is_tag-clause-told c fields e =
    let read = c.in_ok-fields.ensures.told (codes "fault") fields e in
    absurd (true≢false (sym (c.is_tag.ensures.told (c.field_at.ensures ∙ ap (λ (some : List (List ℕ)). get_or some 0 []) read)) ∙ c.if-is_tag.false))
