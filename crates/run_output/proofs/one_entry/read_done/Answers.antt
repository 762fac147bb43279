use Rattle.std.proofs.Common.{ap, sym, ◌∙◌, ◌∷◌, true≢false, get_or, [], List, ℕ}
use Rattle.std.{specs.Prelude.codes, specs.Fmt.decimal}
use Rattle.update_text.proofs.ReadRows.{gives_memory}
use Rattle.run_output.specs.declared.entry.OutputEntry.TheVariants.{Done}
use Rattle.run_output.proofs.one_entry.read_done.Goals as goal

pub returns-in_err-fields-clause-told : goal.returns-in_err-fields-clause-told
returns-in_err-fields-clause-told c step small e = gives_memory c.from_residual.result _ c.in_err-fields.field-0.0 c.from_residual.ensures.1 (c.in_err-fields.ensures.told (codes "done") (decimal step ∷ []) e)

pub returns-in_err-step-clause-told : goal.returns-in_err-step-clause-told
returns-in_err-step-clause-told c step small e =
    let read = c.in_ok-fields.ensures.told (codes "done") (decimal step ∷ []) e in
    gives_memory c.from_residual-in_err-step.result _ c.in_err-step.field-0.0 c.from_residual-in_err-step.ensures.1
    (c.in_err-step.ensures.told step small (c.field_at.ensures ∙ ap (λ (some : List (List ℕ)). get_or some 1 []) read))

pub returns-then-is_done-clause-told : goal.returns-then-is_done-clause-told
returns-then-is_done-clause-told c step small e =
    let read = c.in_ok-fields.ensures.told (codes "done") (decimal step ∷ []) e in
    ap Done (c.in_ok-step.ensures.told step small (c.field_at.ensures ∙ ap (λ (some : List (List ℕ)). get_or some 1 []) read))

pub returns-clause-told : goal.returns-clause-told
returns-clause-told c step small e = absurd (true≢false (sym (c.is_done.ensures.told (decimal step) (c.in_ok-fields.ensures.told (codes "done") (decimal step ∷ []) e)) ∙ c.if-is_done.false))
