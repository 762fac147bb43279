use Rattle.std.proofs.Common.{◌≡◌, refl, ◌∙◌, [], ◌∷◌}
use Rattle.std.{specs.Prelude.codes, specs.Fmt.decimal}
use Rattle.update_text.{specs.Reading.next_fields, proofs.Quoting.record_before, proofs.ReadRows.gives_memory}
use Rattle.update_text.proofs.read_changes.read_step.Goals as goal

pub returns-in_err-rest : goal.returns-in_err-rest
returns-in_err-rest c step name rest small e =
    gives_memory c.from_residual.result _ c.in_err-rest.field-0.0 c.from_residual.ensures.1
    (c.in_err-rest.ensures.told (codes "step") (next_fields (decimal step ∷ name ∷ []) rest) refl (e ∙ record_before (codes "step") (decimal step ∷ name ∷ []) rest))

pub returns-in_err-step : goal.returns-in_err-step
returns-in_err-step c step name rest small e =
    let zero = c.in_ok-rest.ensures.told (codes "step") (next_fields (decimal step ∷ name ∷ []) rest) refl (e ∙ record_before (codes "step") (decimal step ∷ name ∷ []) rest) in
    gives_memory c.from_residual-in_err-step.result _ c.in_err-step.field-0.0 c.from_residual-in_err-step.ensures.1 (c.in_err-step.ensures.told step (name ∷ []) rest small zero.0)

pub returns-in_err-rest-2 : goal.returns-in_err-rest-2
returns-in_err-rest-2 c step name rest small e =
    let zero = c.in_ok-rest.ensures.told (codes "step") (next_fields (decimal step ∷ name ∷ []) rest) refl (e ∙ record_before (codes "step") (decimal step ∷ name ∷ []) rest) in
    let one = c.in_ok-step.ensures.told step (name ∷ []) rest small zero.0 in
    gives_memory c.from_residual-in_err-rest-2.result _ c.in_err-rest-2.field-0.0 c.from_residual-in_err-rest-2.ensures.1 (c.in_err-rest-2.ensures.told name [] rest one.1)

pub returns-in_err-rest-3 : goal.returns-in_err-rest-3
returns-in_err-rest-3 c step name rest small e =
    let zero = c.in_ok-rest.ensures.told (codes "step") (next_fields (decimal step ∷ name ∷ []) rest) refl (e ∙ record_before (codes "step") (decimal step ∷ name ∷ []) rest) in
    let one = c.in_ok-step.ensures.told step (name ∷ []) rest small zero.0 in
    let two = c.in_ok-rest-2.ensures.told name [] rest one.1 in
    gives_memory c.from_residual-in_err-rest-3.result _ c.in_err-rest-3.field-0.0 c.from_residual-in_err-rest-3.ensures.1 (c.in_err-rest-3.ensures.told rest two.0)

pub returns : goal.returns
returns c step name rest small e =
    let zero = c.in_ok-rest.ensures.told (codes "step") (next_fields (decimal step ∷ name ∷ []) rest) refl (e ∙ record_before (codes "step") (decimal step ∷ name ∷ []) rest) in
    let one = c.in_ok-step.ensures.told step (name ∷ []) rest small zero.0 in
    let two = c.in_ok-rest-2.ensures.told name [] rest one.1 in
    (one.0, c.in_ok-rest-3.ensures.told rest two.0)
