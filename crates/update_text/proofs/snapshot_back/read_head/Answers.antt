use Rattle.std.proofs.Common.{refl, ◌∙◌, [], ◌∷◌}
use Rattle.std.{specs.Prelude.codes, specs.Fmt.decimal}
use Rattle.update_text.{specs.Reading.next_fields, proofs.Quoting.record_before, proofs.ReadRows.gives_memory}
use Rattle.update_text.proofs.snapshot_back.read_head.Goals as goal

pub returns-in_err-rest : goal.returns-in_err-rest
returns-in_err-rest c caller call step name rest p q r e =
    let fields = decimal caller ∷ decimal call ∷ decimal step ∷ name ∷ [] in
    gives_memory c.from_residual.result _ c.in_err-rest.field-0.0 c.from_residual.ensures.1 (c.in_err-rest.ensures.told (codes "snap") (next_fields fields rest) refl (e ∙ record_before (codes "snap") fields rest))

pub returns-in_err-caller : goal.returns-in_err-caller
returns-in_err-caller c caller call step name rest p q r e =
    let fields = decimal caller ∷ decimal call ∷ decimal step ∷ name ∷ [] in
    let zero = c.in_ok-rest.ensures.told (codes "snap") (next_fields fields rest) refl (e ∙ record_before (codes "snap") fields rest) in
    gives_memory c.from_residual-in_err-caller.result _ c.in_err-caller.field-0.0 c.from_residual-in_err-caller.ensures.1 (c.in_err-caller.ensures caller (decimal call ∷ decimal step ∷ name ∷ []) rest p zero.0)

pub returns-in_err-call : goal.returns-in_err-call
returns-in_err-call c caller call step name rest p q r e =
    let fields = decimal caller ∷ decimal call ∷ decimal step ∷ name ∷ [] in
    let zero = c.in_ok-rest.ensures.told (codes "snap") (next_fields fields rest) refl (e ∙ record_before (codes "snap") fields rest) in
    let one = c.in_ok-caller.ensures caller (decimal call ∷ decimal step ∷ name ∷ []) rest p zero.0 in
    gives_memory c.from_residual-in_err-call.result _ c.in_err-call.field-0.0 c.from_residual-in_err-call.ensures.1 (c.in_err-call.ensures call (decimal step ∷ name ∷ []) rest q one.1)

pub returns-in_err-step : goal.returns-in_err-step
returns-in_err-step c caller call step name rest p q r e =
    let fields = decimal caller ∷ decimal call ∷ decimal step ∷ name ∷ [] in
    let zero = c.in_ok-rest.ensures.told (codes "snap") (next_fields fields rest) refl (e ∙ record_before (codes "snap") fields rest) in
    let one = c.in_ok-caller.ensures caller (decimal call ∷ decimal step ∷ name ∷ []) rest p zero.0 in
    let two = c.in_ok-call.ensures call (decimal step ∷ name ∷ []) rest q one.1 in
    gives_memory c.from_residual-in_err-step.result _ c.in_err-step.field-0.0 c.from_residual-in_err-step.ensures.1 (c.in_err-step.ensures.told step (name ∷ []) rest r two.1)

pub returns-in_err-rest-2 : goal.returns-in_err-rest-2
returns-in_err-rest-2 c caller call step name rest p q r e =
    let fields = decimal caller ∷ decimal call ∷ decimal step ∷ name ∷ [] in
    let zero = c.in_ok-rest.ensures.told (codes "snap") (next_fields fields rest) refl (e ∙ record_before (codes "snap") fields rest) in
    let one = c.in_ok-caller.ensures caller (decimal call ∷ decimal step ∷ name ∷ []) rest p zero.0 in
    let two = c.in_ok-call.ensures call (decimal step ∷ name ∷ []) rest q one.1 in
    let three = c.in_ok-step.ensures.told step (name ∷ []) rest r two.1 in
    gives_memory c.from_residual-in_err-rest-2.result _ c.in_err-rest-2.field-0.0 c.from_residual-in_err-rest-2.ensures.1 (c.in_err-rest-2.ensures.told name [] rest three.1)

pub returns-in_err-rest-3 : goal.returns-in_err-rest-3
returns-in_err-rest-3 c caller call step name rest p q r e =
    let fields = decimal caller ∷ decimal call ∷ decimal step ∷ name ∷ [] in
    let zero = c.in_ok-rest.ensures.told (codes "snap") (next_fields fields rest) refl (e ∙ record_before (codes "snap") fields rest) in
    let one = c.in_ok-caller.ensures caller (decimal call ∷ decimal step ∷ name ∷ []) rest p zero.0 in
    let two = c.in_ok-call.ensures call (decimal step ∷ name ∷ []) rest q one.1 in
    let three = c.in_ok-step.ensures.told step (name ∷ []) rest r two.1 in
    let four = c.in_ok-rest-2.ensures.told name [] rest three.1 in
    gives_memory c.from_residual-in_err-rest-3.result _ c.in_err-rest-3.field-0.0 c.from_residual-in_err-rest-3.ensures.1 (c.in_err-rest-3.ensures.told rest four.0)

pub returns : goal.returns
returns c caller call step name rest p q r e =
    let fields = decimal caller ∷ decimal call ∷ decimal step ∷ name ∷ [] in
    let zero = c.in_ok-rest.ensures.told (codes "snap") (next_fields fields rest) refl (e ∙ record_before (codes "snap") fields rest) in
    let one = c.in_ok-caller.ensures caller (decimal call ∷ decimal step ∷ name ∷ []) rest p zero.0 in
    let two = c.in_ok-call.ensures call (decimal step ∷ name ∷ []) rest q one.1 in
    let three = c.in_ok-step.ensures.told step (name ∷ []) rest r two.1 in
    let four = c.in_ok-rest-2.ensures.told name [] rest three.1 in
    (one.0, two.0, three.0, c.in_ok-rest-3.ensures.told rest four.0)
