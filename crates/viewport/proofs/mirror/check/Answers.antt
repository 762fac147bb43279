use Rattle.std.proofs.Common.{◌≡◌, ap, sym, ◌∙◌, subst, ◌⊎◌, inr, ◌^◌, None, Some}
use Rattle.std.proofs.lemmas.Result.{err_from_is_err_and}
use Rattle.tick_model.{specs.declared.update.UpdateFault.TheVariants.Memory as NoMemory, specs.Changes.Change, specs.Rules.update_fault, specs.Tables.keys}
use Rattle.viewport.{specs.Mirrored.count_fault, proofs.Mirroring.{by_count, told_fault}}
use Rattle.viewport.proofs.mirror.check.Goals as goal

pub returns-in_err-check-clause-fault : goal.returns-in_err-check-clause-fault
returns-in_err-check-clause-fault c =
    let p = err_from_is_err_and c.from_residual.result c.from_residual.ensures.1 in
    let fault = c.in_err-check.field-0.0 in
    rw (p.1, p.2)
    (told_fault c.args.table.now.new c.args.change.now fault
    (subst (λ (change : Change). (fault ≡ NoMemory) ⊎ (update_fault (2 ^ 62) (keys c.args.table.now.new.rows) change.update ≡ Some fault)) c.change.view_is
    (subst (λ ks. (fault ≡ NoMemory) ⊎ (update_fault (2 ^ 62) ks c.change.inside.update ≡ Some fault)) c.rows.ensures.keys c.in_err-check.ensures.fault)))

pub returns-in-Some-clause-fault : goal.returns-in-Some-clause-fault
returns-in-Some-clause-fault c =
    inr (by_count c.args.table.now.new c.args.change.now (Some c.in-Some.fault)
    (subst (λ (change : Change). update_fault (2 ^ 62) (keys c.args.table.now.new.rows) change.update ≡ None) c.change.view_is
    (subst (λ ks. update_fault (2 ^ 62) ks c.change.inside.update ≡ None) c.rows.ensures.keys c.in_ok-check.ensures.ok))
    (sym c.in-Some.is ∙ c.count_fault.ensures ∙ ap (λ width. count_fault width c.args.change.now) c.width.ensures.now))
