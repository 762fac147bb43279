use Rattle.std.proofs.Common.{◌≡◌, ◌+◌, ◌≤◌, ◌<◌, ◌∙◌, sym, ap, subst, inl, inr, arith, Err}
use Rattle.std.{specs.Prelude.{IfErr, IfOk}, specs.Io.KnownBytes.append_known, proofs.lemmas.Result.IfErr-weaker}
use Rattle.tick_io.specs.Written.{AppendsPrefix}
use Rattle.tick_laws.specs.Reached.{IsReached}
use Rattle.replay.{specs.declared.outcome.Outcome.Outcome, specs.declared.outcome.Outcome.TheVariants.Write, specs.Causes.IsCause, specs.Outcomes.IsTold, specs.Standing.IsGood, proofs.Exits.{none_written, nothing_appended}, proofs.Prints.on_err}
use Rattle.watched_run.{specs.Standing.IsWatchedAt, specs.ToCome.{rest_text, text_from}, proofs.Stood.{few_steps, node_of, none_held, some_held, table_of}, proofs.Tellings.told_or_not, proofs.TextsTold.rests_before}
use Rattle.watched_run.proofs.steps.Watching.advance.Goals as goal

pub held_table-requires : goal.held_table-requires
held_table-requires g c = node_of c.args.run.now c.args.watch.now c.requires.watch c.args.self.graph.run c.requires.stands.run_is

pub returns-in_err-held-clause-prefix : goal.returns-in_err-held-clause-prefix
returns-in_err-held-clause-prefix g c =
    on_err c.from_residual.result (none_written (g.S.Sink.bytes c.args.out.now) (text_from c.args.run.now c.args.watch.now c.args.self.teller.last c.args.self.teller.since))

pub next_told-requires-clause-good : goal.next_told-requires-clause-good
next_told-requires-clause-good g c κs within = subst (IsGood c.args.run.now) (sym c.in-Ok.ensures.step) c.in-Ok.ensures.good

pub next_told-requires-clause-next : goal.next_told-requires-clause-next
next_told-requires-clause-next g c κs within = omega (arith, c.in-Ok.ensures.step, c.requires.stands.here)

pub next_told-requires-clause-within : goal.next_told-requires-clause-within
next_told-requires-clause-within g c κs within = omega (arith, c.in-Ok.ensures.step, c.requires.next)

pub returns-in-Ok-clause-stands : goal.returns-in-Ok-clause-stands
returns-in-Ok-clause-stands g c =
    subst (λ n. IfOk c.next_told.result (IsWatchedAt c.args.run.now c.args.watch.now n)) c.in-Ok.ensures.step c.next_told.ensures.stands

pub returns-in-Ok-clause-cause : goal.returns-in-Ok-clause-cause
returns-in-Ok-clause-cause g c =
    IfErr-weaker c.next_told.result (λ (outcome : Outcome). IsTold outcome → ⊥) (λ outcome. IsTold outcome → IsCause c.args.run.now (c.args.self.graph.step + 1) outcome) (λ outcome untold told. absurd (untold told)) c.next_told.ensures.no_cause

pub returns-in-Ok-clause-ended : goal.returns-in-Ok-clause-ended
returns-in-Ok-clause-ended g c =
    IfErr-weaker c.next_told.result (λ (outcome : Outcome). IsTold outcome → ⊥)
    (λ outcome. IsTold outcome → g.S.Sink.bytes c.next_told.new.out ≡ append_known (g.S.Sink.bytes c.args.out.now) (text_from c.args.run.now c.args.watch.now c.args.self.teller.last c.args.self.teller.since))
    (λ outcome untold told. absurd (untold told)) c.next_told.ensures.no_cause

pub returns-in_default-clause-ended : goal.returns-in_default-clause-ended
returns-in_default-clause-ended g c = λ told.
    let own = c.args.self in
    let run = c.args.run.now in
    let watch = c.args.watch.now in
    let old = g.S.Sink.bytes c.args.out.now in
    let none = none_held c.in_ok-held.held _ _ c.in_default.is c.in_ok-held.ensures in
    sym (
    ap (append_known old) (rests_before run watch own.teller.last own.teller.since own.graph.step c.in-Err.outcome c.requires.stands.here c.requires.next c.requires.stands.good (c.in-Err.ensures.cause told))
    ∙ ap (λ n. append_known old (rest_text run watch own.teller.last n)) none
    ∙ nothing_appended old
    )

pub returns-in_default-clause-prefix : goal.returns-in_default-clause-prefix
returns-in_default-clause-prefix g c =
    none_written (g.S.Sink.bytes c.args.out.now) (text_from c.args.run.now c.args.watch.now c.args.self.teller.last c.args.self.teller.since)

pub returns-in_default-clause-failed : goal.returns-in_default-clause-failed
returns-in_default-clause-failed g c = λ is. let same : c.in-Err.outcome ≡ Write = cc in absurd (c.in-Err.ensures.no_write (ap Err same))

pub ended-requires-clause-reached : goal.ended-requires-clause-reached
ended-requires-clause-reached g c κs within = subst (IsReached c.args.run.now) (sym c.requires.stands.here) c.requires.stands.good.reached

pub ended-requires-clause-few : goal.ended-requires-clause-few
ended-requires-clause-few g c κs within =
    few_steps c.args.run.now c.requires.lawful (c.args.self.teller.last + c.args.self.teller.since) (omega (arith, c.requires.stands.here, c.requires.next))

pub ended-requires-clause-table : goal.ended-requires-clause-table
ended-requires-clause-table g c κs within =
    let own = c.args.self in
    table_of c.args.run.now c.requires.lawful c.args.watch.now c.requires.watch (own.teller.last + own.teller.since) (subst (IsReached c.args.run.now) (sym c.requires.stands.here) c.requires.stands.good.reached)
    own.graph.run own.graph.step c.in-Some.table c.requires.stands.run_is (sym c.requires.stands.here) (some_held c.in_ok-held.held c.in-Some.table _ _ c.in-Some.is c.in_ok-held.ensures)

pub returns-clause-cause : goal.returns-clause-cause
returns-clause-cause g c = λ told.
    subst (IsCause c.args.run.now (c.args.self.graph.step + 1)) (sym (c.ended.ensures.same told)) (c.in-Err.ensures.cause (subst IsTold (c.ended.ensures.same told) told))

pub returns-clause-ended : goal.returns-clause-ended
returns-clause-ended g c = λ told.
    let own = c.args.self in
    let cause = c.in-Err.ensures.cause (subst IsTold (c.ended.ensures.same told) told) in
    c.ended.ensures.whole told
    ∙ ap (append_known (g.S.Sink.bytes c.args.out.now)) (sym (rests_before c.args.run.now c.args.watch.now own.teller.last own.teller.since own.graph.step c.in-Err.outcome c.requires.stands.here c.requires.next c.requires.stands.good cause))

pub returns-clause-prefix : goal.returns-clause-prefix
returns-clause-prefix g c =
    let own = c.args.self in
    let run = c.args.run.now in
    let watch = c.args.watch.now in
    let old = g.S.Sink.bytes c.args.out.now in
    let new = g.S.Sink.bytes c.ended.new.out in
    elim (told_or_not c.in-Err.outcome) as (λ _. AppendsPrefix old new (text_from run watch own.teller.last own.teller.since)) [
      | inl told ↦
          subst (AppendsPrefix old new) (sym (rests_before run watch own.teller.last own.teller.since own.graph.step c.in-Err.outcome c.requires.stands.here c.requires.next c.requires.stands.good (c.in-Err.ensures.cause told)))
          (c.ended.ensures.told told)
      | inr untold ↦ subst (λ known. AppendsPrefix old known (text_from run watch own.teller.last own.teller.since)) (sym (c.ended.ensures.untold untold)) (none_written old (text_from run watch own.teller.last own.teller.since))
    ]
