use Rattle.std.proofs.Common.{◌≡◌, ◌∙◌, ◌<◌, ℕ, sym, ap, subst, arith}
use Rattle.std.specs.Io.KnownBytes.{append_known}
use Rattle.tick_io.specs.Written.{AppendsPrefix}
use Rattle.replay.{proofs.Exits.nothing_appended, proofs.Prints.on_err}
use Rattle.watched_run.{specs.ToCome.rest_text, proofs.Gaps.{rest_is, rest_none}}
use Rattle.watched_run.proofs.steps.rest_told.Goals as goal

pub returns-then-teller-eq0-clause-whole : goal.returns-then-teller-eq0-clause-whole
returns-then-teller-eq0-clause-whole g c =
    let none : c.args.teller.since ≡ 0 = omega (arith, c.if-teller-eq0.true) in
    sym (ap (λ n. append_known (g.S.Sink.bytes c.args.out.now) (rest_text c.args.run.now c.args.watch.now c.args.teller.last n)) none ∙ nothing_appended (g.S.Sink.bytes c.args.out.now))

pub returns-in_err-_last-clause-prefix : goal.returns-in_err-_last-clause-prefix
returns-in_err-_last-clause-prefix g c =
    let some : 0 < c.args.teller.since = omega (arith, c.if-teller-eq0.false) in
    on_err c.from_residual.result
    (subst (AppendsPrefix (g.S.Sink.bytes c.args.out.now) (g.S.Sink.bytes c.message.new.out)) (sym (rest_is c.args.run.now c.args.watch.now c.args.teller.last c.args.teller.since some)) c.in_err-_last.ensures.prefix)

pub returns-clause-whole : goal.returns-clause-whole
returns-clause-whole g c =
    let some : 0 < c.args.teller.since = omega (arith, c.if-teller-eq0.false) in
    c.in_ok-_last.ensures.whole ∙ ap (append_known (g.S.Sink.bytes c.args.out.now)) (sym (rest_is c.args.run.now c.args.watch.now c.args.teller.last c.args.teller.since some))
