use Rattle.std.proofs.Common.{◌≡◌, ◌+◌, ◌++◌, ◌∙◌, [], refl, ap, sym, subst, arith, length, drop}
use Rattle.std.{specs.Io.KnownBytes.append_known, proofs.lemmas.List.append-nil, proofs.lemmas.Result.err_from_is_err_and}
use Rattle.tick_io.{proofs.Prefixes.prefix_within, specs.Counts.Rose}
use Rattle.tick_model.specs.Texts.{records_text, snapshot_records}
use Rattle.replay.{proofs.CallTexts.{call_next, call_reached, call_taken, calls_end, calls_text, comes_next}, proofs.Exits.nothing_appended, proofs.Prints.{on_err, written_more}}
use Rattle.replay.proofs.snapshots.write_caller.Goals as goal

pub loop-call-init : goal.loop-call-init
loop-call-init g c = ([], sym (nothing_appended (g.S.Sink.bytes c.args.out.now)), refl, refl)

pub write_call-requires-clause-few : goal.write_call-requires-clause-few
write_call-requires-clause-few g c κs within = omega (arith, c.requires.few, c.requires.few_calls, c.loop-call-test.true)

pub write_call-requires-clause-reached : goal.write_call-requires-clause-reached
write_call-requires-clause-reached g c κs within =
    call_reached c.args.run.now c.args.caller c.loop-call.call c.args.kept.now c.index-kept-call.result c.loop-call-test.true c.index-kept-call.is c.requires.reached

pub write_call-requires-clause-words : goal.write_call-requires-clause-words
write_call-requires-clause-words g c κs within =
    call_taken c.args.run.now c.args.caller c.loop-call.call c.args.kept.now c.index-kept-call.result c.loop-call-test.true c.index-kept-call.is c.requires.taken

pub returns-in_err-write_call-clause-err : goal.returns-in_err-write_call-clause-err
returns-in_err-write_call-clause-err g c =
    let run = c.args.run.now in
    let caller = c.args.caller in
    let i = c.loop-call.call in
    let kept = c.args.kept.now in
    let so_far = c.loop-call.invariant in
    on_err c.from_residual.result
    (prefix_within (g.S.Sink.bytes c.args.out.now) (g.S.Sink.bytes c.loop-call.out) (g.S.Sink.bytes c.write_call.new.out) so_far.0 _ (calls_text run caller (i + 1) (drop (i + 1) kept)) (calls_text run caller 0 kept)
    (comes_next so_far.0 _ (calls_text run caller (i + 1) (drop (i + 1) kept)) (calls_text run caller i (drop i kept)) (calls_text run caller 0 kept) so_far.2
    (call_next run caller i kept c.index-kept-call.result c.loop-call-test.true c.index-kept-call.is))
    so_far.1 c.in_err-write_call.ensures.err)

pub returns-in_err-write_call-clause-failed : goal.returns-in_err-write_call-clause-failed
returns-in_err-write_call-clause-failed g c is =
    let p = err_from_is_err_and c.from_residual.result c.from_residual.ensures.1 in
    subst (λ n. Rose n (g.S.Sink.failures c.write_call.new.out)) c.loop-call.invariant.3 (c.in_err-write_call.ensures.failed (cc))

pub returns-in_err-write_call-clause-never_falls : goal.returns-in_err-write_call-clause-never_falls
returns-in_err-write_call-clause-never_falls g c = omega (arith, c.loop-call.invariant.3, c.in_err-write_call.ensures.never_falls)

pub loop-call-preserved : goal.loop-call-preserved
loop-call-preserved g c =
    let run = c.args.run.now in
    let caller = c.args.caller in
    let i = c.loop-call.call in
    let kept = c.args.kept.now in
    let so_far = c.loop-call.invariant in
    let piece = records_text (snapshot_records run caller i c.index-kept-call.result.taken.step) in (
      so_far.0 ++ piece,
      written_more (g.S.Sink.bytes c.args.out.now) (g.S.Sink.bytes c.loop-call.out) (g.S.Sink.bytes c.write_call.new.out) so_far.0 piece (so_far.0 ++ piece) so_far.1 c.in_ok-write_call.ensures.whole refl,
      comes_next so_far.0 piece (calls_text run caller (i + 1) (drop (i + 1) kept)) (calls_text run caller i (drop i kept)) (calls_text run caller 0 kept) so_far.2
          (call_next run caller i kept c.index-kept-call.result c.loop-call-test.true c.index-kept-call.is),
      c.in_ok-write_call.ensures.steady ∙ so_far.3,
    )

pub returns-clause-whole : goal.returns-clause-whole
returns-clause-whole g c =
    let run = c.args.run.now in
    let so_far = c.loop-call.invariant in
    so_far.1 ∙ ap (append_known (g.S.Sink.bytes c.args.out.now))
    (sym (append-nil so_far.0) ∙ ap (λ rest. so_far.0 ++ rest) (sym (calls_end run c.args.caller c.loop-call.call c.loop-call.call c.args.kept.now (omega (arith, c.loop-call-test.false)))) ∙ so_far.2)

pub returns-clause-never_falls : goal.returns-clause-never_falls
returns-clause-never_falls g c = omega (arith, c.loop-call.invariant.3)
