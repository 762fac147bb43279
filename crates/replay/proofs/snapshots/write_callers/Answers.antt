use Rattle.std.proofs.Common.{◌≡◌, ◌+◌, ◌++◌, ◌≤◌, ◌∙◌, [], refl, ap, sym, subst, arith, length, drop, List}
use Rattle.std.{specs.Io.KnownBytes.append_known, specs.List.AllByRecursion, proofs.lemmas.List.append-nil, proofs.lemmas.Result.err_from_is_err_and}
use Rattle.tick_io.{specs.Written.AppendsPrefix, proofs.Prefixes.prefix_within, specs.Counts.Rose}
use Rattle.tick_laws.specs.Reached.{IsReached}
use Rattle.replay.{specs.declared.readers.KeptSnapshot.KeptSnapshot, specs.Snapshots.AreTaken, proofs.CallTexts.{caller_ends, caller_next, callers_end, callers_text, calls_text, comes_next, length_kept}, proofs.Exits.nothing_appended, proofs.Prints.{on_err, written_more}}
use Rattle.replay.proofs.snapshots.write_callers.Goals as goal

pub loop-caller-init : goal.loop-caller-init
loop-caller-init g c = ([], sym (nothing_appended (g.S.Sink.bytes c.args.out.now)), refl, refl)

pub write_caller-requires-clause-some : goal.write_caller-requires-clause-some
write_caller-requires-clause-some g c κs within = c.requires.some (omega (arith, c.loop-caller-test.true))

pub write_caller-requires-clause-few_calls : goal.write_caller-requires-clause-few_calls
write_caller-requires-clause-few_calls g c κs within =
    let last = c.requires.last in
    let run = c.args.run.now in
    let ends = caller_ends run c.loop-caller.caller c.args.all.now c.index-all-caller.result c.loop-caller-test.true c.index-all-caller.is last.0 last.1 last.3 in
    let count = length_kept run last.0 last.1 c.loop-caller.caller c.index-all-caller.result ends in
    subst (λ (kept : List KeptSnapshot). length kept ≤ 65) (sym c.as_slice.ensures) (omega (arith, count, last.2))

pub write_caller-requires-clause-taken : goal.write_caller-requires-clause-taken
write_caller-requires-clause-taken g c κs within =
    let last = c.requires.last in
    let run = c.args.run.now in
    let ends = caller_ends run c.loop-caller.caller c.args.all.now c.index-all-caller.result c.loop-caller-test.true c.index-all-caller.is last.0 last.1 last.3 in
    subst (AreTaken run c.loop-caller.caller 0) (sym c.as_slice.ensures) ends.taken

pub write_caller-requires-clause-reached : goal.write_caller-requires-clause-reached
write_caller-requires-clause-reached g c κs within =
    let last = c.requires.last in
    let run = c.args.run.now in
    let ends = caller_ends run c.loop-caller.caller c.args.all.now c.index-all-caller.result c.loop-caller-test.true c.index-all-caller.is last.0 last.1 last.3 in
    subst (AllByRecursion (λ (k : KeptSnapshot). IsReached run k.taken.step)) (sym c.as_slice.ensures) ends.reached

pub returns-in_err-write_caller-clause-err : goal.returns-in_err-write_caller-clause-err
returns-in_err-write_caller-clause-err g c =
    let run = c.args.run.now in
    let i = c.loop-caller.caller in
    let all = c.args.all.now in
    let so_far = c.loop-caller.invariant in
    let piece = calls_text run i 0 c.index-all-caller.result in
    on_err c.from_residual.result
    (prefix_within (g.S.Sink.bytes c.args.out.now) (g.S.Sink.bytes c.loop-caller.out) (g.S.Sink.bytes c.write_caller.new.out) so_far.0 piece (callers_text run (i + 1) (drop (i + 1) all)) (callers_text run 0 all)
    (comes_next so_far.0 piece (callers_text run (i + 1) (drop (i + 1) all)) (callers_text run i (drop i all)) (callers_text run 0 all) so_far.2
    (caller_next run i all c.index-all-caller.result c.loop-caller-test.true c.index-all-caller.is))
    so_far.1 (subst (λ (kept : List KeptSnapshot). AppendsPrefix (g.S.Sink.bytes c.loop-caller.out) (g.S.Sink.bytes c.write_caller.new.out) (calls_text run i 0 kept)) c.as_slice.ensures c.in_err-write_caller.ensures.err))

pub returns-in_err-write_caller-clause-failed : goal.returns-in_err-write_caller-clause-failed
returns-in_err-write_caller-clause-failed g c is =
    let p = err_from_is_err_and c.from_residual.result c.from_residual.ensures.1 in
    subst (λ n. Rose n (g.S.Sink.failures c.write_caller.new.out)) c.loop-caller.invariant.3 (c.in_err-write_caller.ensures.failed (cc))

pub returns-in_err-write_caller-clause-never_falls : goal.returns-in_err-write_caller-clause-never_falls
returns-in_err-write_caller-clause-never_falls g c = omega (arith, c.loop-caller.invariant.3, c.in_err-write_caller.ensures.never_falls)

pub loop-caller-preserved : goal.loop-caller-preserved
loop-caller-preserved g c =
    let run = c.args.run.now in
    let i = c.loop-caller.caller in
    let all = c.args.all.now in
    let so_far = c.loop-caller.invariant in
    let piece = calls_text run i 0 c.index-all-caller.result in (
      so_far.0 ++ piece,
      written_more (g.S.Sink.bytes c.args.out.now) (g.S.Sink.bytes c.loop-caller.out) (g.S.Sink.bytes c.write_caller.new.out) so_far.0 piece (so_far.0 ++ piece) so_far.1
          (c.in_ok-write_caller.ensures.whole ∙ ap (λ (kept : List KeptSnapshot). append_known (g.S.Sink.bytes c.loop-caller.out) (calls_text run i 0 kept)) c.as_slice.ensures) refl,
      comes_next so_far.0 piece (callers_text run (i + 1) (drop (i + 1) all)) (callers_text run i (drop i all)) (callers_text run 0 all) so_far.2
          (caller_next run i all c.index-all-caller.result c.loop-caller-test.true c.index-all-caller.is),
      c.in_ok-write_caller.ensures.steady ∙ so_far.3,
    )

pub returns-clause-whole : goal.returns-clause-whole
returns-clause-whole g c =
    let run = c.args.run.now in
    let so_far = c.loop-caller.invariant in
    so_far.1 ∙ ap (append_known (g.S.Sink.bytes c.args.out.now))
    (sym (append-nil so_far.0) ∙ ap (λ rest. so_far.0 ++ rest) (sym (callers_end run c.loop-caller.caller c.loop-caller.caller c.args.all.now (omega (arith, c.loop-caller-test.false)))) ∙ so_far.2)

pub returns-clause-never_falls : goal.returns-clause-never_falls
returns-clause-never_falls g c = omega (arith, c.loop-caller.invariant.3)
