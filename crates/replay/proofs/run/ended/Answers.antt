use Rattle.std.proofs.Common.{◌≡◌, ◌+◌, ◌^◌, ◌<◌, ◌≤◌, ◌∙◌, ap, sym, subst, arith, rules, length, List}
use Rattle.std.specs.Io.KnownBytes.{append_known}
use Rattle.tick_io.specs.Written.{AppendsPrefix}
use Rattle.snapshot_store.specs.Lines.{count}
use Rattle.tick_laws.specs.Reached.{IsReached}
use Rattle.tick_model.specs.declared.feed.Run.{Run}
use Rattle.replay.{specs.declared.readers.KeptSnapshot.KeptSnapshot, specs.Snapshots.{AreLast, AreTaking}, proofs.CallTexts.callers_text, proofs.Exits.all_written, proofs.PublishedTables.tables_few, proofs.SnapshotsAdded.{adds_none, adds_some, adds_whole, callers_call, callers_few, kept_text}}
use Rattle.replay.proofs.run.ended.Goals as goal

pub overflow_cast-published : goal.overflow_cast-published
overflow_cast-published g c =
    let small : c.len-published.result < 2 ^ 32 = omega (arith, tables_few c.args.run.now c.requires.lawful, c.len-published.ensures) in
    search rules

pub last_snapshots-requires-clause-published : goal.last_snapshots-requires-clause-published
last_snapshots-requires-clause-published g c = c.len-published.ensures ∙ ap count (sym c.requires.store)

pub last_snapshots-requires-clause-reached : goal.last_snapshots-requires-clause-reached
last_snapshots-requires-clause-reached g c = subst (λ (run : Run). IsReached run c.args.publication.writer.step) (sym c.requires.store) c.requires.last.reached

pub last_snapshots-requires-clause-some : goal.last_snapshots-requires-clause-some
last_snapshots-requires-clause-some g c = λ some.
    subst (λ n. 0 < n) (sym c.len-published.ensures) (callers_call c.args.run.now.plan.published c.args.knobs.now.callers (subst (λ n. 0 < n) c.requires.count some))

pub last_snapshots-requires-clause-few : goal.last_snapshots-requires-clause-few
last_snapshots-requires-clause-few g c =
    omega (arith, c.requires.count, callers_few c.args.run.now.plan.published c.args.knobs.now.callers, c.requires.few_callers)

pub write_snapshots-requires-clause-some : goal.write_snapshots-requires-clause-some
write_snapshots-requires-clause-some g c κs within = λ some.
    callers_call c.args.run.now.plan.published c.args.knobs.now.callers (subst (λ n. 0 < n) (ap length c.as_slice.ensures ∙ c.in-Ok.ensures.count ∙ c.requires.count) some)

pub write_snapshots-requires-clause-few : goal.write_snapshots-requires-clause-few
write_snapshots-requires-clause-few g c κs within =
    omega (arith, ap length c.as_slice.ensures, c.in-Ok.ensures.count, c.requires.count, callers_few c.args.run.now.plan.published c.args.knobs.now.callers, c.requires.few_callers)

pub write_snapshots-requires-clause-last : goal.write_snapshots-requires-clause-last
write_snapshots-requires-clause-last g c κs within = (
  c.args.knobs.now.snaps,
  c.args.publication.writer.step,
  c.requires.few_snaps,
  subst (AreLast c.args.run.now c.args.knobs.now.snaps c.args.publication.writer.step 0) (sym c.as_slice.ensures)
      (subst (λ (run : Run). AreLast run c.args.knobs.now.snaps c.args.publication.writer.step 0 c.in-Ok.all) c.requires.store c.in-Ok.ensures.last),
)

pub returns-in-Err-clause-prefix : goal.returns-in-Err-clause-prefix
returns-in-Err-clause-prefix g c = adds_none c.args.run.now c.args.knobs.now c.args.publication.writer.step (g.S.Sink.bytes c.args.out.now)

pub returns-in-Err-clause-tried : goal.returns-in-Err-clause-tried
returns-in-Err-clause-tried g c = subst (AreTaking c.args.knobs.now.attempts) (sym c.new.ensures) tt

pub returns-in-Ok-write_snapshots-clause-whole : goal.returns-in-Ok-write_snapshots-clause-whole
returns-in-Ok-write_snapshots-clause-whole g c = λ told.
    adds_whole c.args.run.now c.args.knobs.now c.args.publication.writer.step c.in-Ok.all (c.in-Ok.ensures.count ∙ c.requires.count)
    (subst (λ (run : Run). AreLast run c.args.knobs.now.snaps c.args.publication.writer.step 0 c.in-Ok.all) c.requires.store c.in-Ok.ensures.last)
    (g.S.Sink.bytes c.args.out.now) (g.S.Sink.bytes c.write_snapshots.new.out)
    (c.in-Ok-write_snapshots.ensures.whole ∙ ap (λ (all : List (List KeptSnapshot)). append_known (g.S.Sink.bytes c.args.out.now) (callers_text c.args.run.now 0 all)) c.as_slice.ensures)

pub returns-in-Ok-write_snapshots-clause-kept : goal.returns-in-Ok-write_snapshots-clause-kept
returns-in-Ok-write_snapshots-clause-kept g c = λ told.
    c.in-Ok-write_snapshots.ensures.whole
    ∙ ap (λ (all : List (List KeptSnapshot)). append_known (g.S.Sink.bytes c.args.out.now) (callers_text c.args.run.now 0 all)) c.as_slice.ensures
    ∙ ap (append_known (g.S.Sink.bytes c.args.out.now)) (kept_text c.args.run.now c.args.knobs.now.callers c.in-Ok.all (c.in-Ok.ensures.count ∙ c.requires.count))

pub returns-in-Ok-write_snapshots-clause-prefix : goal.returns-in-Ok-write_snapshots-clause-prefix
returns-in-Ok-write_snapshots-clause-prefix g c =
    adds_some c.args.run.now c.args.knobs.now c.args.publication.writer.step c.in-Ok.all (c.in-Ok.ensures.count ∙ c.requires.count)
    (subst (λ (run : Run). AreLast run c.args.knobs.now.snaps c.args.publication.writer.step 0 c.in-Ok.all) c.requires.store c.in-Ok.ensures.last)
    (g.S.Sink.bytes c.args.out.now) (g.S.Sink.bytes c.write_snapshots.new.out)
    (all_written (g.S.Sink.bytes c.args.out.now) (g.S.Sink.bytes c.write_snapshots.new.out) (callers_text c.args.run.now 0 c.in-Ok.all)
    (c.in-Ok-write_snapshots.ensures.whole ∙ ap (λ (all : List (List KeptSnapshot)). append_known (g.S.Sink.bytes c.args.out.now) (callers_text c.args.run.now 0 all)) c.as_slice.ensures))

pub returns-in-Err-write_snapshots-clause-prefix : goal.returns-in-Err-write_snapshots-clause-prefix
returns-in-Err-write_snapshots-clause-prefix g c =
    adds_some c.args.run.now c.args.knobs.now c.args.publication.writer.step c.in-Ok.all (c.in-Ok.ensures.count ∙ c.requires.count)
    (subst (λ (run : Run). AreLast run c.args.knobs.now.snaps c.args.publication.writer.step 0 c.in-Ok.all) c.requires.store c.in-Ok.ensures.last)
    (g.S.Sink.bytes c.args.out.now) (g.S.Sink.bytes c.write_snapshots.new.out)
    (subst (λ (all : List (List KeptSnapshot)). AppendsPrefix (g.S.Sink.bytes c.args.out.now) (g.S.Sink.bytes c.write_snapshots.new.out) (callers_text c.args.run.now 0 all)) c.as_slice.ensures c.in-Err-write_snapshots.ensures.err)
