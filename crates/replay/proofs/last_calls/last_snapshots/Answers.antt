use Rattle.std.proofs.Common.{◌≡◌, ◌+◌, ◌≤◌, ◌∙◌, refl, ap, sym, arith, subst, length, map, get_or, List}
use Rattle.std.specs.List.{All}
use Rattle.snapshot_store.{specs.Looks.latest, specs.Models.{CallerModel, WriterModel}}
use Rattle.replay.{specs.declared.readers.Reader.Reader, specs.Snapshots.{AreLast, AreTaking, HasEnded}, proofs.KeptInEnd.{all_end, all_taking, callers_owned, written_back}}
use Rattle.replay.proofs.last_calls.last_snapshots.Goals as goal

pub end-ended-requires-clause-callers : goal.end-ended-requires-clause-callers
end-ended-requires-clause-callers g c =
    let old = c.args.publication.readers in
    let readers = c.call_all.new.readers in
    let long : length readers ≡ length old.items = omega (arith, ap length c.as_mut_slice.ensures.value, c.call_all.auto.readers) in
    callers_owned c.args.publication.store c.args.knobs.now.attempts c.args.knobs.now.snaps c.args.publication.writer.step readers c.in_ok-call_all.ensures.ended c.in_ok-callers.callers
    (c.in_ok-callers.ensures.callers ∙ ap (map (λ (reader : Reader). reader.caller)) (written_back old.len readers old.items long old.ok.0))

pub returns-clause-last : goal.returns-clause-last
returns-clause-last g c =
    let store = c.args.publication.store in
    let snaps = c.args.knobs.now.snaps in
    let step = c.args.publication.writer.step in
    let old = c.args.publication.readers in
    let readers = c.call_all.new.readers in
    let long : length readers ≡ length old.items = omega (arith, ap length c.as_mut_slice.ensures.value, c.call_all.auto.readers) in
    let back = written_back old.len readers old.items long old.ok.0 in
    let same : c.call_all.new.writer.step ≡ step = ap (λ (w : WriterModel). w.step) c.call_all.ensures.same in
    subst (AreLast store.run snaps step 0) (sym (c.in_ok-callers.ensures.kept ∙ ap (map (λ (reader : Reader). reader.kept)) back))
    (all_end store.run snaps step c.requires.reached store c.args.knobs.now.attempts step refl (omega arith) 0 readers
    (λ i d less. let e : i ≡ 0 + i = omega arith in subst (λ n. HasEnded store c.args.knobs.now.attempts n snaps step (get_or readers i d)) e (c.in_ok-call_all.ensures.ended i d less))
    (subst (All (λ (caller : CallerModel). latest caller.looks ≤ step)) (c.in_ok-callers.ensures.callers ∙ ap (map (λ (reader : Reader). reader.caller)) back)
    (λ k d less. omega (arith, c.end-ended.ensures.callers k d less, c.end-ended.ensures.step, same))))

pub returns-clause-tried : goal.returns-clause-tried
returns-clause-tried g c =
    let old = c.args.publication.readers in
    let readers = c.call_all.new.readers in
    let long : length readers ≡ length old.items = omega (arith, ap length c.as_mut_slice.ensures.value, c.call_all.auto.readers) in
    subst (AreTaking c.args.knobs.now.attempts)
    (sym (c.in_ok-callers.ensures.kept ∙ ap (map (λ (reader : Reader). reader.kept)) (written_back old.len readers old.items long old.ok.0)))
    (all_taking c.args.publication.store c.args.knobs.now.attempts c.args.knobs.now.snaps c.args.publication.writer.step readers c.in_ok-call_all.ensures.ended)
