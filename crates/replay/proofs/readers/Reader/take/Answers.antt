use Rattle.std.proofs.Common.{◌≡◌, ◌+◌, ◌%◌, ◌≤◌, ◌∷◌, ◌++◌, [], ◌∙◌, ap, sym, subst, arith, length, List}
use Rattle.std.specs.Prelude.{slice_index}
use Rattle.snapshot_store.{specs.Answers.IsSnapshot, specs.Looks.latest}
use Rattle.tick_model.specs.Words.{line}
use Rattle.replay.{specs.declared.readers.KeptSnapshot.KeptSnapshot, specs.Snapshots.{AreTried, HasKept, steps_of, table_number}, proofs.Keeping.{IsNext, kept_more, last_kept, snapshot_next, tried_more}}
use Rattle.replay.proofs.readers.Reader.take.Goals as goal

pub returns-clause-more : goal.returns-clause-more
returns-clause-more g c =
    let run = c.args.store.now.run in
    let before = c.args.self.now in
    let after = c.snapshot-taken.new.caller in
    let next : IsNext run ((c.args.number + c.args.call) % c.args.published) before.caller after c.snapshot-taken.result.step =
    snapshot_next run _ c.args.attempts before.caller after c.snapshot-taken.result c.snapshot-taken.ensures.snapshot c.snapshot-taken.ensures.rises in
    let kept : KeptSnapshot = record { taken = c.snapshot-taken.result; words = c.in_ok-words.words } in
    let words : kept.words ≡ line run kept.taken.step (table_number run c.args.number c.args.call) =
    c.in_ok-words.ensures ∙ c.words.ensures ∙ next.words ∙ ap (λ n. line run kept.taken.step ((c.args.number + c.args.call) % n)) c.requires.published in
    let call : c.args.call ≡ 0 + length before.kept = omega (arith, c.requires.reader.kept_are.count_is) in
    let number : (c.args.number + c.args.call) % c.args.published ≡ table_number run c.args.number (0 + length before.kept) =
    (λ i. (c.args.number + call i) % c.requires.published i) in
    record {
      own = c.snapshot-taken.ensures.own;
      kept_are = subst (HasKept run c.args.number (c.args.call + 1) (latest after.looks)) (sym c.in_ok-push.ensures.ok)
          (kept_more run c.args.number c.args.call (latest before.caller.looks) before.kept c.requires.reader.kept_are kept (latest after.looks) next.not_older next.seen words);
      tried = subst (AreTried run c.args.attempts c.args.number 0 [] after.looks) (sym c.in_ok-push.ensures.ok)
          (tried_more run c.args.attempts c.args.number 0 [] before.caller after before.kept kept c.requires.reader.tried
          (subst (λ n. IsSnapshot run n c.args.attempts before.caller after c.snapshot-taken.result) number c.snapshot-taken.ensures.snapshot));
    }

pub returns-clause-not_older : goal.returns-clause-not_older
returns-clause-not_older g c =
    let run = c.args.store.now.run in
    let before = c.args.self.now in
    let after = c.snapshot-taken.new.caller in
    let next : IsNext run ((c.args.number + c.args.call) % c.args.published) before.caller after c.snapshot-taken.result.step =
    snapshot_next run _ c.args.attempts before.caller after c.snapshot-taken.result c.snapshot-taken.ensures.snapshot c.snapshot-taken.ensures.rises in
    let kept : KeptSnapshot = record { taken = c.snapshot-taken.result; words = c.in_ok-words.words } in
    subst (λ step. latest before.caller.looks ≤ step)
    (sym (ap (λ all. slice_index (steps_of all) c.args.call) c.in_ok-push.ensures.ok ∙ last_kept run c.args.number c.args.call (latest before.caller.looks) before.kept c.requires.reader.kept_are kept)) next.not_older
