use Rattle.std.proofs.Common.{◌≡◌, ◌+◌, ◌%◌, ◌<◌, ◌∙◌, refl, subst, arith, rules, length, List, ℕ}
use Rattle.std.{specs.Prelude.{OnErr, OnOk}, specs.Io.KnownBytes.append_known}
use Rattle.tick_io.specs.Written.{AppendsPrefix}
use Rattle.tick_model.{specs.Evaluation.table_at, specs.States.state}
use Rattle.replay.proofs.SnapshotsTold.{number_of_node, records_told, table_told}
use Rattle.replay.proofs.snapshots.write_call.Goals as goal

pub write_snapshot-requires : goal.write_snapshot-requires
write_snapshot-requires g c =
    let run = c.args.run.now in
    let published = c.args.published.now in
    let number = (c.args.caller + c.args.call) % length published in
    let less : number < length published = omega (arith, c.requires.some) in (
      search rules,
      (
        table_at (state run c.args.kept.now.taken.step) (number_of_node run published c.requires.published c.args.caller c.args.call number refl less c.index-published-number.result),
        table_told run published c.requires.published c.args.caller c.args.call number refl less c.index-published-number.result c.requires.lawful c.args.kept.now.taken.step c.requires.reached c.as_slice.result.now
            (c.as_slice.ensures ∙ c.requires.words),
      ),
    )

pub returns-clause-whole : goal.returns-clause-whole
returns-clause-whole g c =
    let run = c.args.run.now in
    let published = c.args.published.now in
    let number = (c.args.caller + c.args.call) % length published in
    let less : number < length published = omega (arith, c.requires.some) in
    subst (λ (text : List ℕ). OnOk c.write_snapshot.result (g.S.Sink.bytes c.write_snapshot.new.sink ≡ append_known (g.S.Sink.bytes c.args.out.now) text))
    (records_told run published c.requires.published c.args.caller c.args.call number refl less c.index-published-number.result c.args.kept.now.taken.step)
    (c.write_snapshot.ensures.whole (table_at (state run c.args.kept.now.taken.step) (number_of_node run published c.requires.published c.args.caller c.args.call number refl less c.index-published-number.result))
    (table_told run published c.requires.published c.args.caller c.args.call number refl less c.index-published-number.result c.requires.lawful c.args.kept.now.taken.step c.requires.reached c.as_slice.result.now (c.as_slice.ensures ∙ c.requires.words)))

pub returns-clause-err : goal.returns-clause-err
returns-clause-err g c =
    let run = c.args.run.now in
    let published = c.args.published.now in
    let number = (c.args.caller + c.args.call) % length published in
    let less : number < length published = omega (arith, c.requires.some) in
    subst (λ (text : List ℕ). OnErr c.write_snapshot.result (AppendsPrefix (g.S.Sink.bytes c.args.out.now) (g.S.Sink.bytes c.write_snapshot.new.sink) text))
    (records_told run published c.requires.published c.args.caller c.args.call number refl less c.index-published-number.result c.args.kept.now.taken.step)
    (c.write_snapshot.ensures.err (table_at (state run c.args.kept.now.taken.step) (number_of_node run published c.requires.published c.args.caller c.args.call number refl less c.index-published-number.result))
    (table_told run published c.requires.published c.args.caller c.args.call number refl less c.index-published-number.result c.requires.lawful c.args.kept.now.taken.step c.requires.reached c.as_slice.result.now (c.as_slice.ensures ∙ c.requires.words)))
