use Rattle.std.proofs.Common.{sym, subst}
use Rattle.tick_model.{specs.Spoiled.{ByBatch, ByNode, ByPublication}, specs.Texts.done_record}
use Rattle.replay.specs.Outcomes.{IsTold}
use Rattle.feed_run.{specs.Verdicts.{Kept, Spoiled, Done}, specs.Wholes.{cause_record, kept_record, publication_record}, proofs.EndLemmas.{ends_recorded, ends_short, ends_failed}, proofs.OutcomeLemmas.{done_tells, kept_tells, feed_tells, node_tells, publish_tells}, proofs.run.run_to_end.Goals.{in-Done, in-Kept, in-Feed, in-Node, in-Publish, in-Memory, in-Write}}
use Rattle.feed_run.proofs.run.run_to_end.Goals as goal

pub returns-clause-ends : goal.returns-clause-ends
returns-clause-ends g c =
    let bytes = g.S.Sink.bytes in
    let failures = g.S.Sink.failures in
    let run = c.args.run.now in
    let knobs = c.args.knobs.now in
    let outcome = c.run_feed.result in
    let told = c.run_feed.ensures.verdict in
    elim c.match-run_feed.branch [
      | in-Done w ↦
          ends_recorded bytes failures run knobs c.args.out.now c.run_feed.new.out w.report.new.out c.match-run_feed.out w.report.result c.match-run_feed.result
          (Done run knobs w.in-Done.step) (done_record w.in-Done.step) (done_tells run knobs outcome told w.in-Done.step _ _ w.in-Done.is)
          (c.run_feed.ensures.whole (subst IsTold (sym w.in-Done.is) tt)) c.run_feed.ensures.never_falls (w.report.ensures.ends (done_record w.in-Done.step) w.done_record.ensures) w.out-is w.result-is
      | in-Kept w ↦
          ends_recorded bytes failures run knobs c.args.out.now c.run_feed.new.out w.report-in-Kept.new.out c.match-run_feed.out w.report-in-Kept.result c.match-run_feed.result
          (Kept w.in-Kept.words) (kept_record w.in-Kept.words) (kept_tells run knobs outcome told w.in-Kept.words w.in-Kept.is)
          (c.run_feed.ensures.whole (subst IsTold (sym w.in-Kept.is) tt)) c.run_feed.ensures.never_falls (w.report-in-Kept.ensures.ends (kept_record w.in-Kept.words) w.kept_record.ensures) w.out-is w.result-is
      | in-Feed w ↦
          let cause = ByBatch w.in-Feed.number w.in-Feed.fault in
          ends_recorded bytes failures run knobs c.args.out.now c.run_feed.new.out w.report-in-Feed.new.out c.match-run_feed.out w.report-in-Feed.result c.match-run_feed.result
          (Spoiled run knobs w.in-Feed.step cause) (cause_record run w.in-Feed.step cause) (feed_tells run knobs outcome told w.in-Feed.step w.in-Feed.number w.in-Feed.fault w.in-Feed.is)
          (c.run_feed.ensures.whole (subst IsTold (sym w.in-Feed.is) tt)) c.run_feed.ensures.never_falls (w.report-in-Feed.ensures.ends (cause_record run w.in-Feed.step cause) w.batch_record.ensures) w.out-is w.result-is
      | in-Node w ↦
          let cause = ByNode w.in-Node.node w.in-Node.kind in
          ends_recorded bytes failures run knobs c.args.out.now c.run_feed.new.out w.report-in-Node.new.out c.match-run_feed.out w.report-in-Node.result c.match-run_feed.result
          (Spoiled run knobs w.in-Node.step cause) (cause_record run w.in-Node.step cause) (node_tells run knobs outcome told w.in-Node.step w.in-Node.node w.in-Node.kind w.in-Node.is)
          (c.run_feed.ensures.whole (subst IsTold (sym w.in-Node.is) tt)) c.run_feed.ensures.never_falls (w.report-in-Node.ensures.ends (cause_record run w.in-Node.step cause) w.node_record.ensures) w.out-is w.result-is
      | in-Publish w ↦
          let fields = publication_record run w.in-Publish.step w.in-Publish.number w.in-Publish.rows w.in-Publish.limit in
          ends_recorded bytes failures run knobs c.args.out.now c.run_feed.new.out w.report-in-Publish.new.out c.match-run_feed.out w.report-in-Publish.result c.match-run_feed.result
          (Spoiled run knobs w.in-Publish.step (ByPublication w.in-Publish.number w.in-Publish.rows)) fields (publish_tells run knobs outcome told w.in-Publish.step w.in-Publish.number w.in-Publish.rows w.in-Publish.limit w.in-Publish.is)
          (c.run_feed.ensures.whole (subst IsTold (sym w.in-Publish.is) tt)) c.run_feed.ensures.never_falls (w.report-in-Publish.ensures.ends fields w.publication_record.ensures) w.out-is w.result-is
      | in-Memory w ↦ ends_short bytes failures run knobs c.args.out.now c.run_feed.new.out c.run_feed.new.out c.match-run_feed.out 1 c.match-run_feed.result w.out-is w.result-is c.run_feed.ensures.prefix
      | in-Write w ↦ ends_failed bytes failures run knobs c.args.out.now c.run_feed.new.out c.run_feed.new.out c.match-run_feed.out 10 c.match-run_feed.result w.out-is w.result-is (c.run_feed.ensures.failed w.in-Write.is) c.run_feed.ensures.prefix
    ]
