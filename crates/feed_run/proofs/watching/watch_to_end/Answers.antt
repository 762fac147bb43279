use Rattle.std.proofs.Common.{refl, sym, ap, subst, Err}
use Rattle.tick_model.{specs.Spoiled.{ByBatch, ByNode, ByPublication}, specs.Texts.done_record}
use Rattle.replay.specs.Outcomes.{IsTold}
use Rattle.feed_run.{specs.Verdicts.{WatchDone, WatchSpoiled}, specs.Wholes.{cause_record, publication_record}, proofs.WatchEnds.{feed_ends, node_ends, publish_ends, watch_done, watch_failed, watch_recorded, watch_short}}
use Rattle.feed_run.proofs.watching.watch_to_end.Goals as goal

pub returns-in-Ok-clause-ends : goal.returns-in-Ok-clause-ends
returns-in-Ok-clause-ends g c =
    let run = c.args.run.now in
    let watch = c.args.watch.now in
    watch_recorded g.S.Sink.bytes g.S.Sink.failures run watch c.args.out.now c.watch_feed.new.out c.report.new.out c.report.new.out c.report.result c.report.result
    (WatchDone run watch c.in-Ok.step) (done_record c.in-Ok.step) (watch_done run watch c.in-Ok.step c.in-Ok.ensures.unspoiled c.in-Ok.ensures.done)
    c.in-Ok.ensures.ok c.watch_feed.ensures.never_falls (c.report.ensures.ends (done_record c.in-Ok.step) c.done_record.ensures) refl refl

pub returns-in-Feed-clause-ends : goal.returns-in-Feed-clause-ends
returns-in-Feed-clause-ends g c =
    let run = c.args.run.now in
    let watch = c.args.watch.now in
    let cause = ByBatch c.in-Feed.number c.in-Feed.fault in
    watch_recorded g.S.Sink.bytes g.S.Sink.failures run watch c.args.out.now c.watch_feed.new.out c.report-in-Feed.new.out c.report-in-Feed.new.out c.report-in-Feed.result c.report-in-Feed.result
    (WatchSpoiled run watch c.in-Feed.step cause) (cause_record run c.in-Feed.step cause) (feed_ends run watch c.in-Err.outcome c.in-Err.ensures.end c.in-Feed.step c.in-Feed.number c.in-Feed.fault c.in-Feed.is)
    (c.in-Err.ensures.told (subst IsTold (sym c.in-Feed.is) tt)) c.watch_feed.ensures.never_falls (c.report-in-Feed.ensures.ends (cause_record run c.in-Feed.step cause) c.batch_record.ensures) refl refl

pub returns-in-Node-clause-ends : goal.returns-in-Node-clause-ends
returns-in-Node-clause-ends g c =
    let run = c.args.run.now in
    let watch = c.args.watch.now in
    let cause = ByNode c.in-Node.node c.in-Node.kind in
    watch_recorded g.S.Sink.bytes g.S.Sink.failures run watch c.args.out.now c.watch_feed.new.out c.report-in-Node.new.out c.report-in-Node.new.out c.report-in-Node.result c.report-in-Node.result
    (WatchSpoiled run watch c.in-Node.step cause) (cause_record run c.in-Node.step cause) (node_ends run watch c.in-Err.outcome c.in-Err.ensures.end c.in-Node.step c.in-Node.node c.in-Node.kind c.in-Node.is)
    (c.in-Err.ensures.told (subst IsTold (sym c.in-Node.is) tt)) c.watch_feed.ensures.never_falls (c.report-in-Node.ensures.ends (cause_record run c.in-Node.step cause) c.node_record.ensures) refl refl

pub returns-in-Publish-clause-ends : goal.returns-in-Publish-clause-ends
returns-in-Publish-clause-ends g c =
    let run = c.args.run.now in
    let watch = c.args.watch.now in
    let fields = publication_record run c.in-Publish.step c.in-Publish.number c.in-Publish.rows c.in-Publish.limit in
    watch_recorded g.S.Sink.bytes g.S.Sink.failures run watch c.args.out.now c.watch_feed.new.out c.report-in-Publish.new.out c.report-in-Publish.new.out c.report-in-Publish.result c.report-in-Publish.result
    (WatchSpoiled run watch c.in-Publish.step (ByPublication c.in-Publish.number c.in-Publish.rows)) fields (publish_ends run watch c.in-Err.outcome c.in-Err.ensures.end c.in-Publish.step c.in-Publish.number c.in-Publish.rows c.in-Publish.limit c.in-Publish.is)
    (c.in-Err.ensures.told (subst IsTold (sym c.in-Publish.is) tt)) c.watch_feed.ensures.never_falls (c.report-in-Publish.ensures.ends fields c.publication_record.ensures) refl refl

pub returns-in-Memory-clause-ends : goal.returns-in-Memory-clause-ends
returns-in-Memory-clause-ends g c =
    watch_short g.S.Sink.bytes g.S.Sink.failures c.args.run.now c.args.watch.now c.args.out.now c.watch_feed.new.out c.watch_feed.new.out c.watch_feed.new.out 1 1 refl refl c.in-Err.ensures.prefix

pub returns-in-Write-clause-ends : goal.returns-in-Write-clause-ends
returns-in-Write-clause-ends g c =
    watch_failed g.S.Sink.bytes g.S.Sink.failures c.args.run.now c.args.watch.now c.args.out.now c.watch_feed.new.out c.watch_feed.new.out c.watch_feed.new.out 10 10 refl refl (c.in-Err.ensures.failed (ap Err c.in-Write.is)) c.in-Err.ensures.prefix
