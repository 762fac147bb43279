use Rattle.std.proofs.Common.{map, sym, ap, ◌∙◌}
use Rattle.std.{proofs.lemmas.Iterator.Adapters.YieldsList-from_vec, proofs.lemmas.Iterator.Consumers.YieldsList-end, proofs.lemmas.List.map-id}
use Rattle.key_lists.proofs.Every.{map_map}
use Rattle.tick_model.specs.declared.feed.Batch.{Batch}
use Rattle.feed_reader.{specs.declared.raw.RawFeed.RawFeed, specs.Coding.coded_batch, specs.Raw.raw_batch}
use Rattle.feed_reader.proofs.coding.coded_feed.Goals as goal

pub returns : goal.returns
returns c =
    let inside = c.feed.inside.0.0 in
    let raw = raw_batch inside.texts inside.kinds in
    let code : Batch → Batch = λ batch. coded_batch c.args.ranks.now (raw batch) in
    let batches = c.into_vec-batches.result in
    let gives = c.into_iter-batch-iterator.ensures.into_iter_gives in
    let end = YieldsList-end (YieldsList-from_vec {s = c.into_iter-batch-iterator.result} batches.items gives.0 (gives.1 ∙ batches.ok.0))
    c.loop-batch.yielded c.loop-batch.batch-iterator c.loop-batch.yielded_by c.next.result c.next.new.self c.in-None.is c.next.ensures.steps in
    c.of.ensures
    ∙ c.loop-batch.invariant
    ∙ ap (map code) (sym (map-id c.loop-batch.yielded) ∙ end.0 ∙ c.into_vec-batches.ensures)
    ∙ sym (map_map (coded_batch c.args.ranks.now) raw inside.batches)
    ∙ ap (λ (feed : RawFeed). map (coded_batch c.args.ranks.now) feed.batches) c.feed.view_is
