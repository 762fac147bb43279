use Rattle.std.proofs.Common.{List, map, sym, ap, ◌∙◌}
use Rattle.std.{proofs.lemmas.Iterator.Adapters.YieldsList-from_vec, proofs.lemmas.Iterator.Consumers.YieldsList-end, proofs.lemmas.List.map-id}
use Rattle.key_lists.proofs.Every.{map_map}
use Rattle.tick_model.{specs.declared.feed.Batch.Batch, specs.declared.feed.Block.Block}
use Rattle.feed_reader.{specs.Coding.coded_block, specs.Raw.raw_block}
use Rattle.feed_reader.proofs.coding.coded_batch.Goals as goal

pub returns : goal.returns
returns c = λ texts own is.
    let code : Block → Block = λ block. coded_block texts (raw_block own c.args.kinds.now block) in
    let blocks = c.into_vec-blocks.result in
    let gives = c.into_iter-block-iterator.ensures.into_iter_gives in
    let end = YieldsList-end (YieldsList-from_vec {s = c.into_iter-block-iterator.result} blocks.items gives.0 (gives.1 ∙ blocks.ok.0))
    c.loop-block.yielded c.loop-block.block-iterator c.loop-block.yielded_by c.next.result c.next.new.self c.in-None.is c.next.ensures.steps in
    ap (λ (blocks : List Block). let it : Batch = record { blocks = blocks } in it)
    (c.of.ensures
    ∙ c.loop-block.invariant texts own is
    ∙ ap (map code) (sym (map-id c.loop-block.yielded) ∙ end.0 ∙ c.into_vec-blocks.ensures)
    ∙ sym (map_map (coded_block texts) (raw_block own c.args.kinds.now) c.args.batch.blocks))
