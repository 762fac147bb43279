use Rattle.std.proofs.Common.{◌≡◌, ℕ, List, map}
use Rattle.tick_model.specs.declared.feed.Block.{Block}
use Rattle.feed_reader.{specs.Coding.{coded_block, ranks_among}, specs.Raw.raw_block}
use Rattle.feed_reader.proofs.coding.coded_batch.Given as goal

abbrev pub invariant-loop-block : goal.invariant-loop-block
invariant-loop-block l = (texts own : List (List ℕ)) → l.ranks ≡ ranks_among texts own → l.coded.items ≡ map (λ (block : Block). coded_block texts (raw_block own l.kinds block)) l.yielded
