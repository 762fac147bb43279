use Rattle.std.proofs.Common.{◌≡◌, map}
use Rattle.tick_model.specs.declared.feed.Batch.{Batch}
use Rattle.feed_reader.{specs.Coding.coded_batch, specs.Raw.raw_batch}
use Rattle.feed_reader.proofs.coding.coded_feed.Given as goal

abbrev pub invariant-loop-batch : goal.invariant-loop-batch
invariant-loop-batch l = l.coded.items ≡ map (λ (batch : Batch). coded_batch l.ranks (raw_batch l.texts l.kinds batch)) l.yielded
