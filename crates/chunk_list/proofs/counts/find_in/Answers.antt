use Rattle.std.proofs.Common.{arith}
use Rattle.chunk_list.proofs.Sums.{next_index, next_sum, next_within, some_summed}
use Rattle.chunk_list.proofs.counts.find_in.Goals as goal

pub loop-index-init : goal.loop-index-init
loop-index-init c = record {
  index = some_summed c.args.numbers.now c.args.position c.requires;
  within = c.requires;
  position = omega arith;
}

pub loop-index-preserved : goal.loop-index-preserved
loop-index-preserved c = record {
  index = next_index c.args.numbers.now c.loop-index.index c.loop-index.rest c.loop-index.invariant.index c.loop-index.invariant.within (omega arith);
  within = next_within c.args.numbers.now c.loop-index.index c.loop-index.rest c.loop-index.invariant.index c.loop-index.invariant.within (omega arith);
  position = next_sum c.args.numbers.now c.loop-index.index c.loop-index.rest c.args.position c.loop-index.invariant.index (omega arith) c.loop-index.invariant.position;
}
