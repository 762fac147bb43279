use Rattle.std.proofs.Common.{◌≡◌, length, take}
use Rattle.chunk_list.proofs.counts.Counts.truncate.Given as goal

abbrev pub invariant-loop-end : goal.invariant-loop-end
invariant-loop-end l = record {
  end_is : l.end ≡ length l.self;
  first : take l.count l.self ≡ take l.count l.fn.self;
}

abbrev pub decreases-loop-end : goal.decreases-loop-end
decreases-loop-end l = l.end
