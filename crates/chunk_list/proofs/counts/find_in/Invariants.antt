use Rattle.std.proofs.Common.{◌≡◌, ◌+◌, ◌-◌, ◌<◌, length, take, drop, sum}
use Rattle.chunk_list.proofs.counts.find_in.Given as goal

abbrev pub invariant-loop-index : goal.invariant-loop-index
invariant-loop-index l = record {
  index : l.index < length l.numbers;
  within : l.rest < sum (drop l.index l.numbers);
  position : sum (take l.index l.numbers) + l.rest ≡ l.position;
}

abbrev pub decreases-loop-index : goal.decreases-loop-index
decreases-loop-index l = length l.numbers - l.index
