use Rattle.std.proofs.Common.{◌-◌, ◌<◌, ◌≤◌, ◌≡◌, ◌+◌, length, take}
use Rattle.chunk_list.specs.Chunked.{joined}
use Rattle.chunk_list.proofs.chunks.Chunks.find.Given as goal

abbrev pub invariant-loop-offset : goal.invariant-loop-offset
invariant-loop-offset g l = record {
  within : l.index < length l.self;
  fewer : l.index + l.offset ≤ l.position;
  position : length (joined (take l.index l.self)) + l.offset ≡ l.position;
}

abbrev pub decreases-loop-offset : goal.decreases-loop-offset
decreases-loop-offset g l = length l.self - l.index
