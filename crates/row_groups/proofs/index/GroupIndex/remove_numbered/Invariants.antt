use Rattle.std.proofs.Common.{◌≡◌, length}
use Rattle.row_groups.proofs.Indexed.{AreGone}
use Rattle.row_groups.proofs.index.GroupIndex.remove_numbered.Given as goal

abbrev pub invariant-loop-key : goal.invariant-loop-key
invariant-loop-key l = record {
  gone : AreGone l.yielded l.initial.self l.self;
  position : l.position ≡ length l.yielded;
}
