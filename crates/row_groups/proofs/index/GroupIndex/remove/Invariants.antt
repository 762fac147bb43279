use Rattle.row_groups.proofs.Indexed.{AreGone}
use Rattle.row_groups.proofs.index.GroupIndex.remove.Given as goal

abbrev pub invariant-loop-key : goal.invariant-loop-key
invariant-loop-key l = AreGone l.yielded l.initial.self l.self
