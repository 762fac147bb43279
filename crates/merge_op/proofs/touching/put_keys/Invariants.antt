use Rattle.std.proofs.Common.{◌++◌, drop}
use Rattle.merge_op.proofs.Keyed.{IsPut, plus}
use Rattle.merge_op.proofs.touching.put_keys.Given as goal

abbrev pub invariant-loop-range : goal.invariant-loop-range
invariant-loop-range l = IsPut l.offset (drop l.range-index l.range-items) (l.fn.all ++ plus l.offset l.more) l.all
