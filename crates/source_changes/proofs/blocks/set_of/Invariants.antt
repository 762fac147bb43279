use Rattle.std.proofs.Common.{◌≡◌, take}
use Rattle.source_changes.proofs.blocks.set_of.Given as goal

abbrev pub invariant-loop-key : goal.invariant-loop-key
invariant-loop-key l = l.set ≡ take l.key-index l.keys
