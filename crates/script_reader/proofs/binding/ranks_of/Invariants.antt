use Rattle.std.proofs.Common.{◌≡◌, take}
use Rattle.script_reader.specs.Binding.{ranks_of}
use Rattle.script_reader.proofs.binding.ranks_of.Given as goal

abbrev pub invariant-loop-literal : goal.invariant-loop-literal
invariant-loop-literal l = l.ranks.items ≡ ranks_of l.texts (take l.literal-index l.literals)
