use Rattle.std.proofs.Common.{◌≡◌, take, Ok}
use Rattle.script_reader.specs.Checks.{each, sort_of}
use Rattle.script_reader.proofs.members.sorts_of.Given as goal

abbrev pub invariant-loop-sort : goal.invariant-loop-sort
invariant-loop-sort l = each (sort_of l.columns) (take l.sort-index l.by) ≡ Ok l.sorts
