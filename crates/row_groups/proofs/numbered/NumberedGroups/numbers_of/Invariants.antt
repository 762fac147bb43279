use Rattle.std.specs.List.{AllZip}
use Rattle.row_groups.specs.Members.{IsNumberUnder}
use Rattle.row_groups.proofs.numbered.NumberedGroups.numbers_of.Given as goal

abbrev pub invariant-loop-key : goal.invariant-loop-key
invariant-loop-key l = AllZip (IsNumberUnder l.self) l.yielded l.numbers.items
