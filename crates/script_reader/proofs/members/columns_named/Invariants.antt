use Rattle.std.proofs.Common.{◌≡◌, take, Ok}
use Rattle.script_reader.specs.Checks.{each, column_named}
use Rattle.script_reader.proofs.members.columns_named.Given as goal

abbrev pub invariant-loop-name : goal.invariant-loop-name
invariant-loop-name l = each (column_named l.columns) (take l.name-index l.names) ≡ Ok l.places
