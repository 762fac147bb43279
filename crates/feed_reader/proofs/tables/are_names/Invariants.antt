use Rattle.std.proofs.Common.{◌≡◌, drop}
use Rattle.feed_reader.{specs.Records.at_hand, specs.Tables.{same_names, names_of}}
use Rattle.feed_reader.proofs.tables.are_names.Given as goal

abbrev pub invariant-loop-place : goal.invariant-loop-place
invariant-loop-place l = same_names (drop l.place (at_hand l.fields)) (names_of (drop l.place l.columns)) ≡ same_names (at_hand l.fields) (names_of l.columns)
