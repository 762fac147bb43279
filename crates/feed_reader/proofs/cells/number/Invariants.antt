use Rattle.std.proofs.Common.{◌≡◌, true, take}
use Rattle.std.{specs.Str.all_ascii_digits, specs.Str.Parse.digits_value}
use Rattle.feed_reader.proofs.cells.number.Given as goal

abbrev pub invariant-loop-digit : goal.invariant-loop-digit
invariant-loop-digit l = (all_ascii_digits (take l.digit-index l.digits) ≡ true) × (l.number ≡ digits_value 10 (take l.digit-index l.digits))
