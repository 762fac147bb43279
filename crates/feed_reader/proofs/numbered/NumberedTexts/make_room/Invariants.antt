use Rattle.std.proofs.Common.{◌≡◌}
use Rattle.feed_reader.proofs.numbered.NumberedTexts.make_room.Given as goal

abbrev pub invariant-loop-number : goal.invariant-loop-number
invariant-loop-number l = l.self ≡ l.fn.self
