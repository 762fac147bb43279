use Rattle.std.proofs.Common.{◌≡◌}
use Rattle.feed_reader.proofs.numbered.NumberedTexts.find.Given as goal

abbrev pub invariant-loop : goal.invariant-loop
invariant-loop l = l.self-inside.texts.items ≡ l.fn.self
