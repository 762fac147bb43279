use Rattle.std.proofs.Common.{◌∙◌}
use Rattle.feed_reader.proofs.NumberLemmas.{signed_none, signed_plain}
use Rattle.feed_reader.proofs.cells.signed_number.Goals as goal

pub returns-in_default : goal.returns-in_default
returns-in_default c = signed_none c.args.limit c.args.text.now c.in_default.ensures.cases

pub returns-then-first-ne45 : goal.returns-then-first-ne45
returns-then-first-ne45 c = c.natural.ensures ∙ signed_plain c.args.limit c.in-Some.first.now c.args.text.now c.in-Some.digits.now c.in-Some.ensures.cases.0 c.if-first-ne45.true
