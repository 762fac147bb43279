use Rattle.std.proofs.Common.{arith}
use Rattle.row_set.{proofs.Counts.blank, proofs.Places.later_end}
use Rattle.row_set.proofs.search.few_ended_before.Goals as goal

pub returns-in-len1-up-clause-others : goal.returns-in-len1-up-clause-others
returns-in-len1-up-clause-others c = later_end c.args.key 0 blank c.args.ranges.now c.requires (omega (arith, c.in-len1-up.len_at_least)) c.if-key-range.true

pub returns-in-len2-up-clause-others : goal.returns-in-len2-up-clause-others
returns-in-len2-up-clause-others c = later_end c.args.key 1 blank c.args.ranges.now c.requires (omega (arith, c.in-len2-up.len_at_least)) c.if-key-range-2.true
