use Rattle.row_set.proofs.Merged.{first_ended, rest_ahead, rest_same}
use Rattle.row_set.proofs.algebra.rest_from.Goals as goal

pub returns-in-len2-up-clause-same : goal.returns-in-len2-up-clause-same
returns-in-len2-up-clause-same c = λ key le. rest_same key c.args.end 1 c.args.ranges.now (first_ended c.args.end c.args.ranges.now c.if-end-range.false) le

pub returns-in_default-clause-ahead : goal.returns-in_default-clause-ahead
returns-in_default-clause-ahead c = rest_ahead c.args.end c.ended_before.result c.args.ranges.now c.requires c.ended_before.ensures.others

pub returns-in_default-clause-same : goal.returns-in_default-clause-same
returns-in_default-clause-same c = λ key le. rest_same key c.args.end c.ended_before.result c.args.ranges.now c.ended_before.ensures.ended le
