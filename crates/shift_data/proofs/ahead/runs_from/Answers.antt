use Rattle.row_set.proofs.Merged.{first_ended, rest_ahead, rest_same}
use Rattle.shift_data.proofs.ahead.runs_from.Goals as goal

pub returns-in-len2-up-clause-same : goal.returns-in-len2-up-clause-same
returns-in-len2-up-clause-same c = λ other le. rest_same other c.args.key 1 c.args.runs.now (first_ended c.args.key c.args.runs.now c.if-key-run.false) le

pub returns-in_default-clause-ahead : goal.returns-in_default-clause-ahead
returns-in_default-clause-ahead c = rest_ahead c.args.key c.runs_before.result c.args.runs.now c.requires c.runs_before.ensures.others

pub returns-in_default-clause-same : goal.returns-in_default-clause-same
returns-in_default-clause-same c = λ other le. rest_same other c.args.key c.runs_before.result c.args.runs.now c.runs_before.ensures.ended le
