use Rattle.std.proofs.Common.{arith, pos}
use Rattle.shift_data.proofs.Searches.{none_ended}
use Rattle.shift_data.proofs.search.ended_before.Goals as goal

pub returns-in-len1-up-clause-others : goal.returns-in-len1-up-clause-others
returns-in-len1-up-clause-others c = none_ended c.args.key (record { begin = 0; end = 0; delta = pos 0 }) c.args.shifts.now c.requires.apart (omega (arith, c.in-len1-up.len_at_least)) c.if-key-range.true
