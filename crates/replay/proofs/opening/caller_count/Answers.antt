use Rattle.std.proofs.Common.{◌≡◌, ◌<◌, length, rules}
use Rattle.replay.proofs.SnapshotsAdded.{callers_all, callers_none}
use Rattle.replay.proofs.opening.caller_count.Goals as goal

pub returns-then-is_empty : goal.returns-then-is_empty
returns-then-is_empty c =
    let none : length c.args.published.now ≡ 0 = search rules in
    callers_none c.args.published.now c.args.callers none

pub returns-else-is_empty : goal.returns-else-is_empty
returns-else-is_empty c =
    let some : 0 < length c.args.published.now = search rules in
    callers_all c.args.published.now c.args.callers some
