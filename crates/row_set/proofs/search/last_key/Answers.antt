use Rattle.std.proofs.Common.{sym, length, ◌-◌, ◌<◌, arith}
use Rattle.row_set.{proofs.Counts.some_from_test, proofs.Lookups.last_found}
use Rattle.row_set.proofs.search.last_key.Goals as goal

pub returns-else-is_empty : goal.returns-else-is_empty
returns-else-is_empty c =
    let some : 0 < length c.args.ranges.now = some_from_test (length c.args.ranges.now) c.is_empty.result c.if-is_empty.false c.is_empty.ensures in
    sym (last_found (length c.args.ranges.now - 1) c.args.ranges.now c.requires (omega arith))
