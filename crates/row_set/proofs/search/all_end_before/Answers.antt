use Rattle.std.proofs.Common.{length}
use Rattle.row_set.{proofs.Behind.ends_test, proofs.Counts.some_from_test}
use Rattle.row_set.proofs.search.all_end_before.Goals as goal

pub returns-else-is_empty : goal.returns-else-is_empty
returns-else-is_empty c =
    ends_test c.args.key c.args.ranges.now c.requires (some_from_test (length c.args.ranges.now) c.is_empty.result c.if-is_empty.false c.is_empty.ensures)
