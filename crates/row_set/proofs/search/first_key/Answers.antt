use Rattle.std.proofs.Common.{sym, length}
use Rattle.row_set.{proofs.Counts.some_from_test, proofs.Lookups.first_found}
use Rattle.row_set.proofs.search.first_key.Goals as goal

pub returns-else-is_empty : goal.returns-else-is_empty
returns-else-is_empty c =
    sym (first_found c.args.ranges.now c.requires (some_from_test (length c.args.ranges.now) c.is_empty.result c.if-is_empty.false c.is_empty.ensures))
