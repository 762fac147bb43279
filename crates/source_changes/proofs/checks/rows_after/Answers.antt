use Rattle.std.proofs.Common.{rules, ◌+◌, ◌^◌, ◌<◌, arith}
use Rattle.source_changes.proofs.RowCounts.{few_rising}
use Rattle.source_changes.proofs.checks.rows_after.Goals as goal

pub overflow_add-result : goal.overflow_add-result
overflow_add-result c =
    let few = few_rising (2 ^ 62) c.added.result.now c.len.ensures.keys.rising c.len.ensures.keys.small in
    let fits : c.args.rows + c.len.result < 2 ^ 64 = omega (arith, few, c.len.ensures.count, c.requires.small) in
    search rules
