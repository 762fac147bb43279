use Rattle.std.proofs.Common.{ltb, rules}
use Rattle.std.proofs.lemmas.List.Sorted.{IsPartitionPoint-from_clause}
use Rattle.shift_data.proofs.Searches.{ends_parted, ended_part, other_part}
use Rattle.shift_data.proofs.search.count_ended.Goals as goal

pub returns-clause-ended : goal.returns-clause-ended
returns-clause-ended c =
    ended_part c.args.key c.args.shifts.now c.partition_point.result
    (IsPartitionPoint-from_clause (λ range. ltb range.end c.args.key) c.args.shifts.now c.partition_point.result c.partition_point.ensures.partitioned (ends_parted c.args.key c.args.shifts.now c.requires.apart) (λ a r f h. search rules))

pub returns-clause-others : goal.returns-clause-others
returns-clause-others c =
    other_part c.args.key c.args.shifts.now c.partition_point.result
    (IsPartitionPoint-from_clause (λ range. ltb range.end c.args.key) c.args.shifts.now c.partition_point.result c.partition_point.ensures.partitioned (ends_parted c.args.key c.args.shifts.now c.requires.apart) (λ a r f h. search rules))
