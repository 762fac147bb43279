use Rattle.std.proofs.Common.{ltb, rules}
use Rattle.std.proofs.lemmas.List.Sorted.{IsPartitionPoint-from_clause}
use Rattle.row_set.proofs.Places.{lasts_parted, ended_part, not_ended_part}
use Rattle.shift_data.proofs.ahead.runs_before.Goals as goal

pub returns-clause-ended : goal.returns-clause-ended
returns-clause-ended c =
    ended_part c.args.key c.args.runs.now c.partition_point.result
    (IsPartitionPoint-from_clause (λ run. ltb run.last c.args.key) c.args.runs.now c.partition_point.result c.partition_point.ensures.partitioned (lasts_parted c.args.key c.args.runs.now c.requires) (λ a r f h. search rules))

pub returns-clause-others : goal.returns-clause-others
returns-clause-others c =
    not_ended_part c.args.key c.args.runs.now c.partition_point.result
    (IsPartitionPoint-from_clause (λ run. ltb run.last c.args.key) c.args.runs.now c.partition_point.result c.partition_point.ensures.partitioned (lasts_parted c.args.key c.args.runs.now c.requires) (λ a r f h. search rules))
