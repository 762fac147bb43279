use Rattle.std.proofs.Common.{leb, rules}
use Rattle.std.proofs.lemmas.List.Sorted.{IsPartitionPoint-from_clause}
use Rattle.row_set.{proofs.Counts.blank, proofs.Places.{all_begun, firsts_parted, begun_part, not_begun_part}}
use Rattle.row_set.proofs.search.begun_by.Goals as goal

pub returns-clause-begun : goal.returns-clause-begun
returns-clause-begun c =
    begun_part c.args.key c.args.ranges.now c.partition_point.result
    (IsPartitionPoint-from_clause (λ range. leb range.first c.args.key) c.args.ranges.now c.partition_point.result c.partition_point.ensures.partitioned (firsts_parted c.args.key c.args.ranges.now c.requires) (λ a r f h. search rules))

pub returns-clause-others : goal.returns-clause-others
returns-clause-others c =
    not_begun_part c.args.key c.args.ranges.now c.partition_point.result
    (IsPartitionPoint-from_clause (λ range. leb range.first c.args.key) c.args.ranges.now c.partition_point.result c.partition_point.ensures.partitioned (firsts_parted c.args.key c.args.ranges.now c.requires) (λ a r f h. search rules))

pub returns-then-ranges-count-clause-begun : goal.returns-then-ranges-count-clause-begun
returns-then-ranges-count-clause-begun c = all_begun c.args.key blank c.args.ranges.now c.requires c.if-count-gt0.true c.if-ranges-count.true
