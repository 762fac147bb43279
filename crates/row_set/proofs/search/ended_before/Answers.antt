use Rattle.std.proofs.Common.{◌<◌, ◌≤◌, arith, ltb, rules, subst, sym, take_all}
use Rattle.std.{specs.List.AllByRecursion, proofs.lemmas.List.Sorted.IsPartitionPoint-from_clause, proofs.lemmas.List.drop_all}
use Rattle.row_set.proofs.Places.{lasts_parted, ended_part, not_ended_part}
use Rattle.row_set.proofs.search.ended_before.Goals as goal

pub returns-clause-ended : goal.returns-clause-ended
returns-clause-ended c =
    ended_part c.args.key c.args.ranges.now c.partition_point.result
    (IsPartitionPoint-from_clause (λ range. ltb range.last c.args.key) c.args.ranges.now c.partition_point.result c.partition_point.ensures.partitioned (lasts_parted c.args.key c.args.ranges.now c.requires) (λ a r f h. search rules))

pub returns-clause-others : goal.returns-clause-others
returns-clause-others c =
    not_ended_part c.args.key c.args.ranges.now c.partition_point.result
    (IsPartitionPoint-from_clause (λ range. ltb range.last c.args.key) c.args.ranges.now c.partition_point.result c.partition_point.ensures.partitioned (lasts_parted c.args.key c.args.ranges.now c.requires) (λ a r f h. search rules))

pub returns-then-all_end_before-clause-ended : goal.returns-then-all_end_before-clause-ended
returns-then-all_end_before-clause-ended c = subst (λ those. AllByRecursion (λ range. range.last < c.args.key) those) (sym (take_all _ c.args.ranges.now (omega arith))) c.if-all_end_before.ensures

pub returns-then-all_end_before-clause-others : goal.returns-then-all_end_before-clause-others
returns-then-all_end_before-clause-others c = subst (λ those. AllByRecursion (λ range. c.args.key ≤ range.last) those) (sym (drop_all _ c.args.ranges.now (omega arith))) tt
