use Rattle.std.proofs.Common.{◌≡◌, ap, sym, ◌∙◌, rules, arith, get_or, inl, inr, ltb}
use Rattle.std.{proofs.lemmas.Bool.cases_lt, proofs.lemmas.List.Sorted.IsPartitionPoint-from_clause}
use Rattle.row_set.{specs.Ranges.keys_of, specs.Sets.count_below, proofs.Counts.blank, proofs.Lookups.{count_between, count_in, count_past}, proofs.Places.{ended_part, lasts_parted, not_ended_part}}
use Rattle.tick_table.proofs.places.passed_before.Goals.{then-passed-ranges, else-passed-ranges}
use Rattle.tick_table.proofs.places.passed_before.Goals as goal

pub returns-clause-ended : goal.returns-clause-ended
returns-clause-ended c =
    ended_part c.args.key c.args.ranges.now c.partition_point-passed.result
    (IsPartitionPoint-from_clause (λ range. ltb range.last c.args.key) c.args.ranges.now c.partition_point-passed.result c.partition_point-passed.ensures.partitioned (lasts_parted c.args.key c.args.ranges.now c.requires.apart) (λ a r f h. search rules))

pub returns-clause-others : goal.returns-clause-others
returns-clause-others c =
    not_ended_part c.args.key c.args.ranges.now c.partition_point-passed.result
    (IsPartitionPoint-from_clause (λ range. ltb range.last c.args.key) c.args.ranges.now c.partition_point-passed.result c.partition_point-passed.ensures.partitioned (lasts_parted c.args.key c.args.ranges.now c.requires.apart) (λ a r f h. search rules))

pub returns-clause-keys : goal.returns-clause-keys
returns-clause-keys c =
    let key = c.args.key in
    let i = c.partition_point-passed.result in
    let ranges = c.args.ranges.now in
    let ended = returns-clause-ended c in
    let below : c.count_below-below.result ≡ count_below key (keys_of ranges) = c.count_below-below.ensures.count ∙ ap (count_below key) (sym c.requires.held) in
    elim c.if-passed-ranges.branch [
      | then-passed-ranges w ↦
          elim (cases_lt key (get_or ranges i blank).first) [
            | inl before ↦ omega (arith, below, count_between key i ranges c.requires.apart ended w.if-passed-ranges.true before, c.saturating_sub.ensures, w.within-is, w.saturating_sub-within.ensures)
            | inr above ↦ omega (arith, below, count_in key i ranges c.requires.apart ended (returns-clause-others c) w.if-passed-ranges.true above, c.saturating_sub.ensures, w.within-is, w.saturating_sub-within.ensures)
          ]
      | else-passed-ranges w ↦ omega (arith, below, count_past key i ranges ended w.if-passed-ranges.false, c.saturating_sub.ensures, w.within-is)
    ]
