use Rattle.std.proofs.Common.{◌≤◌, ap, sym, ◌∙◌, subst, take, arith}
use Rattle.row_set.{specs.Ranges.{AreApart, keys_before, keys_of}, specs.Sets.found, proofs.Apart.apart-take, proofs.Counts.few_keys, proofs.Lookups.{apart_at, every_at, found_in, found_between, found_past}, proofs.runs.Runs.position_of.Goals.{else-index-ranges-via-then-index-ranges+else-ranges-index, else-index-ranges-via-else-index-ranges}}
use Rattle.row_set.proofs.runs.Runs.position_of.Goals as goal

pub overflow_add-result : goal.overflow_add-result
overflow_add-result c =
    let i = c.few_ended_before-index.result in
    let ranges = c.as_slice-ranges.result.now in
    let apart = subst (λ those. AreApart 0 those) (sym c.as_slice-ranges.ensures) c.requires.apart in
    omega (
      arith,
      few_keys (take i ranges) (apart-take 0 i ranges apart),
      c.keys_before-before.ensures ∙ ap (keys_before i) (sym c.as_slice-ranges.ensures),
      every_at (λ range. c.args.key ≤ range.last) i ranges c.if-index-ranges.true c.few_ended_before-index.ensures.others,
      (apart_at i ranges c.if-index-ranges.true apart).0.small,
    )

pub returns-then-ranges-index : goal.returns-then-ranges-index
returns-then-ranges-index c =
    let i = c.few_ended_before-index.result in
    let ranges = c.as_slice-ranges.result.now in
    let apart = subst (λ those. AreApart 0 those) (sym c.as_slice-ranges.ensures) c.requires.apart in
    sym (found_in c.args.key i c.keys_before-before.result ranges apart c.few_ended_before-index.ensures.ended c.few_ended_before-index.ensures.others (c.keys_before-before.ensures ∙ ap (keys_before i) (sym c.as_slice-ranges.ensures)) c.if-index-ranges.true c.if-ranges-index.true)
    ∙ ap (λ those. found c.args.key (keys_of those)) c.as_slice-ranges.ensures

pub returns-else-index-ranges : goal.returns-else-index-ranges
returns-else-index-ranges c =
    let i = c.few_ended_before-index.result in
    let ranges = c.as_slice-ranges.result.now in
    let apart = subst (λ those. AreApart 0 those) (sym c.as_slice-ranges.ensures) c.requires.apart in
    let before = c.keys_before-before.ensures ∙ ap (keys_before i) (sym c.as_slice-ranges.ensures) in
    elim c.else-index-ranges.branch [
      | else-index-ranges-via-then-index-ranges+else-ranges-index w ↦
          sym (found_between c.args.key i c.keys_before-before.result ranges apart c.few_ended_before-index.ensures.ended c.few_ended_before-index.ensures.others before w.if-index-ranges.true w.if-ranges-index.false)
      | else-index-ranges-via-else-index-ranges w ↦
          sym (found_past c.args.key i c.keys_before-before.result ranges c.few_ended_before-index.ensures.ended before w.if-index-ranges.false)
    ]
    ∙ ap (λ those. found c.args.key (keys_of those)) c.as_slice-ranges.ensures
