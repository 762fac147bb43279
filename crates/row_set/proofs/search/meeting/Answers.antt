use Rattle.std.proofs.Common.{◌≤◌, ◌<◌, subst, sym, length, take, drop}
use Rattle.std.{specs.List.AllByRecursion, proofs.lemmas.List.take_rest}
use Rattle.row_set.{specs.Ranges.AreApart, proofs.Apart.apart-drop, proofs.Places.meets}
use Rattle.row_set.proofs.search.meeting.Goals as goal

pub few_begun_by-requires : goal.few_begun_by-requires
few_begun_by-requires c =
    let from = c.few_ended_before-from.result in
    subst (λ those. AreApart 0 those) (sym (take_rest c.args.ranges.now from)) (apart-drop 0 from c.args.ranges.now c.requires.apart)

pub returns : goal.returns
returns c =
    let ranges = c.args.ranges.now in
    let from = c.few_ended_before-from.result in
    let count = c.few_begun_by.result in
    let rest = take_rest ranges from in
    meets c.args.low c.args.high from count ranges c.few_ended_before-from.ensures.within
    (subst (λ those. count ≤ length those) rest c.few_begun_by.ensures.within)
    c.few_ended_before-from.ensures.ended c.few_ended_before-from.ensures.others
    (subst (λ those. AllByRecursion (λ range. range.first ≤ c.args.high) (take count those)) rest c.few_begun_by.ensures.begun)
    (subst (λ those. AllByRecursion (λ range. c.args.high < range.first) (drop count those)) rest c.few_begun_by.ensures.others)
