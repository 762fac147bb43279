use Rattle.std.proofs.Common.{◌≡◌, ap, sym, ◌∙◌, subst, false, ◌^◌, List}
use Rattle.std.{specs.List.AllByRecursion, proofs.lemmas.Result.IfOk-weaker}
use Rattle.key_lists.specs.Keys.{IsRising}
use Rattle.tick_model.{specs.declared.update.ShiftRange.ShiftRange, specs.Rules.{is_past, landed}, specs.Shifts.moved}
use Rattle.shift_data.proofs.Together.{all_inside, all_land, all_rise}
use Rattle.shift_data.proofs.in_place.move_through.Goals as goal

pub move_ranges-requires-clause-inside : goal.move_ranges-requires-clause-inside
move_ranges-requires-clause-inside c =
    subst (λ (both : List ShiftRange). AllByRecursion (λ key. is_past (2 ^ 62) (moved both key) ≡ false) c.args.keys) (sym (c.deref.ensures.value ∙ c.in_ok-both.ensures.ranges))
    (all_inside c.args.shifts.now c.args.next.now c.args.keys c.requires.lawful c.requires.next_lawful c.ranges-2.ensures.keys)

pub move_ranges-requires-clause-rising : goal.move_ranges-requires-clause-rising
move_ranges-requires-clause-rising c =
    subst (λ (both : List ShiftRange). IsRising (landed both c.args.keys)) (sym (c.deref.ensures.value ∙ c.in_ok-both.ensures.ranges))
    (all_rise c.args.shifts.now c.args.next.now c.args.keys c.requires.lawful c.requires.next_lawful c.ranges-2.ensures.keys)

pub returns : goal.returns
returns c =
    IfOk-weaker c.move_ranges.result (λ places. places ≡ landed c.deref.result.now c.args.keys) (λ places. places ≡ landed c.args.next.now (landed c.args.shifts.now c.args.keys))
    (λ places is.
    is
    ∙ ap (λ (both : List ShiftRange). landed both c.args.keys) (c.deref.ensures.value ∙ c.in_ok-both.ensures.ranges)
    ∙ all_land c.args.shifts.now c.args.next.now c.args.keys c.requires.lawful c.requires.next_lawful c.ranges-2.ensures.keys)
    c.move_ranges.ensures
