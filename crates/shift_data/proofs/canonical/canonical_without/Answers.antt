use Rattle.std.proofs.Common.{◌≡◌, sym, ap, ◌∙◌, arith, [], map, subst}
use Rattle.std.proofs.lemmas.Result.{IfOk-weaker}
use Rattle.tick_model.specs.Shifts.{stretches, delta_at}
use Rattle.shift_data.{specs.Moves.{canonical, pair_by}, specs.ShiftLists.IsShiftList, specs.Stretches.built, proofs.Kept.kept_set, proofs.Keys.from_none, proofs.Parting.{parted, canonical_goes, canonical_shift}}
use Rattle.key_lists.specs.Keys.{without}
use Rattle.shift_data.proofs.canonical.canonical_without.Goals as goal

pub loop-part-init : goal.loop-part-init
loop-part-init c =
    let kept = without c.args.left_out.now c.args.keys.now in
    (omega arith, c.new-stretches.ensures _ ∙ ap (λ keys. canonical c.args.shifts.now keys) (from_none kept))

pub loop-part-preserved : goal.loop-part-preserved
loop-part-preserved c =
    let kept = without c.args.left_out.now c.args.keys.now in
    let set = kept_set c.args.left_out.now c.args.keys.now c.part_without.ensures.keys in (
      omega (arith, c.in-Some.ensures.part.small),
      c.in_ok-add.ensures _
          ∙ ap (built c.loop-part.stretches.whole.items c.loop-part.stretches.last) (sym (parted (pair_by c.args.shifts.now) (delta_at c.args.shifts.now) kept c.loop-part.from c.in-Some.part set (canonical_goes c.args.shifts.now kept c.requires.lawful) c.in-Some.ensures.part))
          ∙ c.loop-part.invariant.1,
    )

pub returns-clause-shift : goal.returns-clause-shift
returns-clause-shift c =
    let kept = without c.args.left_out.now c.args.keys.now in
    let set = kept_set c.args.left_out.now c.args.keys.now c.part_without.ensures.keys in
    let whole : built c.loop-part.stretches.whole.items c.loop-part.stretches.last [] ≡ canonical c.args.shifts.now kept =
    sym (ap (λ keys. built c.loop-part.stretches.whole.items c.loop-part.stretches.last (stretches (map (pair_by c.args.shifts.now) keys))) c.in_default.ensures.none) ∙ c.loop-part.invariant.1 in
    IfOk-weaker c.into_ranges.result (λ ranges. ranges.items ≡ built c.loop-part.stretches.whole.items c.loop-part.stretches.last []) (λ ranges. IsShiftList ranges.items)
    (λ ranges is. subst IsShiftList (sym (is ∙ whole)) (canonical_shift c.args.shifts.now kept set c.requires.lawful))
    c.into_ranges.ensures
