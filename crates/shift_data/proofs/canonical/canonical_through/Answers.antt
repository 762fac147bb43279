use Rattle.std.proofs.Common.{◌≡◌, sym, ap, ◌∙◌, arith, [], map, subst}
use Rattle.std.proofs.lemmas.Result.{IfOk-weaker}
use Rattle.tick_model.specs.Shifts.{stretches}
use Rattle.shift_data.{specs.Moves.{canonical_through, pair_through, delta_through}, specs.ShiftLists.IsShiftList, specs.Stretches.built, proofs.Keys.from_none, proofs.Parting.{parted, through_goes, through_shift}}
use Rattle.shift_data.proofs.canonical.canonical_through.Goals as goal

pub loop-part-init : goal.loop-part-init
loop-part-init c =
    (omega arith, c.new-stretches.ensures _ ∙ ap (λ keys. canonical_through c.args.shifts.now c.args.next.now keys) (from_none c.args.survivors.now))

pub loop-part-preserved : goal.loop-part-preserved
loop-part-preserved c = (
  omega (arith, c.in-Some.ensures.part.small),
  c.in_ok-add.ensures _
      ∙ ap (built c.loop-part.stretches.whole.items c.loop-part.stretches.last) (sym (parted (pair_through c.args.shifts.now c.args.next.now) (delta_through c.args.shifts.now c.args.next.now) c.args.survivors.now c.loop-part.from c.in-Some.part c.part_through.ensures.keys (through_goes c.args.shifts.now c.args.next.now c.args.survivors.now c.requires.lawful c.requires.next_lawful) c.in-Some.ensures.part))
      ∙ c.loop-part.invariant.1,
)

pub returns-clause-shift : goal.returns-clause-shift
returns-clause-shift c =
    let whole : built c.loop-part.stretches.whole.items c.loop-part.stretches.last [] ≡ canonical_through c.args.shifts.now c.args.next.now c.args.survivors.now =
    sym (ap (λ keys. built c.loop-part.stretches.whole.items c.loop-part.stretches.last (stretches (map (pair_through c.args.shifts.now c.args.next.now) keys))) c.in_default.ensures.none) ∙ c.loop-part.invariant.1 in
    IfOk-weaker c.into_ranges.result (λ ranges. ranges.items ≡ built c.loop-part.stretches.whole.items c.loop-part.stretches.last []) (λ ranges. IsShiftList ranges.items)
    (λ ranges is. subst IsShiftList (sym (is ∙ whole)) (through_shift c.args.shifts.now c.args.next.now c.args.survivors.now c.requires.lawful c.requires.next_lawful c.part_through.ensures.keys))
    c.into_ranges.ensures
