use Rattle.std.proofs.Common.{◌≡◌, ◌≢◌, ◌+◌, ◌-◌, ◌<◌, ◌≤◌, ap, sym, ◌∙◌, subst, refl, suc, take, drop, set, ◌++◌, get_or, map, length, arith, pos, Some}
use Rattle.std.{specs.List.AllByRecursion, proofs.lemmas.Bool.eqb-false}
use Rattle.key_lists.proofs.Parts.{some_at, no_items}
use Rattle.tick_model.{specs.declared.update.ShiftRange.ShiftRange, specs.Printable.IsShift}
use Rattle.slab.specs.Slab.{get}
use Rattle.row_handles.{specs.Entries.AreDistinct, specs.Blocks.number_of, specs.Moves.moved_block, proofs.Leaving.all_held, proofs.Moving.{moves_begin, moves_end, moves_none, moved_more, length_partly, partly_numbers, held_more}}
use Rattle.row_handles.proofs.index.HandleIndex.move_blocks.Goals as goal

pub returns-then-is_empty-clause-blocks : goal.returns-then-is_empty-clause-blocks
returns-then-is_empty-clause-blocks c =
    sym (ap (λ shifts. map (moved_block shifts) c.args.self.now.blocks.items) (sym c.ranges-ranges.ensures.ranges ∙ no_items c.ranges-ranges.result.now c.if-is_empty.ensures) ∙ moves_none c.args.self.now.blocks.items c.requires.sound.sound)

pub returns-then-is_empty-clause-held : goal.returns-then-is_empty-clause-held
returns-then-is_empty-clause-held c = all_held c.args.self.now c.requires.sound

pub loop-index-init : goal.loop-index-init
loop-index-init c =
    let blocks = c.args.self.now.blocks.items in
    let ranges = c.ranges-ranges.result.now in
    let none : ShiftRange = record { begin = 0; end = 0; delta = pos 0 } in
    let shift : IsShift ranges = subst IsShift (sym c.ranges-ranges.ensures.ranges) c.ranges-ranges.ensures.shift.apart in
    let within : c.begun_by.result ≤ length blocks = omega (arith, c.begun_by.ensures.within, ap length c.deref.ensures.value) in
    let begun = subst (λ bs. AllByRecursion (λ block. block.first ≤ (get_or ranges 0 none).begin) (take c.begun_by.result bs)) c.deref.ensures.value c.begun_by.ensures.begun in
    record {
      blocks =
          moves_begin ranges none blocks c.begun_by.result shift within c.requires.sound.sound c.requires.sound.ascend begun
          ∙ ap (λ shifts. map (moved_block shifts) (take (c.begun_by.result - 1) blocks) ++ drop (c.begun_by.result - 1) blocks) c.ranges-ranges.ensures.ranges
          ∙ ap (λ n. map (moved_block c.args.shifts.now) (take n blocks) ++ drop n blocks) (sym c.saturating_sub-from.ensures);
      held = all_held c.args.self.now c.requires.sound;
      places = refl;
    }

pub loop-index-preserved : goal.loop-index-preserved
loop-index-preserved c =
    let old = c.args.self.now.blocks.items in
    let mid = c.loop-index.self.blocks.items in
    let at = c.loop-index.index in
    let shifts = c.args.shifts.now in
    let f = moved_block shifts in
    let is = c.loop-index.invariant in
    let lt : at < length old = omega (arith, c.loop-index-test.true, c.begun_by-to.ensures.within, ap length c.deref-2.ensures.value) in
    let within : at < length mid = omega (arith, lt, ap length is.blocks, length_partly f old at) in
    let some = some_at mid at within in
    let next : suc at ≡ at + 1 = omega arith in
    record {
      blocks =
          c.move_block.ensures.blocks some.0 some.1
          ∙ ap (λ bs. set bs at (f some.0)) is.blocks
          ∙ moved_more f old at some.0 lt (some.1 ∙ ap (λ bs. get_or bs at some.0) is.blocks)
          ∙ ap (λ n. map f (take n old) ++ drop n old) next;
      held =
          subst (AllByRecursion (λ block. get c.move_block.new.self.ceilings block.number ≡ Some block.ceiling)) (sym (c.move_block.ensures.blocks some.0 some.1))
          (held_more mid at some.0 (f some.0) c.loop-index.self.ceilings c.move_block.new.self.ceilings within some.1 refl (subst AreDistinct (sym (ap (map number_of) is.blocks ∙ partly_numbers shifts old at)) c.requires.sound.numbered) (c.move_block.ensures.ceilings some.0 some.1) is.held);
      places = c.move_block.ensures.places ∙ is.places;
    }

pub returns-clause-blocks : goal.returns-clause-blocks
returns-clause-blocks c =
    let blocks = c.args.self.now.blocks.items in
    let ranges = c.ranges-ranges.result.now in
    let none : ShiftRange = record { begin = 0; end = 0; delta = pos 0 } in
    let shift : IsShift ranges = subst IsShift (sym c.ranges-ranges.ensures.ranges) c.ranges-ranges.ensures.shift.apart in
    let some : length ranges ≢ 0 = eqb-false (length ranges) 0 (sym c.if-is_empty.ensures) in
    let len : length ranges ≡ suc (length ranges - 1) = omega arith in
    let above = subst (λ bs. AllByRecursion (λ block. (get_or ranges (length ranges - 1) none).end < block.first) (drop c.begun_by-to.result bs)) c.deref-2.ensures.value c.begun_by-to.ensures.others in
    c.loop-index.invariant.blocks
    ∙ ap (λ shifts. map (moved_block shifts) (take c.loop-index.index blocks) ++ drop c.loop-index.index blocks) (sym c.ranges-ranges.ensures.ranges)
    ∙ moves_end ranges none (length ranges - 1) blocks c.begun_by-to.result c.loop-index.index shift len c.loop-index-test.false c.requires.sound.sound above
    ∙ ap (λ shifts. map (moved_block shifts) blocks) c.ranges-ranges.ensures.ranges
