use Rattle.std.proofs.Common.{◌<◌, ◌≤◌, ◌-◌, ap, sym, subst, refl, take, length, arith}
use Rattle.std.specs.List.{AllByRecursion}
use Rattle.key_lists.proofs.Parts.{none_left}
use Rattle.row_handles.{specs.Blocks.rows, specs.Drops.AreOutside, proofs.Moving.below_next, proofs.Leaving.{begin_later, left_all, below_outside}}
use Rattle.row_handles.proofs.index.HandleIndex.leave_rows.Goals as goal

pub loop-index-init : goal.loop-index-init
loop-index-init c =
    let blocks = c.args.self.now.blocks.items in
    let begun = subst (λ bs. AllByRecursion (λ block. block.first ≤ c.args.first) (take c.begun_by.result bs)) c.deref.ensures.value c.begun_by.ensures.begun in
    let within : c.begun_by.result ≤ length blocks = omega (arith, c.begun_by.ensures.within, ap length c.deref.ensures.value) in
    record {
      sound = c.requires.sound;
      rest = refl;
      within = omega (arith, within, c.saturating_sub-index.ensures);
      done = subst (λ n. AreOutside c.args.first c.args.last (rows (take n blocks))) (sym c.saturating_sub-index.ensures) (below_outside c.args.first c.args.last (rows (take (c.begun_by.result - 1) blocks)) (below_next c.args.first blocks c.begun_by.result within c.requires.sound.sound c.requires.sound.ascend begun));
    }

pub returns-else-index-last-clause-rows : goal.returns-else-index-last-clause-rows
returns-else-index-last-clause-rows c =
    let blocks = c.loop-index.self.blocks.items in
    let is = c.loop-index.invariant in
    let within : c.loop-index.index < length blocks = omega (arith, c.loop-index-test.true, c.len.ensures) in
    left_all c.args.first c.args.last (rows c.args.self.now.blocks.items) blocks c.loop-index.index is.rest is.sound.sound is.sound.ascend is.done
    (begin_later c.args.last blocks c.loop-index.index c.index.result.now within c.index.ensures is.sound.sound is.sound.ascend c.if-index-last.false)

pub returns-after-loop-index-clause-rows : goal.returns-after-loop-index-clause-rows
returns-after-loop-index-clause-rows c =
    let blocks = c.loop-index.self.blocks.items in
    let is = c.loop-index.invariant in
    let past : length blocks ≤ c.loop-index.index = omega (arith, c.loop-index-test.false, c.len.ensures) in
    left_all c.args.first c.args.last (rows c.args.self.now.blocks.items) blocks c.loop-index.index is.rest is.sound.sound is.sound.ascend is.done (none_left (λ block. c.args.last < block.first) blocks c.loop-index.index past)
