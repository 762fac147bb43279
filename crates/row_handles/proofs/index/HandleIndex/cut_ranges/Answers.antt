use Rattle.std.proofs.Common.{◌+◌, ◌∙◌, get_or, take, pos}
use Rattle.std.specs.List.{AllByRecursion}
use Rattle.key_lists.{proofs.Every.{every_weaker, every_both}, proofs.Parts.every_next}
use Rattle.tick_model.specs.declared.update.ShiftRange.{ShiftRange}
use Rattle.row_handles.{specs.Moves.{IsBeside, IsBesideRange}, proofs.Cutting.beside_kept}
use Rattle.row_handles.proofs.index.HandleIndex.cut_ranges.Goals as goal

pub loop-range-preserved : goal.loop-range-preserved
loop-range-preserved c =
    let ranges = c.args.ranges.now in
    let index = c.loop-range.range-index in
    let none : ShiftRange = record { begin = 0; end = 0; delta = pos 0 } in
    let range : ShiftRange = get_or ranges index none in
    let old = c.loop-range.self.blocks.items in
    let mid = c.cut.new.self.blocks.items in
    let new = c.cut-in-loop-range.new.self.blocks.items in
    let one = c.in_ok-cut.ensures.ok in
    let two = c.in_ok-cut-2.ensures.ok in
    record {
      same = c.cut-in-loop-range.ensures.same ∙ c.cut.ensures.same ∙ c.loop-range.invariant.same;
      sound = c.cut-in-loop-range.ensures.sound;
      beside =
          every_next (λ r. AllByRecursion (IsBesideRange r) new) ranges index none c.loop-range-test.true
          (every_both (IsBeside range.begin) (IsBeside (range.end + 1)) (IsBesideRange range) new (λ block a b. (a, b)) (two.others range.begin one.beside) two.beside)
          (every_weaker (λ r. AllByRecursion (IsBesideRange r) old) (λ r. AllByRecursion (IsBesideRange r) new) (take index ranges) (λ r h. beside_kept (range.end + 1) mid new r two (beside_kept range.begin old mid r one h)) c.loop-range.invariant.beside);
    }
