use Rattle.std.proofs.Common.{◌≡◌, ◌+◌, ap, sym, ◌∙◌, suc, take, get_or, arith}
use Rattle.std.proofs.Math.Seq.{take-suc}
use Rattle.row_set.specs.declared.ranges.Range.{Range}
use Rattle.row_handles.{specs.Blocks.rows, specs.Drops.{outside, left_by}, proofs.Leaving.left_by-append}
use Rattle.row_handles.proofs.index.HandleIndex.leave_ranges.Goals as goal

pub loop-range-preserved : goal.loop-range-preserved
loop-range-preserved c =
    let ranges = c.args.ranges.now in
    let index = c.loop-range.range-index in
    let none : Range = record { first = 0; last = 0 } in
    let range : Range = get_or ranges index none in
    let old = rows c.args.self.now.blocks.items in
    let next : suc index ≡ index + 1 = omega arith in
    record {
      sound = c.leave_rows.ensures.sound;
      rows =
          c.leave_rows.ensures.rows
          ∙ ap (outside range.first range.last) c.loop-range.invariant.rows
          ∙ sym (left_by-append (take index ranges) range old)
          ∙ ap (λ rs. left_by rs old) (sym (take-suc ranges index none c.loop-range-test.true) ∙ ap (λ n. take n ranges) next);
    }
