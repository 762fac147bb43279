use Rattle.std.proofs.Common.{◌≡◌, ◌+◌, ◌-◌, ◌++◌, ap, ◌∙◌, take, drop, arith}
use Rattle.std.proofs.Math.Seq.{paste}
use Rattle.row_set.proofs.Opened.{passed}
use Rattle.row_set.proofs.gaps.carry.Goals as goal

pub returns-clause-same : goal.returns-clause-same
returns-clause-same c =
    let old = c.args.ranges.now in
    let start = c.args.gap.start in
    let end = c.args.gap.end in
    let count = c.args.count in
    let most : end + count - end ≡ count = omega arith in
    let new : c.copy_within.new.self ≡ paste old start (drop end old) count = c.copy_within.ensures.after ∙ ap (paste old start (drop end old)) most in
    ap (λ those. take (start + count) those ++ drop (end + count) those) new ∙ passed start end count old c.requires.gap.order c.requires.within
