use Rattle.std.proofs.Common.{◌≡◌, ◌+◌, ◌-◌, ◌++◌, ap, ap₂, ◌∙◌, drop, length, take, arith}
use Rattle.std.proofs.Math.Seq.{paste}
use Rattle.row_set.proofs.Lying.{slid_lies}
use Rattle.row_set.proofs.edits.slide.Goals as goal

pub returns-clause-ranges : goal.returns-clause-ranges
returns-clause-ranges c =
    let old = c.args.ranges.now in
    let front = c.args.front in
    let from = c.args.from in
    let others = c.args.others.now in
    let place = c.args.end - length others - from in
    let mid = c.copy_within.new.self in
    let many : front + from - front ≡ from = omega arith in
    let low : c.args.end - length others ≡ place + from = omega (arith, c.requires.places) in
    let high : c.args.end - length others + length others ≡ c.args.end = omega (arith, c.requires.places) in
    slid_lies front from c.args.end place old mid c.put_at.new.ranges others c.requires.order c.requires.within (omega (arith, c.requires.places)) (c.copy_within.ensures.after ∙ ap (paste old place (drop front old)) many)
    (c.put_at.ensures ∙ ap₂ (λ m n. take m mid ++ (others ++ drop n mid)) low high)
