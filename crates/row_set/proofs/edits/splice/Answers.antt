use Rattle.std.proofs.Common.{◌≡◌, ◌≤◌, length, arith, inl, inr}
use Rattle.std.proofs.lemmas.Bool.{cases_lt}
use Rattle.row_set.{proofs.Counts.blank, proofs.Spliced.{splicing_replaces, splicing_inserts, splicing_cut}}
use Rattle.row_set.proofs.edits.splice.Goals as goal

pub loop-range-preserved : goal.loop-range-preserved
loop-range-preserved c =
    let old = c.args.ranges.now.items in
    let from = c.args.from in
    let to = c.args.to in
    let others = c.args.others.now in
    let i = c.loop-range.range-index in
    let at = c.loop-range.at in
    let new = c.loop-range.ranges.items in
    let within : to ≤ length old = omega (arith, c.requires.within, c.args.ranges.now.ok.0) in
    let begins : from ≤ length old = omega (arith, c.requires.order) in (
      elim (cases_lt at to) [
        | inl lt ↦ splicing_replaces old from to others i at new c.put.new.ranges.items blank c.loop-range.invariant.0 begins within c.loop-range-test.true lt (c.put.ensures.replaced lt)
        | inr le ↦ splicing_inserts old from to others i at new c.put.new.ranges.items blank c.loop-range.invariant.0 begins within c.loop-range-test.true le (c.put.ensures.inserted le)
      ],
      omega (arith, c.put.ensures.capacity, c.loop-range.invariant.1),
    )

pub returns-then-at-to-clause-items : goal.returns-then-at-to-clause-items
returns-then-at-to-clause-items c =
    let old = c.args.ranges.now.items in
    let begins : c.args.from ≤ length old = omega (arith, c.requires.order, c.requires.within, c.args.ranges.now.ok.0) in
    let all : c.loop-range.range-index ≡ length c.args.others.now = omega (arith, c.loop-range-test.false, c.loop-range.auto.range-index-end) in
    splicing_cut old c.args.from c.args.to c.args.others.now c.loop-range.range-index c.loop-range.at c.loop-range.ranges.items c.cut.new.ranges.items c.loop-range.invariant.0 begins all c.if-at-to.true c.cut.ensures.items
