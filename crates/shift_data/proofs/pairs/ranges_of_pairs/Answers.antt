use Rattle.std.proofs.Common.{◌≡◌, sym, ap, ◌∙◌, arith, [], ◌++◌, ◌+◌, ◌-◌, subst}
use Rattle.std.{specs.List.range_with_len, proofs.lemmas.Result.IfOk-weaker}
use Rattle.tick_model.specs.Shifts.{stretches, shifted}
use Rattle.shift_data.{specs.ShiftLists.IsShiftList, specs.Moves.pairs_of, specs.Parts.from_on, specs.Stretches.{built, joined}, proofs.Keys.from_none, proofs.Paired.{pairs_step, pairs_shift}, proofs.Stretched.range_by}
use Rattle.shift_data.proofs.pairs.ranges_of_pairs.Goals as goal

pub loop-run-init : goal.loop-run-init
loop-run-init c = (
  omega arith,
  c.new-stretches.ensures _
      ∙ ap (λ keys. shifted (pairs_of keys (from_on 0 c.args.new.now))) (from_none c.args.old.now)
      ∙ ap (λ keys. shifted (pairs_of c.args.old.now keys)) (from_none c.args.new.now),
)

pub loop-run-preserved : goal.loop-run-preserved
loop-run-preserved c =
    let run = c.in-Some.run' in
    let is = c.in-Some.ensures.run in
    let olds = from_on (run.old + run.count) c.args.old.now in
    let news = from_on (run.new + run.count) c.args.new.now in
    let part = c.part.result in
    let whole = c.loop-run.stretches.whole.items in
    let last = c.loop-run.stretches.last in (
      is.old_small,
      c.in_ok-add.ensures _
          ∙ ap (λ k. built whole last (joined (range_by k part.last part.delta) (stretches (pairs_of olds news)))) c.part.ensures.first
          ∙ ap (λ k. built whole last (joined (range_by run.old k part.delta) (stretches (pairs_of olds news)))) c.part.ensures.last
          ∙ ap (λ d. built whole last (joined (range_by run.old (run.old + (run.count - 1)) d) (stretches (pairs_of olds news)))) c.part.ensures.delta
          ∙ ap (built whole last) (sym (pairs_step run.old run.new run.count olds news is.some))
          ∙ ap (λ keys. built whole last (stretches (pairs_of keys (range_with_len run.new run.count ++ news)))) (sym is.old_front)
          ∙ ap (λ keys. built whole last (stretches (pairs_of (from_on c.loop-run.old_from c.args.old.now) keys))) (sym is.new_front)
          ∙ c.loop-run.invariant.1,
    )

pub returns-clause-shift : goal.returns-clause-shift
returns-clause-shift c =
    let whole : built c.loop-run.stretches.whole.items c.loop-run.stretches.last [] ≡ shifted (pairs_of c.args.old.now c.args.new.now) =
    sym (ap (λ pairs. built c.loop-run.stretches.whole.items c.loop-run.stretches.last (stretches pairs)) c.in_default.ensures.none) ∙ c.loop-run.invariant.1 in
    IfOk-weaker c.into_ranges.result (λ ranges. ranges.items ≡ built c.loop-run.stretches.whole.items c.loop-run.stretches.last []) (λ ranges. IsShiftList ranges.items)
    (λ ranges is. subst IsShiftList (sym (is ∙ whole)) (pairs_shift c.args.old.now c.args.new.now c.pairs_from.ensures.old c.pairs_from.ensures.new))
    c.into_ranges.ensures
