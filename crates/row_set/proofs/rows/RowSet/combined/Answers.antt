use Rattle.std.proofs.Common.{◌≡◌, ◌<◌, ◌≤◌, ◌^◌, ◌-◌, cond, sym, ap, ◌∙◌, arith}
use Rattle.row_set.{specs.Ranges.keys_from, specs.Sets.united, specs.Choice.takes, proofs.Merged.{merged_more, merged_all}, proofs.rows.RowSet.combined.Goals.{then-takes+in_ok-insert_range, else-takes}}
use Rattle.row_set.proofs.rows.RowSet.combined.Goals as goal

pub loop-at-preserved : goal.loop-at-preserved
loop-at-preserved c =
    let at = c.loop-at.at in
    let end = c.until-end.result in
    let here = c.stretch_from-here.result in
    let there = c.stretch_from-there.result in
    let kept = c.loop-at.kept in
    let least = c.until-end.ensures.least in
    let greatest = c.until-end.ensures.greatest in
    let further : at < end = omega (arith, least, c.stretch_from-here.ensures.begins, c.stretch_from-there.ensures.begins) in
    let small : end ≤ 2 ^ 62 = omega (arith, greatest, c.stretch_from-here.ensures.ends, c.stretch_from-there.ensures.ends) in
    let is : c.if-takes.kept ≡ cond (takes c.args.choice here.held there.held) (united (keys_from at (end - 1)) kept) kept =
    elim c.if-takes.branch [
      | then-takes+in_ok-insert_range w ↦ w.kept-is ∙ w.in_ok-insert_range.ensures.ok ∙ sym (ap (λ b. cond b (united (keys_from at (end - 1)) kept) kept) (sym c.takes.ensures ∙ w.if-takes.true))
      | else-takes w ↦ w.kept-is ∙ sym (ap (λ b. cond b (united (keys_from at (end - 1)) kept) kept) (sym c.takes.ensures ∙ w.if-takes.false))
    ] in
    merged_more c.args.choice c.args.self.now c.args.other.now at end c.loop-at.first.now c.loop-at.second.now c.rest_from-first.result.now c.rest_from-second.result.now kept c.if-takes.kept here.held there.held
    c.loop-at.invariant further small
    (λ key from below. c.until-end.ensures.same key _ _ below (λ lt. c.stretch_from-here.ensures.same key from lt) (λ lt. c.stretch_from-there.ensures.same key from lt))
    c.rest_from-first.ensures.ahead c.rest_from-first.ensures.same c.rest_from-second.ensures.ahead c.rest_from-second.ensures.same is

pub returns : goal.returns
returns c =
    merged_all c.args.choice c.args.self.now c.args.other.now c.loop-at.at c.loop-at.first.now c.loop-at.second.now c.loop-at.kept c.ranges-first.ensures.keys c.ranges-second.ensures.keys c.loop-at.invariant c.loop-at-test.false
