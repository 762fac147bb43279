use Rattle.std.proofs.Common.{◌≡◌, ℕ, ◌+◌, ◌%◌, ◌==◌, cond, ap, ◌∙◌, arith}
use Rattle.made_run.{specs.Draws.after, proofs.Drawn.after-plus}
use Rattle.made_run.proofs.steps.block.Goals as goal

pub returns-clause-state : goal.returns-clause-state
returns-clause-state c =
    let more : ℕ = cond (c.args.step % 2 == 0) 5 0 in
    let count : more + 80 ≡ 80 + more = omega arith in
    c.in_ok-modified.ensures.state ∙ ap (after more) c.in_ok-drawn_rows.ensures.state ∙ after-plus more 80 c.args.draws.now.state ∙ ap (λ draws. after draws c.args.draws.now.state) count
