use Rattle.std.proofs.Common.{sym, ◌∙◌, arith}
use Rattle.shift_data.{proofs.Asked.run_of, proofs.Kept.{bound_passed, last_found}}
use Rattle.shift_data.proofs.parts.last_kept.Goals as goal

pub loop-key-smaller : goal.loop-key-smaller
loop-key-smaller c =
    let run_is = run_of c.args.left_out.now c.in_ok-key.key c.in-Some.run' (sym c.range_at.ensures.range ∙ c.in-Some.is) in
    omega (arith, run_is.0, c.in_ok-key.ensures.last.below, c.in_ok-high-in-Some.ensures.0, c.in_ok-high-in-Some.ensures.1)

pub loop-key-preserved : goal.loop-key-preserved
loop-key-preserved c =
    bound_passed c.args.left_out.now c.args.keys.now c.args.high c.loop-key.high c.in_ok-key.key c.in_ok-high-in-Some.high c.in-Some.run' c.loop-key.invariant c.in_ok-key.ensures.last (sym c.range_at.ensures.range ∙ c.in-Some.is) c.in_ok-high-in-Some.ensures.0 c.in_ok-high-in-Some.ensures.1

pub returns-in-None : goal.returns-in-None
returns-in-None c =
    last_found c.args.left_out.now c.args.keys.now c.args.high c.loop-key.high c.in_ok-key.key c.loop-key.invariant c.in_ok-key.ensures.last (sym c.range_at.ensures.range ∙ c.in-None.is)
