use Rattle.std.proofs.Common.{◌≡◌, sym, ◌∙◌, arith, leb, leb-true, Some}
use Rattle.std.specs.Prelude.{find}
use Rattle.shift_data.{proofs.Keys.find_key, proofs.Kept.{run_passed, first_kept, none_kept, run_small}}
use Rattle.shift_data.proofs.parts.next_kept.Goals as goal

pub returns-in_err-key-clause-key : goal.returns-in_err-key-clause-key
returns-in_err-key-clause-key c =
    c.from_residual.ensures ∙ sym (sym c.loop-key.invariant ∙ none_kept c.args.left_out.now c.args.keys.now c.loop-key.from (sym c.next_from.ensures.next ∙ c.in_err-key.was))

pub overflow_add-from : goal.overflow_add-from
overflow_add-from c =
    let small = run_small c.args.left_out.now c.in_ok-key.key c.in-Some.run' c.range_at.ensures.keys (sym c.range_at.ensures.range ∙ c.in-Some.is) in
    record { fits = omega (arith, small.1) }

pub loop-key-smaller : goal.loop-key-smaller
loop-key-smaller c =
    let small = run_small c.args.left_out.now c.in_ok-key.key c.in-Some.run' c.range_at.ensures.keys (sym c.range_at.ensures.range ∙ c.in-Some.is) in
    let above = leb-true c.loop-key.from c.in_ok-key.key (find_key (leb c.loop-key.from) c.args.keys.now c.in_ok-key.key (sym c.next_from.ensures.next ∙ c.in_ok-key.was)).1 in
    omega (arith, small.0, small.1, above)

pub loop-key-preserved : goal.loop-key-preserved
loop-key-preserved c =
    let e : find (leb c.loop-key.from) c.args.keys.now ≡ Some c.in_ok-key.key = sym c.next_from.ensures.next ∙ c.in_ok-key.was in
    let held = sym c.range_at.ensures.range ∙ c.in-Some.is in
    let above = leb-true c.loop-key.from c.in_ok-key.key (find_key (leb c.loop-key.from) c.args.keys.now c.in_ok-key.key e).1 in
    sym (run_passed c.args.left_out.now c.args.keys.now c.loop-key.from c.in_ok-key.key c.in-Some.run' c.next_from.ensures.keys.rising e above held) ∙ c.loop-key.invariant

pub returns-in-None-clause-key : goal.returns-in-None-clause-key
returns-in-None-clause-key c =
    sym (sym c.loop-key.invariant ∙ first_kept c.args.left_out.now c.args.keys.now c.loop-key.from c.in_ok-key.key (sym c.next_from.ensures.next ∙ c.in_ok-key.was) (sym c.range_at.ensures.range ∙ c.in-None.is))
