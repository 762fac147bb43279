use Rattle.std.proofs.Common.{◌^◌, ap, sym, ◌∙◌, take, take_all, arith}
use Rattle.std.{specs.Prelude.nat_lt, specs.List.list_all}
use Rattle.tick_model.{specs.Plans.key_bounds, proofs.KeyBounds.{bound_fails, bounds_pass}}
use Rattle.tick_model.proofs.bounds.have_key_space.Goals as goal

pub returns-then-bound-from : goal.returns-then-bound-from
returns-then-bound-from c =
    sym (bound_fails (2 ^ 62) c.args.nodes.now c.loop-i.i c.index-nodes-i.result (take c.loop-i.i c.loop-i.bounds) c.bound-bound.result c.loop-i-test.true c.index-nodes-i.is c.loop-i.invariant.0 c.bound-bound.ensures (omega arith))

pub returns : goal.returns
returns c =
    sym (ap (list_all (λ bound. nat_lt bound (2 ^ 62))) (ap key_bounds (sym (take_all c.loop-i.i c.args.nodes.now c.loop-i-test.false)) ∙ sym c.loop-i.invariant.0)
    ∙ bounds_pass (2 ^ 62) (take c.loop-i.i c.loop-i.bounds) c.loop-i.invariant.1)
