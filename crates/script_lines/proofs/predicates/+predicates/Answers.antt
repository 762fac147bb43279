use Rattle.std.proofs.Common.{◌≡◌, ◌-◌, arith}
use Rattle.script_lines.{specs.Formulas.{both_at, either_at, fact_at}, specs.Bare.bare_test, proofs.TestLemmas.{one_more_fact, one_more_conjunction}}
use Rattle.script_lines.proofs.predicates.+predicates.Goals as goal

pub both-returns-in-Some : goal.both-returns-in-Some
both-returns-in-Some t c =
    let e : both_at (fact_at c.args.depth) c.args.most (bare_test c.args.left) c.args.tokens.now ≡ both_at (fact_at c.args.depth) (c.args.most - 1) (bare_test c.in_ok-both_sides.both_sides) c.in_ok-right.rest.now =
    one_more_fact (fact_at c.args.depth) c.args.most (bare_test c.args.left) (bare_test c.in_ok-right.right) (bare_test c.in_ok-both_sides.both_sides) c.args.tokens.now c.in-Some.rest.now c.in_ok-right.rest.now
    (omega arith) c.in-Some.ensures c.in_ok-right.ensures c.in_ok-both_sides.ensures.value in
    rw e c.both.ensures

pub either-returns-in-Some : goal.either-returns-in-Some
either-returns-in-Some t c =
    let e : either_at (fact_at c.args.depth) c.args.most (bare_test c.args.left) c.args.tokens.now ≡ either_at (fact_at c.args.depth) (c.args.most - 1) (bare_test c.in_ok-either_side.either_side) c.in_ok-right.rest.now =
    one_more_conjunction (fact_at c.args.depth) c.args.most (bare_test c.args.left) (bare_test c.in_ok-right.right) (bare_test c.in_ok-either_side.either_side) c.args.tokens.now c.in-Some.rest.now c.in_ok-right.rest.now
    (omega arith) c.in-Some.ensures c.in_ok-right.ensures c.in_ok-either_side.ensures.value in
    rw e c.either.ensures
