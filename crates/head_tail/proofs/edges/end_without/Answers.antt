use Rattle.std.proofs.Common.{◌≡◌, ap, ap₂, ◌∙◌, subst, arith, List, ℕ, ◌-◌, take, drop}
use Rattle.std.{specs.Prelude.{nat_lt, IfOk}, proofs.lemmas.List.take_rest}
use Rattle.key_lists.specs.Keys.{without}
use Rattle.row_set.specs.Sets.{count_below, united}
use Rattle.tick_laws.proofs.ResultCells.{length-filter_most}
use Rattle.head_tail.{proofs.Cuts.drop_none, proofs.Ends.{first_is, last_is}}
use Rattle.head_tail.proofs.edges.end_without.Goals as goal

pub overflow_sub-len : goal.overflow_sub-len
overflow_sub-len c = omega (arith, length-filter_most (λ key. nat_lt key c.edge_at.result) c.args.others.now, c.count_below-below.ensures.count, c.len.ensures.count)

pub returns-in_ok-past-in-First : goal.returns-in_ok-past-in-First
returns-in_ok-past-in-First c =
    let keys = c.args.keys.now in
    let others = c.args.others.now in
    let place = c.position_of-place.result in
    let same : united c.in_ok-others_shown-in-First.others_shown c.in_ok-past-in-First.past ≡ without (take c.args.staying (without others keys)) (take c.args.position keys) =
    ap₂ united
    (c.in_ok-others_shown-in-First.ensures ∙ ap (λ n. take n (drop 0 others)) c.count_below-below.ensures.count ∙ ap (take (count_below c.edge_at.result others)) (drop_none others))
    (c.in_ok-past-in-First.ensures ∙ ap (λ n. take n (drop place keys)) c.saturating_sub.ensures)
    ∙ first_is keys others c.edge_at.ensures.keys.rising c.count_below-below.ensures.keys.rising c.requires.there c.edge_at.result c.args.position place c.args.staying
    (record { before = c.edge_at.ensures.before; from = c.edge_at.ensures.from }) c.position_of-place.ensures in
    rw (c.in-First.is) (subst (λ those. IfOk c.union.result (λ (found : List ℕ). found ≡ those)) same c.union.ensures)

pub returns-in_ok-past-in-Last : goal.returns-in_ok-past-in-Last
returns-in_ok-past-in-Last c =
    let keys = c.args.keys.now in
    let others = c.args.others.now in
    let place = c.position_of-place.result in
    let same : united c.in_ok-others_shown-in-Last.others_shown c.in_ok-past-in-Last.past ≡ without (drop c.args.staying (without others keys)) (drop c.args.position keys) =
    ap₂ united
    (c.in_ok-others_shown-in-Last.ensures ∙ ap₂ (λ l n. take (l - n) (drop n others)) c.len.ensures.count c.count_below-below.ensures.count ∙ take_rest others (count_below c.edge_at.result others))
    (c.in_ok-past-in-Last.ensures ∙ ap (λ n. take n (drop c.args.position keys)) c.saturating_sub-in-Last.ensures)
    ∙ last_is keys others c.edge_at.ensures.keys.rising c.count_below-below.ensures.keys.rising c.requires.there c.edge_at.result c.args.position place c.args.staying
    (record { before = c.edge_at.ensures.before; from = c.edge_at.ensures.from }) c.position_of-place.ensures in
    rw (c.in-Last.is) (subst (λ those. IfOk c.union-in-Last.result (λ (found : List ℕ). found ≡ those)) same c.union-in-Last.ensures)
