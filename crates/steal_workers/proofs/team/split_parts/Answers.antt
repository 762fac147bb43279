use Rattle.std.proofs.Common.{rules, ◌≡◌, ◌+◌, ◌-◌, ap, arith, ◌∙◌}
use Rattle.graph_words.specs.declared.table.SeatView.{SeatView}
use Rattle.steal_workers.specs.Holdings.{less_parts}
use Rattle.steal_workers.proofs.team.split_parts.Goals as goal

pub split-part-requires-clause-parts : goal.split-part-requires-clause-parts
split-part-requires-clause-parts g c κs within =
    let less : c.loop.seat.view.parts ≡ c.args.seat.now.view.parts - (c.loop.counter + 1) = ap (λ (z : SeatView g.row.W.Denot). z.parts) c.loop.invariant.less in
    let more = c.loop-test.true in
    let enough = c.requires.parts in
    omega (arith, less, more, enough)

pub returns-clause-old : goal.returns-clause-old
returns-clause-old g c =
    let all : c.loop.counter ≡ c.args.more = search rules in
    (c.loop.invariant.of, c.loop.invariant.less ∙ ap (λ n. less_parts (n + 1) c.args.seat.now.view) all)
