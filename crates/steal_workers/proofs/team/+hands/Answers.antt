use Rattle.std.proofs.Common.{rules, ◌≡◌, ◌+◌, ◌-◌, ◌<◌, ap, arith, IfOk, vec_len}
use Rattle.graph_words.{specs.Models.SeatModel, specs.declared.table.SeatView.SeatView}
use Rattle.steal_workers.{specs.Holdings.{IsGoneOn, IsHeld, NoNode}, specs.Lists.IsListed, proofs.Holding.{joined_result_held, joined_result_on, less_held, ok_gone_on, part_held}}
use Rattle.steal_workers.proofs.team.+hands.Goals as goal

pub returns-clause-held : goal.returns-clause-held
returns-clause-held g t c =
    let plan = c.args.claims.now.plan in
    let mine : IfOk c.join-hand.result.1.2 (λ (s : SeatModel g.row.W.Denot). IsHeld plan s.view NoNode) = search rules in
    let theirs : IfOk c.join-hand.result.0.2 (λ (s : SeatModel g.row.W.Denot). IsHeld plan s.view NoNode) = search rules in
    joined_result_held plan c.join-hand.result.1.2 c.join-hand.result.0.2 c.join_seats.result mine theirs c.join_seats.ensures.joined

pub returns-clause-on : goal.returns-clause-on
returns-clause-on g t c =
    let plan = c.args.claims.now.plan in
    let u = c.work_first.new.seat.view in
    let v = c.split_parts-other.new.seat.view in
    let part = c.split_parts-other.result.view in
    let first : IsGoneOn c.args.seat.view u = c.in-Ok.ensures.on in
    let enough = c.requires.parts in
    let same = first.parts in
    let fewer : vec_len c.pop.new.self + 1 ≡ vec_len c.args.others = search rules in
    let halves = c.take_half-half.ensures.len in
    let count = c.len-2.ensures in
    let some_left : c.len-2.result + 1 < u.parts = omega (arith, enough, same, fewer, halves, count) in
    let mine : IfOk c.join-hand.result.1.2 (λ (s : SeatModel g.row.W.Denot). IsGoneOn v s.view) = search rules in
    let theirs : IfOk c.join-hand.result.0.2 (λ (s : SeatModel g.row.W.Denot). IsGoneOn part s.view) = search rules in
    ok_gone_on c.args.seat.view u c.join_seats.result first (joined_result_on plan (c.len-2.result + 1) u v part c.join-hand.result.1.2 c.join-hand.result.0.2 c.join_seats.result c.split_parts-other.ensures.old.1 some_left c.split_parts-other.ensures.new.1 mine theirs c.join_seats.ensures.joined)

pub join-hand-requires-after_bounds : goal.join-hand-requires-after_bounds
join-hand-requires-after_bounds g t c κs within =
    let plan = c.args.claims.now.plan in
    let u = c.work_first.new.seat.view in
    let v = c.split_parts-other.new.seat.view in
    let part = c.split_parts-other.result.view in
    let enough = c.requires.parts in
    let same = c.in-Ok.ensures.on.parts in
    let fewer : vec_len c.pop.new.self + 1 ≡ vec_len c.args.others = search rules in
    let halves = c.take_half-half.ensures.len in
    let count = c.len-2.ensures in
    let less : v.parts ≡ u.parts - (c.len-2.result + 1) = ap (λ (z : SeatView g.row.W.Denot). z.parts) c.split_parts-other.ensures.old.1 in
    let given : part.parts ≡ c.len-2.result + 1 = ap (λ (z : SeatView g.row.W.Denot). z.parts) c.split_parts-other.ensures.new.1 in
    let theirs : IsHeld plan part NoNode = part_held plan (c.len-2.result + 1) u part c.split_parts-other.ensures.new.1 in
    let mine : IsHeld plan v (IsListed c.work_first.new.kept.nodes.items) = less_held plan (c.len-2.result + 1) u v (IsListed c.work_first.new.kept.nodes.items) c.in-Ok.ensures.held c.split_parts-other.ensures.old.1 in
    let their_parts : vec_len c.take_half-half.result < part.parts = omega (arith, count, given) in
    let my_parts : vec_len c.take_half-half.new.hands < v.parts = omega (arith, enough, same, fewer, halves, count, less) in (
      (search rules, (search rules, (search rules, (search rules, (search rules, (search rules, (search rules, (search rules, (theirs, (their_parts, (search rules, search rules, search rules, search rules))))))))))),
      (search rules, (search rules, (search rules, (search rules, (search rules, (search rules, (search rules, (search rules, (mine, (my_parts, (search rules, search rules, search rules, search rules))))))))))),
    )
