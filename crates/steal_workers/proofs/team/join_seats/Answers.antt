use Rattle.std.proofs.Common.{ap, ◌∙◌}
use Rattle.graph_words.{specs.Models.SeatModel, specs.Views.both_views}
use Rattle.steal_workers.proofs.team.join_seats.Goals as goal

pub returns-clause-joined : goal.returns-clause-joined
returns-clause-joined g c =
    let view = c.join.ensures.view ∙ ap (λ (s : SeatModel g.row.W.Denot). both_views s.view c.in_ok-other.other.view) c.look.ensures.same in
    (c.in_ok-seat.seat, c.in_ok-other.other, c.in_ok-seat.was, c.in_ok-other.was, c.look.ensures.marks, c.look.ensures.late, view)
