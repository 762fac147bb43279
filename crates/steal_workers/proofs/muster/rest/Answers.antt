use Rattle.std.proofs.Common.{rules, ◌<◌}
use Rattle.graph_words.proofs.Marks.{below_of}
use Rattle.steal_workers.proofs.muster.rest.Goals as goal

pub returns-clause-rested : goal.returns-clause-rested
returns-clause-rested c k hand at =
    let i = c.loop-place.invariant in
    let within = below_of c.loop-place.hands.items k hand at in
    let long = c.loop-place.hands.ok.0 in
    let before : k < c.loop-place.place = search rules in
    i.rested k hand before at
