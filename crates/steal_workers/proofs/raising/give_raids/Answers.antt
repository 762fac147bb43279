use Rattle.std.proofs.Common.{◌<◌, length, subst, refl}
use Rattle.crossbeam_deque.proofs.Lists.{at_index}
use Rattle.steal_workers.proofs.Marking.{given_crewed, given_rested}
use Rattle.steal_workers.proofs.raising.give_raids.Goals as goal

pub returns-clause-crew : goal.returns-clause-crew
returns-clause-crew c =
    let hands = c.args.hands.now in
    let h = c.index_mut.result.now in
    let within : c.args.place < length hands.items = subst (λ n. c.args.place < n) hands.ok.0 c.requires.within in
    let there = at_index hands.items c.args.place h within c.index_mut.ensures.value in
    given_crewed hands.items c.args.place h record { place = h.place; own = h.own; raids = c.args.raids } there refl c.requires.idle c.requires.rested c.requires.crew

pub returns-clause-rested : goal.returns-clause-rested
returns-clause-rested c =
    let hands = c.args.hands.now in
    let h = c.index_mut.result.now in
    let within : c.args.place < length hands.items = subst (λ n. c.args.place < n) hands.ok.0 c.requires.within in
    let there = at_index hands.items c.args.place h within c.index_mut.ensures.value in
    given_rested hands.items c.args.place h record { place = h.place; own = h.own; raids = c.args.raids } there refl c.requires.idle c.requires.rested
