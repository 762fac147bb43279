use Rattle.std.proofs.Common.{◌<◌, length, subst}
use Rattle.crossbeam_deque.proofs.Lists.{at_index}
use Rattle.steal_workers.{specs.Hands.raid_mark, proofs.Marking.map_same}
use Rattle.steal_workers.proofs.hand.steal_at.Goals as goal

pub returns-clause-raids : goal.returns-clause-raids
returns-clause-raids g c =
    let raids = c.args.raids.now in
    let n = c.args.number in
    let within : n < length raids.items = subst (λ m. n < m) raids.ok.0 c.requires.within in
    map_same raid_mark raids.items n c.index_mut.result.now c.steal_from.new.raid (at_index raids.items n c.index_mut.result.now within c.index_mut.ensures.value) c.steal_from.ensures.raid
