use Rattle.std.proofs.Common.{rules, ◌+◌, ◌<◌, ◌≤◌, length, set, sym, ap, ◌∙◌, subst, arith}
use lib.ListN.{length-set}
use Rattle.crossbeam_deque.{specs.Handles.{IsPassOf, worker_deque, stealer_deque}, proofs.Lists.{at_index, set_here}}
use Rattle.steal_workers.{proofs.Mustering.one_pass, proofs.Marking.{disarmed_hand, fewer_hand, gone_hand, idle_hand, joined_hand, no_raid, one_there, raid_here, same_passes_of, tied_deque, with_raid}}
use Rattle.steal_workers.proofs.muster.disarm_one.Goals as goal

pub returns-then-other-len-clause-gone : goal.returns-then-other-len-clause-gone
returns-then-other-len-clause-gone c =
    let hands = c.args.hands.now in
    let within : c.args.place < length hands.items = subst (λ n. c.args.place < n) hands.ok.0 c.requires.within.0 in
    let h = c.index.result.now in
    let past : length h.raids.items ≤ c.args.other = search rules in
    no_raid hands.items c.args.place c.args.other h (at_index hands.items c.args.place h within c.index.ensures) past

pub join-requires : goal.join-requires
join-requires c =
    let hands = c.args.hands.now in
    let i = c.args.place in
    let k = c.args.other in
    let h = c.index_mut.result.now in
    let r = c.index_mut-2.result.now in
    let r' = c.disarm.new.self in
    let within : i < length hands.items = subst (λ n. i < n) hands.ok.0 c.requires.within.0 in
    let there = at_index hands.items i h within c.index_mut.ensures.value in
    let same = one_there hands.items i c.index.result.now h (at_index hands.items i c.index.result.now within c.index.ensures) there in
    let raid_within : k < length h.raids.items = subst (λ z. k < length z.raids.items) same (search rules) in
    let raid_at = at_index h.raids.items k r raid_within c.index_mut-2.ensures.value in
    let told = c.in-Some.ensures.pass in
    let kept = disarmed_hand hands.items i k h r r' there raid_at c.disarm.ensures.deque told.0 c.disarm.ensures.idle c.requires.crew in
    let mid = set hands.items i (with_raid h k r') in
    let o = c.index_mut-in-Some.result.now in
    let other_within : k < length mid = subst (λ n. k < n) (hands.ok.0 ∙ sym (length-set hands.items i (with_raid h k r'))) c.requires.within.1 in
    let other_at = at_index mid k o other_within c.index_mut-in-Some.ensures.value in
    let tied = tied_deque (one_pass k) mid i k (with_raid h k r') o r' kept (set_here hands.items i (with_raid h k r') within) (raid_here h k r r' raid_at) other_at in
    subst (λ d. IsPassOf d c.in-Some.pass) (sym c.disarm.ensures.deque ∙ tied) told.1

pub returns-in-Some-clause-crew : goal.returns-in-Some-clause-crew
returns-in-Some-clause-crew c =
    let hands = c.args.hands.now in
    let i = c.args.place in
    let k = c.args.other in
    let h = c.index_mut.result.now in
    let r = c.index_mut-2.result.now in
    let r' = c.disarm.new.self in
    let within : i < length hands.items = subst (λ n. i < n) hands.ok.0 c.requires.within.0 in
    let there = at_index hands.items i h within c.index_mut.ensures.value in
    let same = one_there hands.items i c.index.result.now h (at_index hands.items i c.index.result.now within c.index.ensures) there in
    let raid_within : k < length h.raids.items = subst (λ z. k < length z.raids.items) same (search rules) in
    let raid_at = at_index h.raids.items k r raid_within c.index_mut-2.ensures.value in
    let told = c.in-Some.ensures.pass in
    let kept = disarmed_hand hands.items i k h r r' there raid_at c.disarm.ensures.deque told.0 c.disarm.ensures.idle c.requires.crew in
    let mid = set hands.items i (with_raid h k r') in
    let o = c.index_mut-in-Some.result.now in
    let other_within : k < length mid = subst (λ n. k < n) (hands.ok.0 ∙ sym (length-set hands.items i (with_raid h k r'))) c.requires.within.1 in
    let other_at = at_index mid k o other_within c.index_mut-in-Some.ensures.value in
    joined_hand mid k o c.join.new.self other_at c.join.ensures.deque kept (c.join.ensures.parts ∙ ap (λ n. (Rattle.crossbeam_deque.specs.Handles.worker_view o.own.deque).parts + n) told.2)

pub returns-in-Some-clause-less : goal.returns-in-Some-clause-less
returns-in-Some-clause-less c j n =
    let hands = c.args.hands.now in
    let i = c.args.place in
    let k = c.args.other in
    let h = c.index_mut.result.now in
    let r = c.index_mut-2.result.now in
    let r' = c.disarm.new.self in
    let within : i < length hands.items = subst (λ m. i < m) hands.ok.0 c.requires.within.0 in
    let there = at_index hands.items i h within c.index_mut.ensures.value in
    let same = one_there hands.items i c.index.result.now h (at_index hands.items i c.index.result.now within c.index.ensures) there in
    let raid_within : k < length h.raids.items = subst (λ z. k < length z.raids.items) same (search rules) in
    let raid_at = at_index h.raids.items k r raid_within c.index_mut-2.ensures.value in
    let mid = set hands.items i (with_raid h k r') in
    let o = c.index_mut-in-Some.result.now in
    let other_within : k < length mid = subst (λ m. k < m) (hands.ok.0 ∙ sym (length-set hands.items i (with_raid h k r'))) c.requires.within.1 in
    let other_at = at_index mid k o other_within c.index_mut-in-Some.ensures.value in
    let same = same_passes_of mid k o c.join.new.self other_at c.join.ensures.deque j n in
    let less = fewer_hand hands.items i k h r r' there raid_at c.disarm.ensures.deque c.disarm.ensures.idle j n in
    omega (arith, same, less)

pub returns-in-Some-clause-gone : goal.returns-in-Some-clause-gone
returns-in-Some-clause-gone c =
    let hands = c.args.hands.now in
    let i = c.args.place in
    let k = c.args.other in
    let h = c.index_mut.result.now in
    let r = c.index_mut-2.result.now in
    let r' = c.disarm.new.self in
    let within : i < length hands.items = subst (λ m. i < m) hands.ok.0 c.requires.within.0 in
    let there = at_index hands.items i h within c.index_mut.ensures.value in
    let same = one_there hands.items i c.index.result.now h (at_index hands.items i c.index.result.now within c.index.ensures) there in
    let raid_within : k < length h.raids.items = subst (λ z. k < length z.raids.items) same (search rules) in
    let raid_at = at_index h.raids.items k r raid_within c.index_mut-2.ensures.value in
    let mid = set hands.items i (with_raid h k r') in
    let o = c.index_mut-in-Some.result.now in
    let other_within : k < length mid = subst (λ m. k < m) (hands.ok.0 ∙ sym (length-set hands.items i (with_raid h k r'))) c.requires.within.1 in
    let other_at = at_index mid k o other_within c.index_mut-in-Some.ensures.value in
    same_passes_of mid k o c.join.new.self other_at c.join.ensures.deque i k ∙ gone_hand hands.items i k h r r' there raid_at c.disarm.ensures.deque c.disarm.ensures.idle

pub returns-in-None-clause-crew : goal.returns-in-None-clause-crew
returns-in-None-clause-crew c =
    let hands = c.args.hands.now in
    let i = c.args.place in
    let k = c.args.other in
    let h = c.index_mut.result.now in
    let r = c.index_mut-2.result.now in
    let within : i < length hands.items = subst (λ m. i < m) hands.ok.0 c.requires.within.0 in
    let there = at_index hands.items i h within c.index_mut.ensures.value in
    let same = one_there hands.items i c.index.result.now h (at_index hands.items i c.index.result.now within c.index.ensures) there in
    let raid_within : k < length h.raids.items = subst (λ z. k < length z.raids.items) same (search rules) in
    let raid_at = at_index h.raids.items k r raid_within c.index_mut-2.ensures.value in
    idle_hand hands.items i k h r c.disarm.new.self there raid_at c.disarm.ensures.deque c.in-None.ensures.pass c.disarm.ensures.idle c.requires.crew

pub returns-in-None-clause-gone : goal.returns-in-None-clause-gone
returns-in-None-clause-gone c =
    let hands = c.args.hands.now in
    let i = c.args.place in
    let k = c.args.other in
    let h = c.index_mut.result.now in
    let r = c.index_mut-2.result.now in
    let within : i < length hands.items = subst (λ m. i < m) hands.ok.0 c.requires.within.0 in
    let there = at_index hands.items i h within c.index_mut.ensures.value in
    let same = one_there hands.items i c.index.result.now h (at_index hands.items i c.index.result.now within c.index.ensures) there in
    let raid_within : k < length h.raids.items = subst (λ z. k < length z.raids.items) same (search rules) in
    let raid_at = at_index h.raids.items k r raid_within c.index_mut-2.ensures.value in
    gone_hand hands.items i k h r c.disarm.new.self there raid_at c.disarm.ensures.deque c.disarm.ensures.idle

pub returns-in-None-clause-less : goal.returns-in-None-clause-less
returns-in-None-clause-less c j n =
    let hands = c.args.hands.now in
    let i = c.args.place in
    let k = c.args.other in
    let h = c.index_mut.result.now in
    let r = c.index_mut-2.result.now in
    let within : i < length hands.items = subst (λ m. i < m) hands.ok.0 c.requires.within.0 in
    let there = at_index hands.items i h within c.index_mut.ensures.value in
    let same = one_there hands.items i c.index.result.now h (at_index hands.items i c.index.result.now within c.index.ensures) there in
    let raid_within : k < length h.raids.items = subst (λ z. k < length z.raids.items) same (search rules) in
    let raid_at = at_index h.raids.items k r raid_within c.index_mut-2.ensures.value in
    fewer_hand hands.items i k h r c.disarm.new.self there raid_at c.disarm.ensures.deque c.disarm.ensures.idle j n
