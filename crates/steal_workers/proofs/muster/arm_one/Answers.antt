use Rattle.std.proofs.Common.{rules, ◌≡◌, ◌<◌, ◌≤◌, length, set, sym, ◌∙◌, subst, is_some, false}
use mathlib.Core.Option.{some}
use lib.ListN.{get_elem?, length-set}
use Rattle.crossbeam_deque.{specs.Handles.IsPassOf, proofs.Lists.{at_index, set_here}}
use Rattle.steal_workers.{proofs.Mustering.one_pass, proofs.Marking.{armed_hand, cut_hand, many_parts, one_there, same_raids_at, tied_deque, with_own}}
use Rattle.steal_workers.proofs.muster.arm_one.Goals as goal

pub cut-pass-requires : goal.cut-pass-requires
cut-pass-requires c =
    let hands = c.args.hands.now in
    let long = hands.ok.0 in
    let few : length hands.items ≤ 64 = subst (λ n. n ≤ 64) long c.requires.within.2 in
    let within : c.args.other < length hands.items = subst (λ n. c.args.other < n) long c.requires.within.1 in
    let there = at_index hands.items c.args.other c.index_mut.result.now within c.index_mut.ensures.value in
    many_parts hands.items c.args.other c.index_mut.result.now c.requires.crew there few

pub arm-requires-clause-of : goal.arm-requires-clause-of
arm-requires-clause-of c =
    let hands = c.args.hands.now in
    let k = c.args.other in
    let o = c.index_mut.result.now in
    let own' = c.cut-pass.new.self in
    let mid = set hands.items k (with_own o own') in
    let within : k < length hands.items = subst (λ n. k < n) hands.ok.0 c.requires.within.1 in
    let there = at_index hands.items k o within c.index_mut.ensures.value in
    let kept = cut_hand hands.items k o own' there c.cut-pass.ensures.deque c.requires.crew c.cut-pass.ensures.parts in
    let h = c.index_mut-2.result.now in
    let place_within : c.args.place < length mid = subst (λ n. c.args.place < n) (hands.ok.0 ∙ sym (length-set hands.items k (with_own o own'))) c.requires.within.0 in
    let at = at_index mid c.args.place h place_within c.index_mut-2.ensures.value in
    let old_within : c.args.place < length hands.items = subst (λ n. c.args.place < n) hands.ok.0 c.requires.within.0 in
    let same = same_raids_at hands.items k c.args.place o c.index.result.now h own' there (at_index hands.items c.args.place c.index.result.now old_within c.index.ensures) at in
    let raid_within : k < length h.raids.items = subst (λ z. k < length z.items) same (search rules) in
    let raid_at = at_index h.raids.items k c.index_mut-3.result.now raid_within c.index_mut-3.ensures.value in
    let tied = tied_deque (one_pass k) mid c.args.place k h (with_own o own') c.index_mut-3.result.now kept at raid_at (set_here hands.items k (with_own o own') within) in
    subst (λ d. IsPassOf d c.cut-pass.result) (sym (tied ∙ c.cut-pass.ensures.deque)) c.cut-pass.ensures.of

pub returns-clause-crew : goal.returns-clause-crew
returns-clause-crew c =
    let hands = c.args.hands.now in
    let k = c.args.other in
    let o = c.index_mut.result.now in
    let own' = c.cut-pass.new.self in
    let mid = set hands.items k (with_own o own') in
    let within : k < length hands.items = subst (λ n. k < n) hands.ok.0 c.requires.within.1 in
    let there = at_index hands.items k o within c.index_mut.ensures.value in
    let kept = cut_hand hands.items k o own' there c.cut-pass.ensures.deque c.requires.crew c.cut-pass.ensures.parts in
    let h = c.index_mut-2.result.now in
    let place_within : c.args.place < length mid = subst (λ n. c.args.place < n) (hands.ok.0 ∙ sym (length-set hands.items k (with_own o own'))) c.requires.within.0 in
    let at = at_index mid c.args.place h place_within c.index_mut-2.ensures.value in
    let old_within : c.args.place < length hands.items = subst (λ n. c.args.place < n) hands.ok.0 c.requires.within.0 in
    let same = same_raids_at hands.items k c.args.place o c.index.result.now h own' there (at_index hands.items c.args.place c.index.result.now old_within c.index.ensures) at in
    let raid_within : k < length h.raids.items = subst (λ z. k < length z.items) same (search rules) in
    let raid_at = at_index h.raids.items k c.index_mut-3.result.now raid_within c.index_mut-3.ensures.value in
    let h2 = c.index-2.result.now in
    let same2 = same_raids_at hands.items k c.args.place o h2 h own' there (at_index hands.items c.args.place h2 old_within c.index-2.ensures) at in
    let r = c.index-3.result.now in
    let r_at : get_elem? h2.raids.items k ≡ some r = at_index h2.raids.items k r (subst (λ z. k < length z.items) (sym same2) raid_within) c.index-3.ensures in
    let one = one_there h.raids.items k r c.index_mut-3.result.now (subst (λ z. get_elem? z.items k ≡ some r) same2 r_at) raid_at in
    let idle : is_some c.index_mut-3.result.now.pass ≡ false = subst (λ z. is_some z.pass ≡ false) one (search rules) in
    armed_hand mid c.args.place k h c.index_mut-3.result.now c.arm.new.self at raid_at c.arm.ensures.deque idle c.arm.ensures.armed kept
