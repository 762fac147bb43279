use Rattle.std.proofs.Common.{◌<◌, length, sym, ap, ◌∙◌, subst, refl}
use mathlib.Core.Option.{some-injective}
use Rattle.crossbeam_deque.proofs.Lists.{at_index, set_else, set_here}
use Rattle.steal_workers.{specs.Deques.IsRested, specs.Hands.hand_mark, proofs.Marking.{all_parts, map_same, same_mark, with_own}}
use Rattle.steal_workers.proofs.muster.rest_one.Goals as goal

pub empty-requires : goal.empty-requires
empty-requires c =
    let hands = c.args.hands.now in
    let long = hands.ok.0 in
    let within : c.args.place < length hands.items = subst (λ n. c.args.place < n) long c.requires.within in
    let there = at_index hands.items c.args.place c.index_mut.result.now within c.index_mut.ensures.value in
    all_parts hands.items c.args.place c.index_mut.result.now c.requires.crew there (λ i n i_within n_within. c.requires.gone i n (subst (λ m. i < m) (sym long) i_within) (subst (λ m. n < m) (sym long) n_within))

pub returns-clause-marks : goal.returns-clause-marks
returns-clause-marks c =
    let hands = c.args.hands.now in
    let h = c.index_mut.result.now in
    let within : c.args.place < length hands.items = subst (λ n. c.args.place < n) hands.ok.0 c.requires.within in
    let there = at_index hands.items c.args.place h within c.index_mut.ensures.value in
    let long = hands.ok.0 in
    let all = all_parts hands.items c.args.place h c.requires.crew there (λ i n i_within n_within. c.requires.gone i n (subst (λ m. i < m) (sym long) i_within) (subst (λ m. n < m) (sym long) n_within)) in
    let parts = ap (λ v. v.parts) c.empty.ensures.rested ∙ sym all in
    map_same hand_mark hands.items c.args.place h (with_own h c.empty.new.self) there (same_mark h (with_own h c.empty.new.self) (c.empty.ensures.deque, parts) refl)

pub returns-clause-rested : goal.returns-clause-rested
returns-clause-rested c hand at =
    let hands = c.args.hands.now in
    let h = c.index_mut.result.now in
    let within : c.args.place < length hands.items = subst (λ n. c.args.place < n) hands.ok.0 c.requires.within in
    let same = some-injective (with_own h c.empty.new.self) hand (sym (set_here hands.items c.args.place (with_own h c.empty.new.self) within) ∙ at) in
    subst (λ z. IsRested z.own.deque) same c.empty.ensures.rested

pub returns-clause-others : goal.returns-clause-others
returns-clause-others c k ne = set_else c.args.hands.now.items c.args.place k (with_own c.index_mut.result.now c.empty.new.self) ne
