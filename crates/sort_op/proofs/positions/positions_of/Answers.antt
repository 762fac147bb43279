use Rattle.std.proofs.Common.{◌≡◌, ◌∙◌, ◌<◌, ◌≤◌, ◌^◌, ◌++◌, ◌∷◌, [], ap, arith, length, length-append, subst, sym, true, List, ℕ}
use Rattle.std.{specs.List.AllByRecursion, proofs.lemmas.List.length-map, proofs.lemmas.Option.slice_get_within, proofs.lemmas.Result.IfOk-weaker}
use Rattle.key_lists.{specs.Keys.is_among, proofs.Every.every-append}
use Rattle.row_set.proofs.Yielded.{next_has, yielded_all}
use Rattle.sort_op.{specs.declared.entry.Entry.Entry, specs.Entries.keys_in, specs.Places.AreUnder, specs.Ranks.listed, proofs.Ranked.{under_more, under_none}}
use Rattle.sort_op.proofs.positions.positions_of.Goals as goal

pub loop-key-init : goal.loop-key-init
loop-key-init c =
    let none = c.new-found.ensures.items in
    record {
      places = subst (AreUnder (keys_in (listed c.args.order.now)) []) (sym none) (under_none (keys_in (listed c.args.order.now)));
      small = subst (AllByRecursion (λ position. position < 2 ^ 62)) (sym none) tt;
      count = let count : length c.new-found.result.items ≡ 0 = ap length none in omega (arith, count);
    }

pub position_of-requires : goal.position_of-requires
position_of-requires c = next_has c.loop-key.yielded c.into_iter-key-iterator.ensures.into_iter_gives c.loop-key.yielded_by c.in-Some.ensures.steps (λ key. is_among key (keys_in (listed c.args.order.now)) ≡ true) c.requires.here

pub loop-key-preserved : goal.loop-key-preserved
loop-key-preserved c =
    let order = keys_in (listed c.args.order.now) in
    let yielded = c.loop-key.yielded in
    let key = c.in-Some.key in
    let position = c.position_of.result in
    let within = slice_get_within order position key c.position_of.ensures in
    let few : length order ≡ length (listed c.args.order.now) = length-map (listed c.args.order.now) (λ (entry : Entry). entry.key) in
    record {
      places = subst (AreUnder order (yielded ++ key ∷ [])) (sym c.in_ok-push.ensures.items) (under_more order yielded c.loop-key.found.items key position c.requires.apart c.position_of.ensures c.loop-key.invariant.places);
      small = subst (AllByRecursion (λ position. position < 2 ^ 62)) (sym c.in_ok-push.ensures.items) (every-append (λ position. position < 2 ^ 62) c.loop-key.found.items (position ∷ []) c.loop-key.invariant.small (omega (arith, within, few, c.requires.few), tt));
      count =
          let more : length c.push.new.self.items ≡ length (c.loop-key.found.items ++ position ∷ []) = ap length c.in_ok-push.ensures.items in
          omega (arith, more, length-append c.loop-key.found.items (position ∷ []), length-append yielded (key ∷ []), c.loop-key.invariant.count);
    }

pub from_keys-requires : goal.from_keys-requires
from_keys-requires c = record { small = c.loop-key.invariant.small }

pub returns-clause-places : goal.returns-clause-places
returns-clause-places c =
    let order = keys_in (listed c.args.order.now) in
    let all = yielded_all c.loop-key.yielded c.into_iter-key-iterator.ensures.into_iter_gives c.loop-key.yielded_by c.in-None.ensures.steps.0 in
    IfOk-weaker c.from_keys.result (λ set. (key : ℕ) → is_among key set ≡ is_among key c.loop-key.found.items) (AreUnder order c.args.keys.now)
    (λ set are position. are position ∙ subst (λ (some : List ℕ). AreUnder order some c.loop-key.found.items) all c.loop-key.invariant.places position) c.from_keys.ensures.keys

pub returns-clause-no_more : goal.returns-clause-no_more
returns-clause-no_more c =
    let all : length c.loop-key.yielded ≡ length c.args.keys.now = ap length (yielded_all c.loop-key.yielded c.into_iter-key-iterator.ensures.into_iter_gives c.loop-key.yielded_by c.in-None.ensures.steps.0) in
    IfOk-weaker c.from_keys.result (λ set. length set ≤ length c.loop-key.found.items) (λ positions. length positions ≤ length c.args.keys.now)
    (λ set few. omega (arith, few, all, c.loop-key.invariant.count)) c.from_keys.ensures.no_more
