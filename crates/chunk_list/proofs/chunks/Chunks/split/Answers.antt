use Rattle.std.proofs.Common.{◌≡◌, ◌+◌, ◌/◌, ◌<◌, ◌∷◌, [], ap, arith, get_or, length, length-drop, length-take, refl, set, subst, suc, sym, vec_len, ◌∙◌}
use Rattle.std.{specs.Prelude.insert, proofs.lemmas.Result.on_ok_weaker}
use Rattle.key_lists.proofs.Parts.{every_insert, every_set}
use Rattle.chunk_list.{specs.Chunked.{AreFilled, IsSplit, contents, list_at}, proofs.Edits.{lists_same, on_err}, proofs.Halves.{begun_split, both_halves, lists_halved}, proofs.Joined.{length-lists, own_list}}
use Rattle.chunk_list.proofs.chunks.Chunks.split.Goals as goal

pub returns-then-place-chunk-clause-ok : goal.returns-then-place-chunk-clause-ok
returns-then-place-chunk-clause-ok g c =
    let ls = c.args.self.now in
    let i = c.args.place.index in
    let next : i + 1 ≡ suc i = omega arith in
    on_ok_weaker c.begin.result
    (λ of. subst (IsSplit i (insert (list_at i ls) c.args.place.offset c.args.item) ls) (sym (of ∙ ap (λ n. insert ls n (c.args.item ∷ [])) next)) (begun_split ls i c.args.place.offset c.args.item (omega (arith, c.requires.two)) (omega (arith, c.if-place-chunk.true, ap length c.chunk.ensures.items))))
    c.begin.ensures.ok

pub index_mut-lower-requires : goal.index_mut-lower-requires
index_mut-lower-requires g c = omega (arith, c.requires.index, ap length c.self.view_is, length-lists c.self.inside.chunks.items, ap length c.reserve.ensures.items)

pub returns-in_err-upper-clause-err : goal.returns-in_err-upper-clause-err
returns-in_err-upper-clause-err g c =
    let i = c.args.place.index in
    let held = c.index_mut-lower.result.now in
    on_err _ _
    (ap (λ cs. contents (set cs i c.upper_half.new.items)) c.reserve.ensures.items
    ∙ lists_same c.self.inside.chunks.items c.args.self.now i held c.upper_half.new.items c.self.view_is c.requires.index (c.index_mut-lower.ensures.value ∙ ap (λ cs. get_or cs i held) c.reserve.ensures.items) c.in_err-upper.ensures.err)

pub invariant_of-self-in_err-upper : goal.invariant_of-self-in_err-upper
invariant_of-self-in_err-upper g c =
    let chunks = c.self.inside.chunks.items in
    let i = c.args.place.index in
    let held = c.index_mut-lower.result.now in
    subst AreFilled
    (sym
    (ap (λ cs. contents (set cs i c.upper_half.new.items)) c.reserve.ensures.items
    ∙ lists_same chunks (contents chunks) i held c.upper_half.new.items refl (omega (arith, c.requires.index, ap length c.self.view_is)) (c.index_mut-lower.ensures.value ∙ ap (λ cs. get_or cs i held) c.reserve.ensures.items) c.in_err-upper.ensures.err)) c.self.invariant

pub put_into_half-requires-clause-lower : goal.put_into_half-requires-clause-lower
put_into_half-requires-clause-lower g c =
    let held = c.index_mut-lower.result.now in
    let own = own_list c.self.inside.chunks.items c.args.self.now c.args.place.index held c.self.view_is c.requires.index (c.index_mut-lower.ensures.value ∙ ap (λ cs. get_or cs c.args.place.index held) c.reserve.ensures.items) in
    omega (arith, c.upper_half.new.items.ok.0, held.ok.0, ap length c.in_ok-upper.ensures.lower, length-take (vec_len held / 2) held.items, c.upper_half.ensures.capacity, ap length own, c.requires.two)

pub put_into_half-requires-clause-upper : goal.put_into_half-requires-clause-upper
put_into_half-requires-clause-upper g c =
    let held = c.index_mut-lower.result.now in
    let own = own_list c.self.inside.chunks.items c.args.self.now c.args.place.index held c.self.view_is c.requires.index (c.index_mut-lower.ensures.value ∙ ap (λ cs. get_or cs c.args.place.index held) c.reserve.ensures.items) in
    omega (arith, c.in_ok-upper.upper.ok.0, held.ok.0, ap length c.in_ok-upper.ensures.upper, length-drop (vec_len held / 2) held.items, c.in_ok-upper.ensures.room, ap length own, c.requires.two)

pub put_into_half-requires-clause-within : goal.put_into_half-requires-clause-within
put_into_half-requires-clause-within g c =
    let held = c.index_mut-lower.result.now in
    let own = own_list c.self.inside.chunks.items c.args.self.now c.args.place.index held c.self.view_is c.requires.index (c.index_mut-lower.ensures.value ∙ ap (λ cs. get_or cs c.args.place.index held) c.reserve.ensures.items) in
    omega (arith, c.in_ok-upper.upper.ok.0, c.upper_half.new.items.ok.0, held.ok.0, ap length c.in_ok-upper.ensures.upper, length-drop (vec_len held / 2) held.items, ap length c.in_ok-upper.ensures.lower, length-take (vec_len held / 2) held.items, ap length own, c.requires.offset)

pub returns-clause-ok : goal.returns-clause-ok
returns-clause-ok g c =
    let i = c.args.place.index in
    let held = c.index_mut-lower.result.now in
    let lower = c.put_into_half.new.lower in
    let upper = c.put_into_half.new.upper in
    let own = own_list c.self.inside.chunks.items c.args.self.now i held c.self.view_is c.requires.index (c.index_mut-lower.ensures.value ∙ ap (λ cs. get_or cs i held) c.reserve.ensures.items) in
    record {
      lower = lower.items;
      upper = upper.items;
      some_below = omega (arith, lower.ok.0, c.put_into_half.ensures.lower_some, c.upper_half.new.items.ok.0, held.ok.0, ap length c.in_ok-upper.ensures.lower, length-take (vec_len held / 2) held.items, ap length own, c.requires.two);
      some_above = omega (arith, upper.ok.0, c.put_into_half.ensures.upper_some, c.in_ok-upper.upper.ok.0, held.ok.0, ap length c.in_ok-upper.ensures.upper, length-drop (vec_len held / 2) held.items, ap length own, c.requires.two);
      both = both_halves held.items c.upper_half.new.items.items c.in_ok-upper.upper.items lower.items upper.items (list_at i c.args.self.now) (vec_len held / 2) c.args.place.offset c.args.item own c.in_ok-upper.ensures.lower c.in_ok-upper.ensures.upper c.put_into_half.ensures.items;
      lists = lists_halved c.self.inside.chunks.items c.put_within.new.items.items c.args.self.now i lower upper c.self.view_is (c.put_within.ensures.items ∙ ap (λ cs. insert (set cs i lower) (i + 1) upper) c.reserve.ensures.items);
    }

pub invariant_of-self-2 : goal.invariant_of-self-2
unfolding returns-clause-ok
invariant_of-self-2 g c =
    let i = c.args.place.index in
    let chunks = c.self.inside.chunks.items in
    let halves = returns-clause-ok g c in
    subst AreFilled (sym (lists_halved chunks c.put_within.new.items.items (contents chunks) i c.put_into_half.new.lower c.put_into_half.new.upper refl (c.put_within.ensures.items ∙ ap (λ cs. insert (set cs i c.put_into_half.new.lower) (i + 1) c.put_into_half.new.upper) c.reserve.ensures.items)))
    (every_insert (λ l. 0 < length l) (set (contents chunks) i halves.lower) (suc i) halves.upper halves.some_above (every_set (λ l. 0 < length l) (contents chunks) i halves.lower halves.some_below c.self.invariant))
