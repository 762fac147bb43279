use Rattle.std.proofs.Common.{◌≡◌, ◌<◌, ◌≤◌, ◌++◌, ◌∙◌, [], ap, ap₂, append-nil, arith, drop, get_or, length, map, refl, subst, sym, take, take_all}
use Rattle.std.{specs.List.AllByRecursion, specs.Vec.with_items, proofs.lemmas.List.{drop_all, length-map}}
use Rattle.key_lists.proofs.Parts.{take_front}
use Rattle.chunk_list.{specs.Chunked.{AreFilled, contents, joined, list_at}, proofs.Changing.{every_chunk, filled_changed, later_has, map_more}, proofs.Edits.lists_set, proofs.Joined.{length-lists, list_at-items}}
use Rattle.chunk_list.proofs.chunks.Chunks.change_all.Goals as goal

pub loop-items-preserved : goal.loop-items-preserved
loop-items-preserved g c =
    let first = c.deref_mut-items-items.result.now in
    let now = c.loop-items.items-items in
    let i = c.loop-items.items-index in
    let within : i < length now = omega (arith, c.loop-items-test.true, c.loop-items.auto.items-items) in
    let kept = get_or now i c.items-item.result in
    let items = c.change_items.new.items in
    let f = g.C.ItemChange.changed c.args.change.now in
    let len : kept.len ≡ length items = omega (arith, kept.ok.0, ap length c.change_items.ensures, length-map c.deref_mut.result.now f, ap length c.deref_mut.ensures.value) in
    lists_set now (contents now) i (with_items kept items) (map f (list_at i (contents now))) refl
    (ap (λ n. take n (items ++ drop (length items) kept.items)) len
    ∙ take_front items (drop (length items) kept.items)
    ∙ c.change_items.ensures
    ∙ ap (map f) (c.deref_mut.ensures.value ∙ sym (list_at-items now i c.items-item.result within)))
    ∙ map_more (map (g.C.ItemChange.changed c.args.change.now)) (contents first) (contents now) i [] (omega (arith, c.loop-items-test.true, length-lists first)) c.loop-items.invariant

pub change_items-requires : goal.change_items-requires
change_items-requires g c =
    let Ready = AllByRecursion (g.C.ItemChange.ready c.args.change.now) in
    let first = c.deref_mut-items-items.result.now in
    let now = c.loop-items.items-items in
    let i = c.loop-items.items-index in
    let within : i < length now = omega (arith, c.loop-items-test.true, c.loop-items.auto.items-items) in
    subst Ready (list_at-items now i c.items-item.result within ∙ sym c.deref_mut.ensures.value)
    (later_has Ready (map (g.C.ItemChange.changed c.args.change.now)) (contents first) (contents now) i [] (omega (arith, c.loop-items-test.true, length-lists first)) c.loop-items.invariant
    (every_chunk (g.C.ItemChange.ready c.args.change.now) (contents first) (subst (λ ls. Ready (joined ls)) (sym (ap contents c.deref_mut-items-items.ensures.value ∙ c.self.view_is)) c.requires)))

pub invariant_of-self : goal.invariant_of-self
invariant_of-self g c =
    let first = c.deref_mut-items-items.result.now in
    let now = c.loop-items.items-items in
    let i = c.loop-items.items-index in
    let chunks = c.self.inside.chunks in
    let f = map (g.C.ItemChange.changed c.args.change.now) in
    let all : length (contents first) ≤ i = omega (arith, c.loop-items-test.false, length-lists first) in
    let len : chunks.len ≡ length now = omega (arith, chunks.ok.0, ap length c.deref_mut-items-items.ensures.value, c.loop-items.auto.items-items) in
    subst AreFilled
    (sym
    (ap contents (ap (λ n. take n (now ++ drop (length now) chunks.items)) len ∙ take_front now (drop (length now) chunks.items))
    ∙ c.loop-items.invariant
    ∙ ap₂ (λ xs ys. map f xs ++ ys) (take_all i (contents first) all) (drop_all i (contents first) all)
    ∙ append-nil (map f (contents first))))
    (filled_changed (g.C.ItemChange.changed c.args.change.now) (contents first) (subst (λ cs. AreFilled (contents cs)) (sym c.deref_mut-items-items.ensures.value) c.self.invariant))
