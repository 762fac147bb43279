use Rattle.std.proofs.Common.{◌<◌, ◌≤◌, ap, arith, length, refl, subst, sym, ◌∙◌}
use Rattle.std.{specs.Prelude.insert, proofs.lemmas.List.Edits.length-insert, proofs.lemmas.Result.on_ok_weaker}
use Rattle.key_lists.proofs.Parts.{every_set}
use Rattle.chunk_list.{specs.Chunked.{AreFilled, contents, joined, list_at}, proofs.Edits.{item_put, lists_same, lists_set, on_err}, proofs.Halves.joined_halves, proofs.Joined.{length-lists, own_list}}
use Rattle.chunk_list.proofs.chunks.Chunks.insert.Goals as goal

pub returns-then-chunk-most-clause-items : goal.returns-then-chunk-most-clause-items
returns-then-chunk-most-clause-items g c =
    let ls = c.args.self.now in
    let i = c.args.place.index in
    on_ok_weaker c.split.result
    (λ of. ap joined of.lists ∙ joined_halves ls i of.lower of.upper (insert (list_at i ls) c.args.place.offset c.args.item) c.requires.index of.both ∙ item_put ls c.args.place c.args.item c.requires.index c.requires.offset) c.split.ensures.ok

pub returns-then-chunk-most-clause-room : goal.returns-then-chunk-most-clause-room
returns-then-chunk-most-clause-room g c = on_ok_weaker c.split.result (λ of few. absurd (omega (arith, few, c.if-chunk-most.true, ap length c.chunk.ensures.items))) c.split.ensures.ok

pub returns-then-chunk-most-clause-full : goal.returns-then-chunk-most-clause-full
returns-then-chunk-most-clause-full g c = on_ok_weaker c.split.result (λ of most. of) c.split.ensures.ok

pub index_mut-requires : goal.index_mut-requires
index_mut-requires g c = omega (arith, c.requires.index, ap length c.self.view_is, length-lists c.self.inside.chunks.items)

pub insert-requires : goal.insert-requires
insert-requires g c =
    omega (arith, c.requires.offset, ap length (own_list c.self.inside.chunks.items c.args.self.now c.args.place.index c.index_mut.result.now c.self.view_is c.requires.index c.index_mut.ensures.value))

pub returns-in_err-insert-clause-err : goal.returns-in_err-insert-clause-err
returns-in_err-insert-clause-err g c =
    on_err c.from_residual.result _ (lists_same c.self.inside.chunks.items c.args.self.now c.args.place.index c.index_mut.result.now c.insert.new.self c.self.view_is c.requires.index c.index_mut.ensures.value c.in_err-insert.ensures.items)

pub invariant_of-self : goal.invariant_of-self
invariant_of-self g c =
    let chunks = c.self.inside.chunks.items in
    subst AreFilled (sym (lists_same chunks (contents chunks) c.args.place.index c.index_mut.result.now c.insert.new.self refl (omega (arith, c.requires.index, ap length c.self.view_is)) c.index_mut.ensures.value c.in_err-insert.ensures.items)) c.self.invariant

pub invariant_of-self-2 : goal.invariant_of-self-2
invariant_of-self-2 g c =
    let chunks = c.self.inside.chunks.items in
    let le : c.args.place.offset ≤ length c.index_mut.result.now.items =
    omega (arith, c.requires.offset, ap length (own_list chunks c.args.self.now c.args.place.index c.index_mut.result.now c.self.view_is c.requires.index c.index_mut.ensures.value)) in
    subst AreFilled (sym (lists_set chunks (contents chunks) c.args.place.index c.insert.new.self c.insert.new.self.items refl refl))
    (every_set (λ l. 0 < length l) (contents chunks) c.args.place.index c.insert.new.self.items (omega (arith, ap length c.in_ok-insert.ensures.items, length-insert c.index_mut.result.now.items c.args.place.offset c.args.item le)) c.self.invariant)

pub returns-clause-room : goal.returns-clause-room
returns-clause-room g c few =
    let own = own_list c.self.inside.chunks.items c.args.self.now c.args.place.index c.index_mut.result.now c.self.view_is c.requires.index c.index_mut.ensures.value in
    lists_set c.self.inside.chunks.items c.args.self.now c.args.place.index c.insert.new.self _ c.self.view_is (c.in_ok-insert.ensures.items ∙ ap (λ xs. insert xs c.args.place.offset c.args.item) (sym own))

pub returns-clause-items : goal.returns-clause-items
returns-clause-items g c =
    ap joined (returns-clause-room g c (omega (arith, c.if-chunk-most.false, ap length c.chunk.ensures.items)))
    ∙ item_put c.args.self.now c.args.place c.args.item c.requires.index c.requires.offset

pub returns-clause-full : goal.returns-clause-full
returns-clause-full g c full = absurd (omega (arith, full, c.if-chunk-most.false, ap length c.chunk.ensures.items))
