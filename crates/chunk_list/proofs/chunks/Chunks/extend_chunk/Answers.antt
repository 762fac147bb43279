use Rattle.std.proofs.Common.{◌<◌, ◌++◌, [], ap, arith, length, length-append, refl, subst, sym, ◌∙◌}
use Rattle.key_lists.proofs.Parts.{every_at, every_set}
use Rattle.chunk_list.{specs.Chunked.{AreFilled, contents}, proofs.Edits.{lists_same, lists_set, on_err}, proofs.Joined.{length-lists, own_list}}
use Rattle.chunk_list.proofs.chunks.Chunks.extend_chunk.Goals as goal

pub index_mut-requires : goal.index_mut-requires
index_mut-requires g c = omega (arith, c.requires, ap length c.self.view_is, length-lists c.self.inside.chunks.items)

pub returns-in_err-extend_from_slice-clause-err : goal.returns-in_err-extend_from_slice-clause-err
returns-in_err-extend_from_slice-clause-err g c =
    on_err c.from_residual.result _ (lists_same c.self.inside.chunks.items c.args.self.now c.args.index c.index_mut.result.now c.extend_from_slice.new.self c.self.view_is c.requires c.index_mut.ensures.value c.in_err-extend_from_slice.ensures.items)

pub invariant_of-self : goal.invariant_of-self
invariant_of-self g c =
    let chunks = c.self.inside.chunks.items in
    subst AreFilled (sym (lists_same chunks (contents chunks) c.args.index c.index_mut.result.now c.extend_from_slice.new.self refl (omega (arith, c.requires, ap length c.self.view_is)) c.index_mut.ensures.value c.in_err-extend_from_slice.ensures.items)) c.self.invariant

pub invariant_of-self-2 : goal.invariant_of-self-2
invariant_of-self-2 g c =
    let chunks = c.self.inside.chunks.items in
    let lt : c.args.index < length (contents chunks) = omega (arith, c.requires, ap length c.self.view_is) in
    let some = every_at (λ l. 0 < length l) (contents chunks) c.args.index [] lt c.self.invariant in
    subst AreFilled (sym (lists_set chunks (contents chunks) c.args.index c.extend_from_slice.new.self c.extend_from_slice.new.self.items refl refl))
    (every_set (λ l. 0 < length l) (contents chunks) c.args.index c.extend_from_slice.new.self.items (omega (arith, some, ap length (own_list chunks (contents chunks) c.args.index c.index_mut.result.now refl lt c.index_mut.ensures.value), ap length c.in_ok-extend_from_slice.ensures.items, length-append c.index_mut.result.now.items c.args.items.now)) c.self.invariant)

pub returns-clause-ok : goal.returns-clause-ok
returns-clause-ok g c =
    lists_set c.self.inside.chunks.items c.args.self.now c.args.index c.extend_from_slice.new.self _ c.self.view_is (c.in_ok-extend_from_slice.ensures.items ∙ ap (λ xs. xs ++ c.args.items.now) (sym (own_list c.self.inside.chunks.items c.args.self.now c.args.index c.index_mut.result.now c.self.view_is c.requires c.index_mut.ensures.value)))
