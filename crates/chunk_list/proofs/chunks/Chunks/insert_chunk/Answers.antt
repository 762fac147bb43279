use Rattle.std.proofs.Common.{◌<◌, ap, arith, length, refl, subst, sym}
use Rattle.key_lists.proofs.Parts.{every_insert}
use Rattle.chunk_list.{specs.Chunked.{AreFilled, contents}, proofs.Edits.lists_put, proofs.Joined.length-lists}
use Rattle.chunk_list.proofs.chunks.Chunks.insert_chunk.Goals as goal

pub insert-requires : goal.insert-requires
insert-requires g c = omega (arith, c.requires.within, ap length c.self.view_is, length-lists c.self.inside.chunks.items)

pub invariant_of-self : goal.invariant_of-self
invariant_of-self g c = subst (λ cs. AreFilled (contents cs)) (sym c.in_err-insert.ensures.items) c.self.invariant

pub invariant_of-self-2 : goal.invariant_of-self-2
invariant_of-self-2 g c =
    let chunks = c.self.inside.chunks.items in
    subst AreFilled (sym (lists_put chunks c.insert.new.self.items (contents chunks) c.args.index c.args.items refl c.in_ok-insert.ensures.items))
    (every_insert (λ l. 0 < length l) (contents chunks) c.args.index c.args.items.items c.requires.some c.self.invariant)

pub returns-clause-ok : goal.returns-clause-ok
returns-clause-ok g c = lists_put c.self.inside.chunks.items c.insert.new.self.items c.args.self.now c.args.index c.args.items c.self.view_is c.in_ok-insert.ensures.items
