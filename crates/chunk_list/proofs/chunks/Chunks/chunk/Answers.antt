use Rattle.std.proofs.Common.{◌<◌, [], ap, arith, length, refl}
use Rattle.key_lists.proofs.Parts.{every_at}
use Rattle.chunk_list.{specs.Chunked.contents, proofs.Joined.own_list}
use Rattle.chunk_list.proofs.chunks.Chunks.chunk.Goals as goal

pub returns-clause-some : goal.returns-clause-some
returns-clause-some g c =
    let chunks = c.self.inside.chunks.items in
    let lt : c.args.index < length (contents chunks) = omega (arith, c.requires, ap length c.self.view_is) in
    omega (arith, every_at (λ l. 0 < length l) (contents chunks) c.args.index [] lt c.self.invariant, ap length (own_list chunks (contents chunks) c.args.index c.index.result.now refl lt c.index.ensures), ap length c.deref.ensures.value)
