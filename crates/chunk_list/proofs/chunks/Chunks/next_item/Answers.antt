use Rattle.std.proofs.Common.{◌≡◌, ◌+◌, ◌<◌, [], ap, arith, length, suc}
use Rattle.key_lists.proofs.Parts.{every_at}
use Rattle.chunk_list.{specs.Chunked.{contents, list_at}, proofs.Joined.length-lists, proofs.Searches.{start, start_next}}
use Rattle.chunk_list.proofs.chunks.Chunks.next_item.Goals as goal

pub returns-clause-found : goal.returns-clause-found
returns-clause-found g c =
    let ls = c.args.self.now in
    let i = c.args.place.index in
    let next : i + 1 ≡ suc i = omega arith in
    let lt : i + 1 < length (contents c.self.inside.chunks.items) = omega (arith, length-lists c.self.inside.chunks.items) in
    let some = every_at (λ l. 0 < length l) (contents c.self.inside.chunks.items) (i + 1) [] lt c.self.invariant in
    record {
      index = omega (arith, lt, ap length c.self.view_is);
      offset = omega (arith, some, ap (λ ks. length (list_at (i + 1) ks)) c.self.view_is);
      position_is = omega (arith, ap (start ls) next, start_next ls i, ap length c.chunk.ensures.items, c.requires);
    }
