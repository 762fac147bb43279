use Rattle.std.proofs.Common.{◌≡◌, ◌-◌, ◌<◌, [], ℕ, ap, arith, length}
use Rattle.key_lists.proofs.Parts.{every_at}
use Rattle.chunk_list.specs.Chunked.{IsChunk, list_at}
use Rattle.chunk_list.proofs.list.ChunkList.room_at_end.Goals as goal

pub overflow_sub-result : goal.overflow_sub-result
overflow_sub-result g c =
    let ls = c.self.inside.chunks in
    let i : ℕ = c.len-count.result - 1 in
    let lt : i < length ls = omega (arith, c.len-count.ensures, c.if-count-eq0.false) in
    omega (arith, (every_at IsChunk ls i [] lt c.self.invariant.sizes).few, ap length c.chunk.ensures.items)

pub returns-clause-room : goal.returns-clause-room
returns-clause-room g c some =
    let ls = c.self.inside.chunks in
    let i : ℕ = c.len-count.result - 1 in
    let lt : i < length ls = omega (arith, c.len-count.ensures, c.if-count-eq0.false) in
    let end : length c.args.self.now - 1 ≡ i = omega (arith, c.len-count.ensures, ap length c.self.view_is) in
    omega (arith, ap (λ n. length (list_at n c.args.self.now)) end, ap (λ ks. length (list_at i ks)) c.self.view_is, (every_at IsChunk ls i [] lt c.self.invariant.sizes).few, ap length c.chunk.ensures.items)

pub returns-then-count-eq0-clause-room : goal.returns-then-count-eq0-clause-room
returns-then-count-eq0-clause-room g c some = absurd (omega (arith, some, c.if-count-eq0.true, c.len-count.ensures, ap length c.self.view_is))

pub returns-clause-some : goal.returns-clause-some
returns-clause-some g c some = omega (arith, c.len-count.ensures, c.if-count-eq0.false, ap length c.self.view_is)
