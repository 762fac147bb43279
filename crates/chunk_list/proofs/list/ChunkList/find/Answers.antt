use Rattle.std.proofs.Common.{ap, arith, length, subst, sum}
use Rattle.chunk_list.{specs.Chunked.{IsPlace, joined}, proofs.Joined.{length-joined, placed}}
use Rattle.chunk_list.proofs.list.ChunkList.find.Goals as goal

pub find-requires : goal.find-requires
find-requires g c = omega (arith, length-joined c.self.inside.chunks, ap sum c.self.invariant.counted, c.requires, ap (λ ls. length (joined ls)) c.self.view_is)

pub returns : goal.returns
returns g c =
    subst (λ ls. IsPlace ls c.args.position c.find.result) c.self.view_is
    (placed c.self.inside.chunks c.self.inside.counts c.args.position c.find.result c.self.invariant.counted c.find.ensures.index c.find.ensures.offset c.find.ensures.position)
