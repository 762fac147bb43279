use Rattle.std.proofs.Common.{subst, sym}
use Rattle.std.specs.List.{AllByRecursion}
use Rattle.chunk_list.{specs.Chunked.{AreChunks, IsChunk}, proofs.Changing.changed_kept}
use Rattle.chunk_list.proofs.list.ChunkList.change_all.Goals as goal

pub invariant_of-self : goal.invariant_of-self
invariant_of-self g c =
    subst (λ ls. AreChunks ls c.self.inside.counts) (sym c.change_all.ensures) (changed_kept (g.C.ItemChange.changed c.args.change.now) c.self.inside.chunks c.self.inside.counts c.self.invariant)

pub returns-clause-sizes : goal.returns-clause-sizes
returns-clause-sizes g c =
    subst (AllByRecursion IsChunk) (sym c.change_all.ensures) (changed_kept (g.C.ItemChange.changed c.args.change.now) c.self.inside.chunks c.self.inside.counts c.self.invariant).sizes
