use Rattle.std.proofs.Common.{ap, length, subst, sum, sym, ◌∙◌}
use Rattle.std.specs.List.{AllByRecursion}
use Rattle.chunk_list.{specs.Chunked.{IsChunk, joined}, proofs.Joined.length-joined}
use Rattle.chunk_list.proofs.list.ChunkList.len.Goals as goal

pub returns-clause-count : goal.returns-clause-count
returns-clause-count g c = c.total.ensures ∙ ap sum c.self.invariant.counted ∙ sym (length-joined c.self.inside.chunks) ∙ ap (λ ls. length (joined ls)) c.self.view_is

pub returns-clause-sizes : goal.returns-clause-sizes
returns-clause-sizes g c = subst (AllByRecursion IsChunk) c.self.view_is c.self.invariant.sizes
