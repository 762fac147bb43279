use Rattle.std.proofs.Common.{◌∙◌}
use Rattle.chunk_list.proofs.list.ChunkList.copy.Goals as goal

pub invariant_of-result : goal.invariant_of-result
invariant_of-result g c = rw (c.in_ok-copy.ensures, c.in_ok-copy-2.ensures) c.self.invariant

pub returns : goal.returns
returns g c = c.in_ok-copy.ensures ∙ c.self.view_is
