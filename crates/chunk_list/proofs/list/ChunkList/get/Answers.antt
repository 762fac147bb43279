use Rattle.std.proofs.Common.{◌∙◌, arith, sym}
use Rattle.std.proofs.lemmas.Option.{slice_get_past}
use Rattle.chunk_list.{specs.Chunked.joined, proofs.Searches.run_first}
use Rattle.chunk_list.proofs.list.ChunkList.get.Goals as goal

pub returns-then-position-len : goal.returns-then-position-len
returns-then-position-len g c = sym (slice_get_past (joined c.args.self.now) c.args.position (omega (arith, c.if-position-len.true, c.len.ensures.count)))

pub returns : goal.returns
returns g c = c.first.ensures.value ∙ run_first (joined c.args.self.now) c.run_at.result.now c.args.position c.run_at.ensures.some c.run_at.ensures.run
