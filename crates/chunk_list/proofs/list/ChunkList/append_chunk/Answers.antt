use Rattle.std.proofs.Common.{◌≡◌, ◌≤◌, ◌++◌, ◌∷◌, [], ap, arith, length, subst, sum, sym, ◌∙◌}
use Rattle.std.specs.List.{AllByRecursion}
use Rattle.chunk_list.{specs.Chunked.{AreChunks, IsChunk, joined}, proofs.Edits.inserted_last, proofs.Extended.pushed_kept, proofs.Halves.counts_back, proofs.Joined.{length-counts, length-joined}}
use Rattle.chunk_list.proofs.list.ChunkList.append_chunk.Goals as goal

pub insert-requires-clause-within : goal.insert-requires-clause-within
insert-requires-clause-within g c = omega (arith, c.len-count.ensures, ap length c.self.invariant.counted, length-counts c.self.inside.chunks)

pub insert-requires-clause-fits : goal.insert-requires-clause-fits
insert-requires-clause-fits g c = omega (arith, c.len.ensures, c.requires.room, ap sum c.self.invariant.counted, length-joined c.self.inside.chunks, ap (λ ls. length (joined ls)) c.self.view_is)

pub insert_chunk-requires-clause-some : goal.insert_chunk-requires-clause-some
insert_chunk-requires-clause-some g c = omega (arith, c.requires.chunk.some)

pub invariant_of-self-in-Err : goal.invariant_of-self-in-Err
invariant_of-self-in-Err g c =
    let within : c.len-count.result ≤ length c.self.inside.counts = omega (arith, c.len-count.ensures, ap length c.self.invariant.counted, length-counts c.self.inside.chunks) in
    subst (λ ks. AreChunks ks c.remove.new.self) (sym c.in-Err.ensures.err)
    (subst (AreChunks c.self.inside.chunks) (sym (counts_back c.self.inside.counts c.insert.new.self c.remove.new.self c.len-count.result c.len.result within c.in_ok-insert.ensures.ok c.remove.ensures)) c.self.invariant)

pub returns-in-Err-clause-sizes : goal.returns-in-Err-clause-sizes
returns-in-Err-clause-sizes g c = subst (AllByRecursion IsChunk) (sym c.in-Err.ensures.err) c.self.invariant.sizes

pub invariant_of-self-in_default : goal.invariant_of-self-in_default
invariant_of-self-in_default g c =
    let ls = c.self.inside.chunks in
    let chunk = c.args.items.items in
    let end : c.len-count.result ≡ length ls = c.len-count.ensures in
    subst (λ ks. AreChunks ks c.insert.new.self) (sym (c.in_default.ensures.ok ∙ inserted_last ls c.len-count.result chunk end))
    (subst (AreChunks (ls ++ chunk ∷ [])) (sym c.in_ok-insert.ensures.ok)
    (pushed_kept ls c.self.inside.counts c.len-count.result c.len.result chunk c.self.invariant end (omega (arith, c.len.ensures)) c.requires.chunk (omega (arith, c.requires.room, ap (λ ks. length (joined ks)) c.self.view_is))))
