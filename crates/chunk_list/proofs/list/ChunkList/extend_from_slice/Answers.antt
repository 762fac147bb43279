use Rattle.std.proofs.Common.{◌≡◌, ap, arith, length, subst, sym, take, ◌∙◌}
use Rattle.chunk_list.{specs.Chunked.{AreChunks, joined}, proofs.Extended.front_kept}
use Rattle.chunk_list.proofs.list.ChunkList.extend_from_slice.Goals as goal

pub append-requires : goal.append-requires
append-requires g c = omega (arith, c.len.ensures.count, c.self.invariant.few, ap (λ ls. length (joined ls)) c.self.view_is)

pub invariant_of-self : goal.invariant_of-self
invariant_of-self g c =
    subst (λ ks. AreChunks ks c.truncate-in-Err.new.self) (sym c.truncate.ensures)
    (subst (AreChunks (take c.len-count.result c.self-2.inside.chunks)) (sym c.truncate-in-Err.ensures) (front_kept c.self-2.inside.chunks c.self-2.inside.counts c.len-count.result c.self-2.invariant))

pub returns-in-Err-clause-err : goal.returns-in-Err-clause-err
returns-in-Err-clause-err g c =
    let same : c.len-count.result ≡ length c.args.self.now = omega (arith, c.len-count.ensures, ap length c.self.view_is) in
    c.truncate.ensures ∙ ap (take c.len-count.result) c.self-2.view_is ∙ ap (λ n. take n c.append.new.self) same ∙ c.in-Err.ensures.err

pub returns-in-Err-clause-sizes : goal.returns-in-Err-clause-sizes
returns-in-Err-clause-sizes g c = (invariant_of-self g c).sizes
