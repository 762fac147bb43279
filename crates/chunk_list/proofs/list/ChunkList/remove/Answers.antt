use Rattle.std.proofs.Common.{◌≡◌, ◌≢◌, ◌<◌, ap, arith, get_or, length, set, subst, sym}
use Rattle.std.{specs.Prelude.remove, proofs.lemmas.List.Edits.length-remove}
use Rattle.chunk_list.{specs.Chunked.{AreChunks, IsReplaced, list_at}, proofs.Edits.{gone_kept, taken_kept}, proofs.Halves.{gone_replaced, set_replaced}, proofs.Joined.{count_at, length-counts}}
use Rattle.chunk_list.proofs.list.ChunkList.remove.Goals as goal

pub remove-requires : goal.remove-requires
remove-requires g c = omega (arith, c.find-place.ensures.index, ap length c.self.view_is, ap length c.self.invariant.counted, length-counts c.self.inside.chunks)

pub invariant_of-self : goal.invariant_of-self
invariant_of-self g c =
    let ls = c.self.inside.chunks in
    let i = c.find-place.result.index in
    let alone : length (list_at i ls) ≡ 1 = omega (arith, c.if-chunk-eq1.true, ap length c.chunk.ensures.items) in
    subst (λ ks. AreChunks ks c.remove.new.self) (sym (c.remove-then-chunk-eq1.ensures.gone alone))
    (subst (AreChunks (remove ls i)) (sym c.remove.ensures) (gone_kept ls c.self.inside.counts i c.self.invariant (omega (arith, c.find-place.ensures.index, ap length c.self.view_is))))

pub returns-then-chunk-eq1-clause-replaced : goal.returns-then-chunk-eq1-clause-replaced
returns-then-chunk-eq1-clause-replaced g c =
    let ls = c.self.inside.chunks in
    let i = c.find-place.result.index in
    let alone : length (list_at i ls) ≡ 1 = omega (arith, c.if-chunk-eq1.true, ap length c.chunk.ensures.items) in
    subst (λ ks. IsReplaced 0 1 ks c.remove-then-chunk-eq1.new.self) c.self.view_is
    (subst (IsReplaced 0 1 ls) (sym (c.remove-then-chunk-eq1.ensures.gone alone)) (gone_replaced ls i (omega (arith, c.find-place.ensures.index, ap length c.self.view_is))))

pub returns-then-chunk-eq1-clause-sizes : goal.returns-then-chunk-eq1-clause-sizes
returns-then-chunk-eq1-clause-sizes g c = (invariant_of-self g c).sizes

pub sub-requires-clause-within : goal.sub-requires-clause-within
sub-requires-clause-within g c = omega (arith, c.find-place.ensures.index, ap length c.self.view_is, ap length c.self.invariant.counted, length-counts c.self.inside.chunks)

pub sub-requires-clause-enough : goal.sub-requires-clause-enough
sub-requires-clause-enough g c =
    let i = c.find-place.result.index in
    omega (arith, ap (λ ns. get_or ns i 0) c.self.invariant.counted, count_at c.self.inside.chunks i, ap length c.chunk.ensures.items, c.chunk.ensures.some)

pub invariant_of-self-2 : goal.invariant_of-self-2
invariant_of-self-2 g c =
    let ls = c.self.inside.chunks in
    let i = c.find-place.result.index in
    let own = list_at i ls in
    let less : c.find-place.result.offset < length own = omega (arith, c.find-place.ensures.offset, ap (λ ks. length (list_at i ks)) c.self.view_is) in
    let more : length own ≢ 1 = λ e. c.if-chunk-eq1.false (omega (arith, e, ap length c.chunk.ensures.items)) in
    let one = length-remove own c.find-place.result.offset less in
    subst (λ ks. AreChunks ks c.sub.new.self) (sym (c.remove-2.ensures.left more))
    (subst (AreChunks (set ls i (remove own c.find-place.result.offset))) (sym c.sub.ensures)
    (taken_kept ls c.self.inside.counts i 1 (remove own c.find-place.result.offset) c.self.invariant (omega (arith, c.find-place.ensures.index, ap length c.self.view_is)) one (omega (arith, one, more, less))))

pub returns-clause-replaced : goal.returns-clause-replaced
returns-clause-replaced g c =
    let ls = c.self.inside.chunks in
    let i = c.find-place.result.index in
    let more : length (list_at i ls) ≢ 1 = λ e. c.if-chunk-eq1.false (omega (arith, e, ap length c.chunk.ensures.items)) in
    subst (λ ks. IsReplaced 0 1 ks c.remove-2.new.self) c.self.view_is
    (subst (IsReplaced 0 1 ls) (sym (c.remove-2.ensures.left more)) (set_replaced 0 1 ls i _ (omega arith) (omega arith) (omega (arith, c.find-place.ensures.index, ap length c.self.view_is))))

pub returns-clause-sizes : goal.returns-clause-sizes
returns-clause-sizes g c = (invariant_of-self-2 g c).sizes
