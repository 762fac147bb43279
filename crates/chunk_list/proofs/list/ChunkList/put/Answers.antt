use Rattle.std.proofs.Common.{◌≡◌, ◌+◌, ◌-◌, ◌<◌, ◌≤◌, [], ap, arith, get_or, length, set, subst, suc, sum, sym}
use Rattle.std.{specs.Prelude.insert, specs.List.AllByRecursion, proofs.lemmas.List.Edits.length-insert, proofs.lemmas.List.Sums.sum_by-insert}
use Rattle.key_lists.proofs.Parts.{every_at}
use Rattle.chunk_list.{specs.Chunked.{AreChunks, IsChunk, IsReplaced, IsSplit, joined, list_at}, proofs.Edits.{fewer_lists, put_kept}, proofs.Halves.{counts_back, halves_replaced, longer, low_few, set_replaced, split_kept, still_there}, proofs.Joined.{count_at, length-counts, length-joined}}
use Rattle.chunk_list.proofs.list.ChunkList.put.Goals as goal

pub add-requires-clause-within : goal.add-requires-clause-within
add-requires-clause-within g c = omega (arith, c.requires.index, ap length c.self.view_is, ap length c.self.invariant.counted, length-counts c.self.inside.chunks)

pub add-requires-clause-fits : goal.add-requires-clause-fits
add-requires-clause-fits g c = omega (arith, c.requires.few, ap (λ ls. length (joined ls)) c.self.view_is, ap sum c.self.invariant.counted, length-joined c.self.inside.chunks)

pub invariant_of-self-then-chunk-lt-CHUNK_LEN : goal.invariant_of-self-then-chunk-lt-CHUNK_LEN
invariant_of-self-then-chunk-lt-CHUNK_LEN g c =
    let ls = c.self.inside.chunks in
    let i = c.args.place.index in
    let l = insert (list_at i ls) c.args.place.offset c.args.item in
    let lt : i < length ls = omega (arith, c.requires.index, ap length c.self.view_is) in
    let le : c.args.place.offset ≤ length (list_at i ls) = omega (arith, c.requires.offset, ap (λ ks. length (list_at i ks)) c.self.view_is) in
    let few : length (list_at i ls) < 512 = omega (arith, c.if-chunk-lt-CHUNK_LEN.true, ap length c.chunk.ensures.items) in
    let one = length-insert (list_at i ls) c.args.place.offset c.args.item le in
    subst (λ ks. AreChunks ks c.add.new.self) (sym (c.in_ok-insert.ensures.room few))
    (subst (AreChunks (set ls i l)) (sym c.add.ensures) (put_kept ls c.self.inside.counts i 1 l c.self.invariant lt one (omega (arith, few)) (omega (arith, c.requires.few, ap (λ ks. length (joined ks)) c.self.view_is))))

pub returns-then-chunk-lt-CHUNK_LEN-clause-replaced : goal.returns-then-chunk-lt-CHUNK_LEN-clause-replaced
returns-then-chunk-lt-CHUNK_LEN-clause-replaced g c =
    let ls = c.self.inside.chunks in
    let few : length (list_at c.args.place.index ls) < 512 = omega (arith, c.if-chunk-lt-CHUNK_LEN.true, ap length c.chunk.ensures.items) in
    subst (λ ks. IsReplaced 1 2 ks c.insert.new.self) c.self.view_is
    (subst (IsReplaced 1 2 ls) (sym (c.in_ok-insert.ensures.room few)) (set_replaced 1 2 ls c.args.place.index _ (omega arith) (omega arith) (omega (arith, c.requires.index, ap length c.self.view_is))))

pub returns-then-chunk-lt-CHUNK_LEN-clause-sizes : goal.returns-then-chunk-lt-CHUNK_LEN-clause-sizes
returns-then-chunk-lt-CHUNK_LEN-clause-sizes g c = (invariant_of-self-then-chunk-lt-CHUNK_LEN g c).sizes

pub overflow_add-next : goal.overflow_add-next
overflow_add-next g c = omega (arith, fewer_lists c.self.inside.chunks c.self.invariant.sizes, c.self.invariant.few, c.requires.index, ap length c.self.view_is)

pub insert-requires-2-clause-within : goal.insert-requires-2-clause-within
insert-requires-2-clause-within g c = omega (arith, c.requires.index, ap length c.self.view_is, ap length c.self.invariant.counted, length-counts c.self.inside.chunks)

pub insert-requires-2-clause-fits : goal.insert-requires-2-clause-fits
insert-requires-2-clause-fits g c = omega (arith, c.requires.few, ap (λ ls. length (joined ls)) c.self.view_is, ap sum c.self.invariant.counted, length-joined c.self.inside.chunks)

pub invariant_of-self-in-Err : goal.invariant_of-self-in-Err
invariant_of-self-in-Err g c =
    let counts = c.self.inside.counts in
    let within : c.args.place.index + 1 ≤ length counts = omega (arith, c.requires.index, ap length c.self.view_is, ap length c.self.invariant.counted, length-counts c.self.inside.chunks) in
    subst (λ ks. AreChunks ks c.remove.new.self) (sym c.in-Err.ensures.err)
    (subst (AreChunks c.self.inside.chunks) (sym (counts_back counts c.insert-2.new.self c.remove.new.self (c.args.place.index + 1) 0 within c.in_ok-insert-2.ensures.ok c.remove.ensures)) c.self.invariant)

pub returns-in-Err-clause-sizes : goal.returns-in-Err-clause-sizes
returns-in-Err-clause-sizes g c = subst (AllByRecursion IsChunk) (sym c.in-Err.ensures.err) c.self.invariant.sizes

pub chunk-requires-2 : goal.chunk-requires-2
chunk-requires-2 g c =
    let i = c.args.place.index in
    let offset = c.args.place.offset in
    let are = subst (λ ks. AreChunks ks c.self.inside.counts) c.self.view_is c.self.invariant in
    let full : length (list_at i c.args.self.now) ≡ 512 = omega (arith, c.if-chunk-lt-CHUNK_LEN.false, ap length c.chunk.ensures.items, ap (λ ks. length (list_at i ks)) c.self.view_is, (every_at IsChunk c.args.self.now i [] c.requires.index are.sizes).few) in
    let s = subst (λ ks. IsSplit i (insert (list_at i ks) offset c.args.item) ks c.insert-3.new.self) c.self.view_is (c.in_default.ensures.full (omega (arith, full, ap (λ ks. length (list_at i ks)) c.self.view_is))) in
    omega (arith, longer c.args.self.now c.insert-3.new.self i offset c.args.item c.requires.index c.requires.offset full s, c.requires.index)

pub overflow_sub-gone : goal.overflow_sub-gone
overflow_sub-gone g c =
    let i = c.args.place.index in
    let offset = c.args.place.offset in
    let are = subst (λ ks. AreChunks ks c.self.inside.counts) c.self.view_is c.self.invariant in
    let full : length (list_at i c.args.self.now) ≡ 512 = omega (arith, c.if-chunk-lt-CHUNK_LEN.false, ap length c.chunk.ensures.items, ap (λ ks. length (list_at i ks)) c.self.view_is, (every_at IsChunk c.args.self.now i [] c.requires.index are.sizes).few) in
    let s = subst (λ ks. IsSplit i (insert (list_at i ks) offset c.args.item) ks c.insert-3.new.self) c.self.view_is (c.in_default.ensures.full (omega (arith, full, ap (λ ks. length (list_at i ks)) c.self.view_is))) in
    omega (arith, low_few c.args.self.now c.insert-3.new.self i offset c.args.item c.requires.index c.requires.offset full s, ap length c.chunk-2.ensures.items)

pub add-requires-2-clause-fits : goal.add-requires-2-clause-fits
add-requires-2-clause-fits g c =
    omega (arith, c.requires.few, ap (λ ls. length (joined ls)) c.self.view_is, ap sum c.in_ok-insert-2.ensures.ok, sum_by-insert (λ n. n) c.self.inside.counts (c.args.place.index + 1) 0, ap sum c.self.invariant.counted, length-joined c.self.inside.chunks)

pub sub-requires-clause-enough : goal.sub-requires-clause-enough
sub-requires-clause-enough g c =
    let i = c.args.place.index in
    let ls = c.self.inside.chunks in
    let counts = c.self.inside.counts in
    let lt : i < length ls = omega (arith, c.requires.index, ap length c.self.view_is) in
    let within : i < length counts = omega (arith, lt, ap length c.self.invariant.counted, length-counts ls) in
    let next : i + 1 ≡ suc i = omega arith in
    omega (arith, still_there counts c.insert-2.new.self c.add-2.new.self i (i + 1) _ within next c.in_ok-insert-2.ensures.ok c.add-2.ensures, ap (λ ns. get_or ns i 0) c.self.invariant.counted, count_at ls i, c.if-chunk-lt-CHUNK_LEN.false, ap length c.chunk.ensures.items)

pub invariant_of-self-2 : goal.invariant_of-self-2
invariant_of-self-2 g c =
    let i = c.args.place.index in
    let offset = c.args.place.offset in
    let are = subst (λ ks. AreChunks ks c.self.inside.counts) c.self.view_is c.self.invariant in
    let full : length (list_at i c.args.self.now) ≡ 512 = omega (arith, c.if-chunk-lt-CHUNK_LEN.false, ap length c.chunk.ensures.items, ap (λ ks. length (list_at i ks)) c.self.view_is, (every_at IsChunk c.args.self.now i [] c.requires.index are.sizes).few) in
    let s = subst (λ ks. IsSplit i (insert (list_at i ks) offset c.args.item) ks c.insert-3.new.self) c.self.view_is (c.in_default.ensures.full (omega (arith, full, ap (λ ks. length (list_at i ks)) c.self.view_is))) in
    let next : i + 1 ≡ suc i = omega arith in
    let is : length (list_at i c.insert-3.new.self) + (512 - length c.chunk-2.result.now) ≡ 512 = omega (arith, low_few c.args.self.now c.insert-3.new.self i offset c.args.item c.requires.index c.requires.offset full s, ap length c.chunk-2.ensures.items) in
    split_kept c.args.self.now c.insert-3.new.self i offset c.args.item c.requires.index c.requires.offset full s c.self.inside.counts c.insert-2.new.self c.add-2.new.self c.sub.new.self (i + 1) _ are c.requires.few next is c.in_ok-insert-2.ensures.ok c.add-2.ensures c.sub.ensures

pub returns-clause-replaced : goal.returns-clause-replaced
returns-clause-replaced g c =
    let i = c.args.place.index in
    let offset = c.args.place.offset in
    let are = subst (λ ks. AreChunks ks c.self.inside.counts) c.self.view_is c.self.invariant in
    let full : length (list_at i c.args.self.now) ≡ 512 = omega (arith, c.if-chunk-lt-CHUNK_LEN.false, ap length c.chunk.ensures.items, ap (λ ks. length (list_at i ks)) c.self.view_is, (every_at IsChunk c.args.self.now i [] c.requires.index are.sizes).few) in
    let s = subst (λ ks. IsSplit i (insert (list_at i ks) offset c.args.item) ks c.insert-3.new.self) c.self.view_is (c.in_default.ensures.full (omega (arith, full, ap (λ ks. length (list_at i ks)) c.self.view_is))) in
    subst (IsReplaced 1 2 c.args.self.now) (sym s.lists) (halves_replaced c.args.self.now i s.lower s.upper c.requires.index)

pub returns-clause-sizes : goal.returns-clause-sizes
returns-clause-sizes g c = (invariant_of-self-2 g c).sizes
