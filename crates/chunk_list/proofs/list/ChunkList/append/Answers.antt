use Rattle.std.proofs.Common.{◌≡◌, ◌++◌, ◌-◌, ◌+◌, ◌<◌, ◌≤◌, ◌^◌, ap, arith, length, length-append, set, subst, sum, take, sym, ◌∙◌, ℕ}
use Rattle.key_lists.proofs.Parts.{no_items}
use Rattle.chunk_list.{specs.Chunked.{AreChunks, joined, list_at}, proofs.Edits.{on_err, put_kept, some_items}, proofs.Extended.{filled, first_ones, none_filled, still_at}, proofs.Joined.{length-counts, length-joined}}
use Rattle.chunk_list.proofs.list.ChunkList.append.Goals as goal

pub append_chunks-requires : goal.append_chunks-requires
append_chunks-requires g c = omega (arith, c.requires, c.split_at.ensures.back_len)

pub returns-then-is_empty-clause-ok : goal.returns-then-is_empty-clause-ok
returns-then-is_empty-clause-ok g c =
    let rest = c.split_at.result.1.now in
    let none = no_items c.split_at.result.0.now c.if-is_empty.ensures in
    none_filled c.args.self.now c.append_chunks.new.self c.args.items.now c.append_chunks.ensures.kept (c.in_ok-append_chunks.ensures.ok ∙ sym (c.split_at.ensures.by_index.0 ∙ ap (λ xs. xs ++ rest) none))

pub overflow_sub-last : goal.overflow_sub-last
overflow_sub-last g c =
    let put = some_items c.split_at.result.0.now c.if-is_empty.ensures in
    let some = c.room_at_end.ensures.some (omega (arith, put, c.split_at.ensures.front_len)) in
    omega (arith, some, c.len-count.ensures, ap length c.self.view_is)

pub extend_chunk-requires : goal.extend_chunk-requires
extend_chunk-requires g c =
    let put = some_items c.split_at.result.0.now c.if-is_empty.ensures in
    let some = c.room_at_end.ensures.some (omega (arith, put, c.split_at.ensures.front_len)) in
    omega (arith, some, c.len-count.ensures, ap length c.self.view_is, ap length c.self-2.view_is, first_ones c.args.self.now c.append_chunks.new.self c.append_chunks.ensures.kept)

pub returns-in_err-extend_chunk-clause-err : goal.returns-in_err-extend_chunk-clause-err
returns-in_err-extend_chunk-clause-err g c = on_err _ _ (ap (take (length c.args.self.now)) (c.in_err-extend_chunk.ensures.err ∙ c.self-2.view_is) ∙ c.append_chunks.ensures.kept)

pub add-requires-clause-within : goal.add-requires-clause-within
add-requires-clause-within g c =
    let put = some_items c.split_at.result.0.now c.if-is_empty.ensures in
    let some = c.room_at_end.ensures.some (omega (arith, put, c.split_at.ensures.front_len)) in
    omega (arith, some, c.len-count.ensures, ap length c.self.view_is, ap length c.self-2.view_is, first_ones c.args.self.now c.append_chunks.new.self c.append_chunks.ensures.kept, ap length c.self-2.invariant.counted, length-counts c.self-2.inside.chunks)

pub add-requires-clause-fits : goal.add-requires-clause-fits
add-requires-clause-fits g c = omega (arith, c.self-2.invariant.few, ap sum c.self-2.invariant.counted, length-joined c.self-2.inside.chunks, c.split_at.ensures.front_len, c.requires)

pub invariant_of-self-2 : goal.invariant_of-self-2
invariant_of-self-2 g c =
    let old = c.args.self.now in
    let ls = c.self-2.inside.chunks in
    let first = c.split_at.result.0.now in
    let rest = c.split_at.result.1.now in
    let put = some_items first c.if-is_empty.ensures in
    let some = c.room_at_end.ensures.some (omega (arith, put, c.split_at.ensures.front_len)) in
    let i : ℕ = c.len-count.result - 1 in
    let end : length old - 1 ≡ i = omega (arith, c.len-count.ensures, ap length c.self.view_is) in
    let within : i < length old = omega (arith, some, end) in
    let lt : i < length ls = omega (arith, within, ap length c.self-2.view_is, first_ones old c.append_chunks.new.self c.append_chunks.ensures.kept) in
    let few : length (list_at i ls) + length first ≤ 512 =
    omega (arith, c.room_at_end.ensures.room some, ap (λ n. length (list_at n old)) end, ap (λ ks. length (list_at i ks)) c.self-2.view_is, ap length (still_at old c.append_chunks.new.self i within c.append_chunks.ensures.kept), c.split_at.ensures.front_len) in
    let room : length (joined ls) + length first ≤ 2 ^ 62 =
    omega (arith, c.requires, c.split_at.ensures.front_len, c.split_at.ensures.back_len, ap (λ ks. length (joined ks)) c.self-2.view_is, ap length (none_filled old c.append_chunks.new.self rest c.append_chunks.ensures.kept c.in_ok-append_chunks.ensures.ok), length-append (joined old) rest) in
    subst (λ ks. AreChunks ks c.add.new.self) (sym c.in_ok-extend_chunk.ensures.ok)
    (subst (AreChunks (set ls i (list_at i ls ++ first))) (sym c.add.ensures)
    (put_kept ls c.self-2.inside.counts i (length first) (list_at i ls ++ first) c.self-2.invariant lt (length-append (list_at i ls) first) few room))

pub returns-clause-ok : goal.returns-clause-ok
returns-clause-ok g c =
    let old = c.args.self.now in
    let first = c.split_at.result.0.now in
    let put = some_items first c.if-is_empty.ensures in
    let some = c.room_at_end.ensures.some (omega (arith, put, c.split_at.ensures.front_len)) in
    let i : ℕ = c.len-count.result - 1 in
    let end : i + 1 ≡ length old = omega (arith, some, c.len-count.ensures, ap length c.self.view_is) in
    ap joined (c.in_ok-extend_chunk.ensures.ok ∙ ap (λ ks. set ks i (list_at i ks ++ first)) c.self-2.view_is)
    ∙ filled old c.append_chunks.new.self i first c.split_at.result.1.now c.args.items.now end c.append_chunks.ensures.kept c.in_ok-append_chunks.ensures.ok (sym c.split_at.ensures.by_index.0)

pub returns-clause-sizes : goal.returns-clause-sizes
returns-clause-sizes g c = (invariant_of-self-2 g c).sizes
