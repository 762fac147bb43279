use Rattle.std.proofs.Common.{◌≡◌, ◌++◌, ap, arith, append-nil, length, length-append, drop, take, subst, sym, ◌∙◌}
use Rattle.std.{specs.List.AllByRecursion, proofs.Math.Seq.take-length, proofs.lemmas.List.drop_all}
use Rattle.key_lists.proofs.Parts.{no_items}
use Rattle.chunk_list.{specs.Chunked.{IsChunk, joined}, proofs.Edits.some_items, proofs.Extended.{joined_pushed, more_kept, more_put}}
use Rattle.chunk_list.proofs.list.ChunkList.append_chunks.Goals as goal

pub loop-rest-init : goal.loop-rest-init
loop-rest-init g c =
    let ls = c.args.self.now in record {
      sizes = subst (AllByRecursion IsChunk) c.self.view_is c.self.invariant.sizes;
      room = c.requires;
      kept = take-length ls;
      put = ap (λ ks. joined ks ++ c.args.items.now) (drop_all (length ls) ls (omega arith));
    }

pub append_chunk-requires-clause-chunk : goal.append_chunk-requires-clause-chunk
append_chunk-requires-clause-chunk g c =
    let some = some_items c.loop-rest.rest.now (sym c.loop-rest-test.true ∙ c.is_empty.ensures) in
    let size = ap length c.in_ok-chunk.ensures.items in record {
      some = omega (arith, some, size, c.split_at.ensures.front_len);
      few = omega (arith, size, c.split_at.ensures.front_len);
    }

pub append_chunk-requires-clause-room : goal.append_chunk-requires-clause-room
append_chunk-requires-clause-room g c = omega (arith, c.loop-rest.invariant.room, ap length c.in_ok-chunk.ensures.items, c.split_at.ensures.front_len, c.split_at.ensures.back_len)

pub loop-rest-preserved : goal.loop-rest-preserved
loop-rest-preserved g c =
    let ls = c.args.self.now in
    let now = c.loop-rest.self in
    let rest = c.loop-rest.rest.now in
    let others = c.split_at.result.1.now in
    let chunk = c.in_ok-chunk.chunk.items in
    let ok = c.in_ok-append_chunk.ensures.ok in
    let parts : chunk ++ others ≡ rest = ap (λ xs. xs ++ others) c.in_ok-chunk.ensures.items ∙ sym c.split_at.ensures.by_index.0 in record {
      sizes = c.append_chunk.ensures.sizes;
      room = omega (arith, ap (λ ks. length (joined ks)) ok, ap length (joined_pushed now chunk), length-append (joined now) chunk, ap length parts, length-append chunk others, c.loop-rest.invariant.room);
      kept = ap (take (length ls)) ok ∙ more_kept ls now chunk c.loop-rest.invariant.kept;
      put = ap (λ ks. joined (drop (length ls) ks) ++ others) ok ∙ more_put ls now chunk others rest c.args.items.now c.loop-rest.invariant.kept parts c.loop-rest.invariant.put;
    }

pub loop-rest-smaller : goal.loop-rest-smaller
loop-rest-smaller g c =
    let some = some_items c.loop-rest.rest.now (sym c.loop-rest-test.true ∙ c.is_empty.ensures) in
    omega (arith, some, c.split_at.ensures.back_len)

pub returns-in_err-append_chunk-clause-kept : goal.returns-in_err-append_chunk-clause-kept
returns-in_err-append_chunk-clause-kept g c = ap (take (length c.args.self.now)) c.in_err-append_chunk.ensures.err ∙ c.loop-rest.invariant.kept

pub returns-clause-ok : goal.returns-clause-ok
returns-clause-ok g c =
    let put = joined (drop (length c.args.self.now) c.loop-rest.self) in
    let none = no_items c.loop-rest.rest.now (sym c.loop-rest-test.false ∙ c.is_empty.ensures) in
    sym (append-nil put) ∙ ap (λ xs. put ++ xs) (sym none) ∙ c.loop-rest.invariant.put
