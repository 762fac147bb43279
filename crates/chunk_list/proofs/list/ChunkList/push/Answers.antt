use Rattle.std.proofs.Common.{◌≡◌, ◌+◌, ◌-◌, ◌++◌, ◌∷◌, [], ap, arith, length, subst, sym, ◌∙◌, ℕ}
use Rattle.std.proofs.lemmas.Result.{on_ok_weaker}
use Rattle.chunk_list.{specs.Chunked.{IsReplaced, joined, list_at}, proofs.Edits.inserted_last, proofs.Extended.joined_pushed, proofs.Halves.begun_replaced, proofs.Searches.end_at}
use Rattle.chunk_list.proofs.list.ChunkList.push.Goals as goal

pub append_chunk-requires-clause-chunk : goal.append_chunk-requires-clause-chunk
append_chunk-requires-clause-chunk g c =
    let size = ap length (c.in_ok-push.ensures.items ∙ ap (λ xs. xs ++ c.args.item ∷ []) c.new-items.ensures.items) in
    record { some = omega (arith, size); few = omega (arith, size) }

pub append_chunk-requires-clause-room : goal.append_chunk-requires-clause-room
append_chunk-requires-clause-room g c =
    omega (arith, ap length (c.in_ok-push.ensures.items ∙ ap (λ xs. xs ++ c.args.item ∷ []) c.new-items.ensures.items), c.len.ensures.count, c.if-len-ge-MOST_ITEMS.false)

pub returns-then-count-eq0-clause-ok : goal.returns-then-count-eq0-clause-ok
returns-then-count-eq0-clause-ok g c =
    let one = c.in_ok-push.ensures.items ∙ ap (λ xs. xs ++ c.args.item ∷ []) c.new-items.ensures.items in
    on_ok_weaker c.append_chunk.result (λ of. ap joined of ∙ joined_pushed c.args.self.now c.push.new.self.items ∙ ap (λ xs. joined c.args.self.now ++ xs) one) c.append_chunk.ensures.ok

pub returns-then-count-eq0-clause-replaced : goal.returns-then-count-eq0-clause-replaced
returns-then-count-eq0-clause-replaced g c =
    on_ok_weaker c.append_chunk.result
    (λ of. subst (IsReplaced 1 2 c.args.self.now) (sym of) (begun_replaced c.args.self.now c.push.new.self.items (omega (arith, c.len-count.ensures, ap length c.self.view_is, c.if-count-eq0.true)))) c.append_chunk.ensures.ok

pub put-requires-clause-index : goal.put-requires-clause-index
put-requires-clause-index g c =
    let some : c.len-count.result ≡ 0 → ⊥ = c.if-count-eq0.false in
    omega (arith, some, c.len-count.ensures, ap length c.self.view_is)

pub put-requires-clause-offset : goal.put-requires-clause-offset
put-requires-clause-offset g c = omega (arith, ap length c.chunk-offset.ensures.items, ap (λ ls. length (list_at (c.len-count.result - 1) ls)) c.self.view_is)

pub put-requires-clause-few : goal.put-requires-clause-few
put-requires-clause-few g c = omega (arith, c.len.ensures.count, c.if-len-ge-MOST_ITEMS.false)

pub returns-clause-ok : goal.returns-clause-ok
returns-clause-ok g c =
    let ls = c.args.self.now in
    let i : ℕ = c.len-count.result - 1 in
    let some : c.len-count.result ≡ 0 → ⊥ = c.if-count-eq0.false in
    let last : i + 1 ≡ length ls = omega (arith, some, c.len-count.ensures, ap length c.self.view_is) in
    on_ok_weaker c.put.result
    (λ of. of ∙ inserted_last (joined ls) _ c.args.item (omega (arith, end_at ls i last, ap length c.chunk-offset.ensures.items, ap (λ ks. length (list_at i ks)) c.self.view_is))) c.put.ensures.ok
