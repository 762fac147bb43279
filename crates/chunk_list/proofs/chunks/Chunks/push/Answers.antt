use Rattle.std.proofs.Common.{◌≡◌, ◌+◌, ◌-◌, ◌∷◌, [], ap, arith, length, ◌∙◌, ℕ}
use Rattle.std.proofs.lemmas.Result.{on_ok_weaker}
use Rattle.chunk_list.{specs.Chunked.joined, proofs.Edits.inserted_last, proofs.Extended.joined_pushed, proofs.Searches.end_at}
use Rattle.chunk_list.proofs.chunks.Chunks.push.Goals as goal

pub returns-then-count-eq0-clause-ok : goal.returns-then-count-eq0-clause-ok
returns-then-count-eq0-clause-ok g c =
    on_ok_weaker c.begin.result (λ of. ap joined (of ∙ inserted_last c.args.self.now 0 (c.args.item ∷ []) (omega (arith, c.len-count.ensures, c.if-count-eq0.true))) ∙ joined_pushed c.args.self.now (c.args.item ∷ [])) c.begin.ensures.ok

pub returns-clause-ok : goal.returns-clause-ok
returns-clause-ok g c =
    let ls = c.args.self.now in
    let i : ℕ = c.len-count.result - 1 in
    let some : c.len-count.result ≡ 0 → ⊥ = c.if-count-eq0.false in
    let last : i + 1 ≡ length ls = omega (arith, some, c.len-count.ensures) in
    on_ok_weaker c.insert.result (λ of. of ∙ inserted_last (joined ls) _ c.args.item (omega (arith, end_at ls i last, ap length c.chunk-offset.ensures.items))) c.insert.ensures.items
