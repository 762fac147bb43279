use Rattle.std.proofs.Common.{◌∷◌, [], ◌++◌, ap, arith, length, ◌∙◌}
use Rattle.std.{specs.Prelude.insert, proofs.lemmas.Result.on_ok_weaker}
use Rattle.chunk_list.proofs.chunks.Chunks.begin.Goals as goal

pub insert_chunk-requires-clause-some : goal.insert_chunk-requires-clause-some
insert_chunk-requires-clause-some g c = omega (arith, ap length (c.in_ok-push.ensures.items ∙ ap (λ xs. xs ++ c.args.item ∷ []) c.new-items.ensures.items))

pub returns-clause-ok : goal.returns-clause-ok
returns-clause-ok g c =
    let one = c.in_ok-push.ensures.items ∙ ap (λ xs. xs ++ c.args.item ∷ []) c.new-items.ensures.items in
    on_ok_weaker c.insert_chunk.result (λ of. of ∙ ap (insert c.args.self.now c.args.index) one) c.insert_chunk.ensures.ok
