use Rattle.std.proofs.Common.{◌∙◌, ap, arith, sym}
use Rattle.std.{specs.Prelude.insert, proofs.lemmas.Result.on_ok_weaker}
use Rattle.chunk_list.{specs.Chunked.joined, proofs.Edits.inserted_last}
use Rattle.chunk_list.proofs.list.ChunkList.insert.Goals as goal

pub returns-then-position-len-clause-ok : goal.returns-then-position-len-clause-ok
returns-then-position-len-clause-ok g c =
    on_ok_weaker c.push.result (λ of. of ∙ sym (inserted_last (joined c.args.self.now) c.args.position c.args.item (omega (arith, c.if-position-len.true, c.len.ensures.count)))) c.push.ensures.ok

pub returns-clause-ok : goal.returns-clause-ok
returns-clause-ok g c =
    on_ok_weaker c.put.result (λ of. of ∙ ap (λ n. insert (joined c.args.self.now) n c.args.item) c.find-place.ensures.position_is) c.put.ensures.ok
