use Rattle.std.proofs.Common.{◌<◌, ap, length, subst, sym, take, ◌∙◌}
use Rattle.std.{specs.Global.Vec, proofs.lemmas.List.take-map}
use Rattle.key_lists.proofs.Parts.{every-take}
use Rattle.chunk_list.specs.Chunked.{AreFilled, contents}
use Rattle.chunk_list.proofs.chunks.Chunks.truncate.Goals as goal

pub invariant_of-self : goal.invariant_of-self
invariant_of-self g c =
    let chunks = c.self.inside.chunks.items in
    subst AreFilled (sym (ap contents c.truncate.ensures.items ∙ sym (take-map (λ (chunk : Vec _). chunk.items) c.args.count chunks))) (every-take (λ l. 0 < length l) c.args.count (contents chunks) c.self.invariant)

pub returns : goal.returns
returns g c =
    ap contents c.truncate.ensures.items
    ∙ sym (take-map (λ (chunk : Vec _). chunk.items) c.args.count c.self.inside.chunks.items)
    ∙ ap (take c.args.count) c.self.view_is
