use Rattle.std.proofs.Common.{◌-◌, ◌<◌, ap, arith, length, refl, sym, ◌∙◌, ℕ}
use Rattle.std.specs.Prelude.{slice_get}
use Rattle.chunk_list.{specs.Chunked.{contents, joined}, proofs.Joined.{from_got, last_in, length-lists, own_list}}
use Rattle.chunk_list.proofs.chunks.Chunks.last.Goals as goal

pub returns : goal.returns
returns g c =
    let chunks = c.self.inside.chunks.items in
    let i : ℕ = length chunks - 1 in
    let got = from_got chunks i c.in_ok-items.items.now (sym (c.in_ok-items.ensures.value ∙ ap (λ cs. slice_get cs (length cs - 1)) c.deref.ensures.value)) in
    let lt : i < length (contents chunks) = omega (arith, got.0, length-lists chunks) in
    c.last-2.ensures.value
    ∙ ap (λ xs. slice_get xs (length xs - 1)) (c.deref-2.ensures.value ∙ sym (own_list chunks (contents chunks) i c.in_ok-items.items.now refl lt got.1))
    ∙ last_in (contents chunks) i (omega (arith, lt, length-lists chunks)) c.self.invariant
    ∙ ap (λ ls. slice_get (joined ls) (length (joined ls) - 1)) c.self.view_is
