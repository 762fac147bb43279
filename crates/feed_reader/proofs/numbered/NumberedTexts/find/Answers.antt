use Rattle.std.proofs.Common.{◌≡◌, ◌<◌, List, ℕ, Some, length, refl, sym, ap, ◌∙◌, arith}
use Rattle.std.{specs.Prelude.slice_get, proofs.lemmas.Option.slice_get_read, proofs.lemmas.Slice.Eq.bytes_eq-Decides}
use Rattle.feed_reader.proofs.numbered.NumberedTexts.find.Goals as goal

pub returns-in-Some-get-clause-number : goal.returns-in-Some-get-clause-number
returns-in-Some-get-clause-number c =
    let texts = c.deref-in-loop.result.now in
    let number = c.in-Some.number.now in
    let own = c.in-Some-get.own.now in
    let same : own ≡ c.args.text.now = sym c.as_str.ensures ∙ (bytes_eq-Decides c.as_str.result.now c.args.text.now).0 (sym c.eq.ensures ∙ c.if-eq.true) in
    ap (λ (all : List (List ℕ)). slice_get all number) (sym (c.deref-in-loop.ensures.value ∙ c.self.view_is))
    ∙ slice_get_read texts (length texts) number own refl c.in-Some-get.ensures.lookup.3.0 c.in-Some-get.ensures.lookup.1
    ∙ ap Some same

pub returns-in-Some-get-clause-small : goal.returns-in-Some-get-clause-small
returns-in-Some-get-clause-small c = let within : c.in-Some.number.now < length c.deref-in-loop.result.now = c.in-Some-get.ensures.lookup.3.0 in omega (arith, within)
