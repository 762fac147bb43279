use Rattle.std.proofs.Common.{◌≡◌, ◌∷◌, ◌++◌, [], List, ℕ, Some, length, refl, sym, ap, ◌∙◌, arith}
use Rattle.std.{specs.Prelude.slice_get, proofs.lemmas.List.{get_or_push, length_push}, proofs.lemmas.Option.slice_get_read}
use Rattle.feed_reader.proofs.numbered.NumberedTexts.number.Goals.{in-Err, in_default-find}
use Rattle.feed_reader.proofs.numbered.NumberedTexts.number.Goals as goal

pub returns-clause-number : goal.returns-clause-number
returns-clause-number c =
    let number = c.len-number.result in
    let front = c.self-2.inside.texts.items in
    let text = c.of.result in
    let same : c.match-find-2.self ≡ c.make_room.new.self = elim c.match-find-2.branch [ in-Err w ↦ w.self-is ∙ w.enter.ensures | in_default-find w ↦ w.self-is ] in
    let long : length front ≡ number = omega (arith, ap length (c.self-2.view_is ∙ same ∙ sym c.self.view_is), c.len-number.ensures, c.self.inside.texts.ok.0) in
    ap (λ (all : List (List ℕ)). slice_get all number) c.in_ok-push.ensures.items
    ∙ slice_get_read (front ++ text ∷ []) (length (front ++ text ∷ [])) number text refl (omega (arith, long, length_push front text)) (sym (get_or_push front text text number long))
    ∙ ap Some (c.of.ensures ∙ c.in_ok-from_str.ensures.ok)
