use Rattle.std.proofs.Common.{◌≡◌, ap, ◌∙◌, length, rules, tests}
use Rattle.std.{specs.List.position_or_len, specs.Prelude.unwrap_or, proofs.lemmas.Iterator.YieldsList-from_slice, proofs.lemmas.Iterator.Search.position_from_yields_List, proofs.lemmas.List.Sums.prefix_len-le-length}
use Rattle.update_text.{specs.Reading.is_end, proofs.ReadFields.place_or_length}
use Rattle.update_text.proofs.read_fields.length_of_plain.Goals as goal

pub returns-clause-place : goal.returns-clause-place
returns-clause-place c =
    let bytes = c.args.bytes.now in
    c.unwrap_or.ensures
    ∙ ap (λ place. unwrap_or place (length bytes)) (position_from_yields_List is_end _ _ _ c.position.ensures.ran (YieldsList-from_slice bytes cc) (λ x b q k. search (rules, tests)))
    ∙ place_or_length (position_or_len is_end bytes) (length bytes) (prefix_len-le-length _ bytes)
