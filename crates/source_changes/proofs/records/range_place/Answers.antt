use Rattle.std.proofs.Common.{◌≡◌, ap, ◌∙◌, Bool, length, rules, tests, unwrap_or}
use Rattle.std.{specs.List.position, proofs.lemmas.Iterator.YieldsList-from_slice, proofs.lemmas.Iterator.Search.position_from_yields_List}
use Rattle.tick_model.{specs.Sources.is_within, specs.declared.update.KeyRange.KeyRange}
use Rattle.source_changes.proofs.Placed.{place_or_all}
use Rattle.source_changes.proofs.records.range_place.Goals as goal

pub returns : goal.returns
returns c =
    let all = c.args.ranges.now in
    let test : KeyRange → Bool = λ range. is_within range c.args.key in
    let found : c.position.result ≡ position test all =
    position_from_yields_List test _ _ c.position.result c.position.ensures.ran (YieldsList-from_slice all cc) (λ x b q k. search (rules, tests)) in
    c.unwrap_or.ensures ∙ ap (λ o. unwrap_or o (length all)) found ∙ place_or_all test all
