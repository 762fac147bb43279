use Rattle.std.proofs.Common.{◌≡◌, ap, sym, ◌∙◌, subst, List, ℕ, rules, tests}
use Rattle.std.{proofs.lemmas.Fn.always_returns_same, specs.Cmp.Lexicographic.slice_cmp, specs.Ordering.nat_cmp, specs.List.Sorted.IsBinarySearchResult}
use Rattle.update_text.proofs.ReadRows.{found_text}
use Rattle.update_text.proofs.read_rows.place_of_text.Goals as goal

pub returns-clause-told : goal.returns-clause-told
returns-clause-told c place texts less told =
    let by_field = c.binary_search_by.ensures.position (λ name. slice_cmp nat_cmp name c.args.field.now) (always_returns_same _ _ _ (λ a r q k. search (rules, tests))) in
    c.ok.ensures.value
    ∙ found_text c.args.texts.now place c.binary_search_by.result texts less c.binary_search_by.ensures.bound
    (subst (λ (field : List ℕ). IsBinarySearchResult (λ name. slice_cmp nat_cmp name field) c.args.texts.now c.binary_search_by.result) told by_field)
