-- Texts that rise and names that are distinct are apart.
use Rattle.std.proofs.Common.{◌≡◌, ap, sym, ◌∙◌, true, false, true≢false, not, ℕ, List, [], ◌∷◌}
use Rattle.std.{specs.List.AllByRecursion, specs.Ordering.{nat_cmp, is_lt, ordering_reverse}, specs.declared.cmp.Ordering.Ordering, specs.declared.cmp.Ordering.TheVariants.{Less, Equal, Greater}, specs.Cmp.Lexicographic.{slice_cmp, nat_list_cmp_total, bytes_decides}, proofs.lemmas.Bool.{or_parts, and_parts, not-true}}
use Rattle.key_lists.proofs.Every.{every_weaker}
use Rattle.tick_model.{specs.LawfulRuns.{AreTexts, is_before}, specs.Names.{are_distinct, is_one_of, same_name}}
use Rattle.update_text.proofs.Backwards.{AreApart}

-- what is its own reverse is not less
not_less : (o : Ordering) → o ≡ ordering_reverse o → is_lt o ≡ true → ⊥
not_less Less e h = cc
not_less Equal e h = true≢false (sym h)
not_less Greater e h = true≢false (sym h)

-- no text is before itself
not_before : (a b : List ℕ) → is_before a b ≡ true → a ≡ b → ⊥
not_before a b h e =
    not_less (slice_cmp nat_cmp a a) (nat_list_cmp_total.antisymm a a) (ap (is_before a) e ∙ h)

pub texts_apart : (texts : List (List ℕ)) → AreTexts texts → AreApart texts
texts_apart [] h = tt
texts_apart (text ∷ texts) h = (every_weaker (λ later. is_before text later ≡ true) (λ later. text ≡ later → ⊥) texts (λ later before. not_before text later before) h.1, texts_apart texts h.2)

-- none of the names is this one
none_same : (name : List ℕ) (names : List (List ℕ)) → is_one_of names name ≡ false → AllByRecursion (λ other. name ≡ other → ⊥) names
none_same name [] h = tt
none_same name (other ∷ names) h =
    let parts = or_parts (same_name name other) (is_one_of names name) h in
    (λ e. true≢false (sym ((bytes_decides name other).1 e) ∙ parts.0), none_same name names parts.1)

pub names_apart : (names : List (List ℕ)) → are_distinct names ≡ true → AreApart names
names_apart [] h = tt
names_apart (name ∷ names) h =
    let parts = and_parts (not (is_one_of names name)) (are_distinct names) h in
    (none_same name names (not-true (is_one_of names name) parts.0), names_apart names parts.1)
