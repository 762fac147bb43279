-- Orders from which entries are taken one by one.
use Rattle.std.proofs.Common.{◌≡◌, refl, ap, sym, ◌∙◌, subst, true, false, cond, not, ◌&&◌, ◌||◌, ℕ, ◌+◌, ◌<◌, List, [], ◌∷◌, ◌++◌, length, take, get_or, filter, Option, Some, None, inl, inr, ◌⊎◌}
use Rattle.std.{specs.Prelude.{remove, IfNone, IfSome}, specs.List.AllByRecursion, proofs.lemmas.Bool.cases_Bool, proofs.lemmas.List.take_more}
use Rattle.key_lists.{proofs.Every.{every, every_weaker, filter_all, filter_filter, filter_same}, proofs.Booleans.{or_assoc, neither, same_truth, or_false}}
use Rattle.tick_model.specs.declared.plan.SortBy.{SortBy}
use Rattle.sort_op.{specs.declared.entry.Entry.Entry, specs.Entries.{comes_before, is_in, is_same, place_of, Rises}, proofs.Comparing.{is_same_own, other_behind, same_is}, proofs.Rises.rises_back, proofs.Searches.{place_here, place_none}}

remove_between : {X : Type 0} (xs : List X) (x : X) (ys : List X) → remove (xs ++ x ∷ ys) (length xs) ≡ xs ++ ys
remove_between [] x ys = refl
remove_between (z ∷ xs) x ys = ap (λ zs. z ∷ zs) (remove_between xs x ys)

pub same_flip : (a b : Entry) → is_same a b ≡ is_same b a
same_flip a b = same_truth (is_same a b) (is_same b a) (λ e. ap (λ z. is_same b z) (same_is a b e) ∙ is_same_own b) (λ e. ap (λ z. is_same a z) (same_is b a e) ∙ is_same_own a)

-- the entries with another are those around it, or it is none of them
Around : Entry → List Entry → Type 0
Around entry entries = (front : List Entry) × ((x : Entry) × ((back : List Entry) × ((entries ≡ front ++ x ∷ back) × (AllByRecursion (λ y. is_same y entry ≡ false) front × (is_same x entry ≡ true)))))

around : (entry : Entry) (entries : List Entry) → AllByRecursion (λ y. is_same y entry ≡ false) entries ⊎ Around entry entries
unfolding Around
around entry [] = inl tt
around entry (x ∷ entries) =
    elim (cases_Bool (is_same x entry)) [
      | inl same ↦ inr ([], (x, (entries, (refl, (tt, same)))))
      | inr other ↦
          elim (around entry entries) [
            | inl others ↦ inl (other, others)
            | inr split ↦ inr (x ∷ split.0, (split.1.0, (split.1.1.0, (ap (λ ys. x ∷ ys) split.1.1.1.0, ((other, split.1.1.1.1.0), split.1.1.1.1.1)))))
          ]
    ]

keep_others : (entry : Entry) (entries : List Entry) → AllByRecursion (λ y. is_same y entry ≡ false) entries → filter (λ x. not (is_same x entry)) entries ≡ entries
keep_others entry entries h = filter_same (λ x. not (is_same x entry)) (λ _. true) entries (every_weaker (λ y. is_same y entry ≡ false) (λ y. not (is_same y entry) ≡ true) entries (λ y e. ap not e) h) ∙ filter_all entries

keep_around : (entry x : Entry) (front back : List Entry) → AllByRecursion (λ y. is_same y entry ≡ false) front → is_same x entry ≡ true → AllByRecursion (λ y. is_same y entry ≡ false) back → filter (λ x. not (is_same x entry)) (front ++ x ∷ back) ≡ front ++ back
keep_around entry x [] back h same k = ap (λ b. cond (not b) (x ∷ filter (λ x. not (is_same x entry)) back) (filter (λ x. not (is_same x entry)) back)) same ∙ keep_others entry back k
keep_around entry x (y ∷ front) back h same k =
    ap (λ b. cond (not b) (y ∷ filter (λ x. not (is_same x entry)) (front ++ x ∷ back)) (filter (λ x. not (is_same x entry)) (front ++ x ∷ back))) h.0
    ∙ ap (λ ys. y ∷ ys) (keep_around entry x front back h.1 same k)

-- an order without an entry
pub removed_is : (by : List SortBy) (entry : Entry) (old new : List Entry) (place : Option ℕ) → Rises by old → place ≡ place_of entry old → IfSome place (λ n. new ≡ remove old n) → IfNone place (new ≡ old) → new ≡ filter (λ x. not (is_same x entry)) old
unfolding Around
removed_is by entry old new place rises is some none =
    elim (around entry old) [
      | inl others ↦ subst (λ o. IfNone o (new ≡ old)) (is ∙ place_none entry old others) none ∙ sym (keep_others entry old others)
      | inr split ↦
          let front = split.0 in
          let x = split.1.0 in
          let back = split.1.1.0 in
          let e = split.1.1.1.0 in
          let whole = subst (Rises by) e rises in
          let later : AllByRecursion (λ y. comes_before by x y ≡ true) back = (rises_back by front (x ∷ back) whole).0 in
          let at : place ≡ Some (length front) = is ∙ ap (place_of entry) e ∙ place_here entry front x back split.1.1.1.1.0 split.1.1.1.1.1 in
          subst (λ o. IfSome o (λ n. new ≡ remove old n)) at some
          ∙ ap (λ xs. remove xs (length front)) e
          ∙ remove_between front x back
          ∙ sym (keep_around entry x front back split.1.1.1.1.0 split.1.1.1.1.1 (every_weaker (λ y. comes_before by x y ≡ true) (λ y. is_same y entry ≡ false) back (λ y h. ap (is_same y) (sym (same_is x entry split.1.1.1.1.1)) ∙ other_behind by y x h) later))
          ∙ ap (filter (λ x. not (is_same x entry))) (sym e)
    ]

pub in_more : (entry : Entry) (entries : List Entry) (more : Entry) → is_in entry (entries ++ more ∷ []) ≡ (is_in entry entries || is_same more entry)
in_more entry [] more = or_false (is_same more entry)
in_more entry (x ∷ entries) more = ap (λ b. is_same x entry || b) (in_more entry entries more) ∙ or_assoc (is_same x entry) (is_in entry entries) (is_same more entry)

-- one entry after the other
pub removed_more : (by : List SortBy) (all leaving old new : List Entry) (i : ℕ) (entry : Entry) (place : Option ℕ) → i < length leaving → entry ≡ get_or leaving i entry → old ≡ filter (λ x. not (is_in x (take i leaving))) all → Rises by old
    → place ≡ place_of entry old → IfSome place (λ n. new ≡ remove old n) → IfNone place (new ≡ old) → new ≡ filter (λ x. not (is_in x (take (i + 1) leaving))) all
removed_more by all leaving old new i entry place lt at so rises is some none =
    removed_is by entry old new place rises is some none
    ∙ ap (filter (λ x. not (is_same x entry))) so
    ∙ filter_filter (λ x. not (is_same x entry)) (λ x. not (is_in x (take i leaving))) all
    ∙ filter_same (λ x. not (is_in x (take i leaving)) && not (is_same x entry)) (λ x. not (is_in x (take (i + 1) leaving))) all
    (every (λ x. (not (is_in x (take i leaving)) && not (is_same x entry)) ≡ not (is_in x (take (i + 1) leaving))) all
    (λ x. neither (is_in x (take i leaving)) (is_same x entry) ∙ ap not (ap (λ b. is_in x (take i leaving) || b) (same_flip x entry) ∙ sym (in_more x (take i leaving) entry) ∙ ap (is_in x) (ap (λ y. take i leaving ++ y ∷ []) at ∙ sym (take_more leaving i entry lt)))))

-- before the first
pub removed_none : (all leaving : List Entry) → all ≡ filter (λ x. not (is_in x (take 0 leaving))) all
removed_none all leaving = sym (filter_all all)

pub none_entries : {X Y : Type 0} (f : X → Y) (place : Option ℕ) (a b : X) → IfNone place (a ≡ b) → IfNone place (f a ≡ f b)
none_entries f None a b e = ap f e
none_entries f (Some n) a b e = tt
