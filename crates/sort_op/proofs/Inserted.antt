-- Orders into which entries are put one by one.
use Rattle.std.proofs.Common.{◌≡◌, refl, ap, ap₂, sym, ◌∙◌, subst, Bool, true, false, cond, ◌||◌, ℕ, ◌+◌, ◌≤◌, arith, List, [], ◌∷◌, ◌++◌, take, drop, take-append-drop, None, inl, inr}
use Rattle.std.{specs.Prelude.{count_by, insert}, specs.List.AllByRecursion, specs.List.Sorted.IsPermutation, proofs.lemmas.Bool.{cases_Bool, or_parts}, proofs.lemmas.List.Elements.recursion_from_All, proofs.lemmas.List.Folds.list_any-append, proofs.lemmas.List.Sorted.{All-permutation, list_any-IsPermutation, sum_by-IsPermutation}, proofs.lemmas.List.Sums.sum_by-append}
use Rattle.key_lists.{proofs.Every.{all_from, every_both}, proofs.Parts.{every_front, every_back}}
use Rattle.sort_op.{specs.declared.entry.Entry.Entry, specs.Entries.{is_in, is_same, place_of, AreDistinct}, proofs.Batched.{in_more, same_flip}, proofs.Comparing.is_same_own, proofs.Searches.place_none}

-- an entry that is not in has no place
pub in_none : (entry : Entry) (entries : List Entry) → is_in entry entries ≡ false → AllByRecursion (λ other. is_same other entry ≡ false) entries
in_none entry [] e = tt
in_none entry (other ∷ others) e = let parts = or_parts (is_same other entry) (is_in entry others) e in (parts.0, in_none entry others parts.1)

pub place_out : (entry : Entry) (entries : List Entry) → is_in entry entries ≡ false → place_of entry entries ≡ None
place_out entry entries e = place_none entry entries (in_none entry entries e)

-- what is in with an entry more
pub in_insert : (x : Entry) (entries : List Entry) (place : ℕ) (entry : Entry) → is_in x (insert entries place entry) ≡ (is_in x entries || is_same entry x)
in_insert x entries place entry =
    list_any-append (λ other. is_same other x) (take place entries) (entry ∷ drop place entries)
    ∙ moved (is_in x (take place entries)) (is_same entry x) (is_in x (drop place entries))
    ∙ ap (λ b. b || is_same entry x) (sym (list_any-append (λ other. is_same other x) (take place entries) (drop place entries)) ∙ ap (is_in x) (take-append-drop place entries))
  where
    moved : (a b c : Bool) → (a || (b || c)) ≡ ((a || c) || b)
    moved true b c = refl
    moved false true true = refl
    moved false true false = refl
    moved false false true = refl
    moved false false false = refl

-- what is in an order or in those that are to come stays so
pub in_step : (x : Entry) (old : List Entry) (place : ℕ) (entry : Entry) (rest : List Entry) → (is_in x (insert old place entry) || is_in x rest) ≡ (is_in x old || is_in x (rest ++ entry ∷ []))
in_step x old place entry rest =
    ap (λ b. b || is_in x rest) (in_insert x old place entry)
    ∙ turned (is_in x old) (is_same entry x) (is_in x rest)
    ∙ ap (λ b. is_in x old || b) (sym (in_more x rest entry))
  where
    turned : (a b c : Bool) → ((a || b) || c) ≡ (a || (c || b))
    turned true b c = refl
    turned false true true = refl
    turned false true false = refl
    turned false false true = refl
    turned false false false = refl

-- none of the others is the last of distinct entries
count_none : (p : Entry → Bool) (entries : List Entry) → count_by p entries ≤ 0 → AllByRecursion (λ other. p other ≡ false) entries
count_none p [] h = tt
count_none p (x ∷ entries) h =
    let parts : count_by p (x ∷ entries) ≡ count_by p (x ∷ []) + count_by p entries = sum_by-append (λ other. cond (p other) 1 0) (x ∷ []) entries in
    elim (cases_Bool (p x)) [
      | inl passes ↦ absurd (let one : count_by p (x ∷ []) ≡ 1 = ap (λ b. 0 + cond b 1 0) passes in omega (arith, h, parts, one))
      | inr fails ↦ (fails, count_none p entries (omega (arith, h, parts)))
    ]

count_own : (entry : Entry) → count_by (λ other. is_same other entry) (entry ∷ []) ≡ 1
count_own entry = ap (λ b. 0 + cond b 1 0) (is_same_own entry)

pub others_than_last : (entries : List Entry) (entry : Entry) → AreDistinct (entries ++ entry ∷ []) → AllByRecursion (λ other. is_same other entry ≡ false) entries
others_than_last entries entry h =
    count_none (λ other. is_same other entry) entries
    (omega (arith, h entry, sum_by-append (λ other. cond (is_same other entry) 1 0) entries (entry ∷ []), count_own entry))

pub others_than_first : (front : List Entry) (entry : Entry) (entries : List Entry) → AreDistinct (front ++ entry ∷ entries) → AllByRecursion (λ other. is_same other entry ≡ false) entries
others_than_first front entry entries h =
    count_none (λ other. is_same other entry) entries
    (omega (arith, h entry, sum_by-append (λ other. cond (is_same other entry) 1 0) front (entry ∷ entries), sum_by-append (λ other. cond (is_same other entry) 1 0) (entry ∷ []) entries, count_own entry))

pub distinct_front : (entries : List Entry) (entry : Entry) → AreDistinct (entries ++ entry ∷ []) → AreDistinct entries
distinct_front entries entry h x = omega (arith, h x, sum_by-append (λ other. cond (is_same other x) 1 0) entries (entry ∷ []))

-- entries that are not in stay out
pub out_step : (old : List Entry) (place : ℕ) (entry : Entry) (rest : List Entry) → AreDistinct (rest ++ entry ∷ []) → AllByRecursion (λ x. is_in x old ≡ false) (rest ++ entry ∷ []) → AllByRecursion (λ x. is_in x (insert old place entry) ≡ false) rest
out_step old place entry rest distinct out =
    every_both (λ x. is_in x old ≡ false) (λ x. is_same x entry ≡ false) (λ x. is_in x (insert old place entry) ≡ false) rest
    (λ x e f. in_insert x old place entry ∙ ap₂ (λ a b. a || b) e (same_flip entry x ∙ f))
    (every_front (λ x. is_in x old ≡ false) rest (entry ∷ []) out) (others_than_last rest entry distinct)

pub last_has : (P : Entry → Type 0) (rest : List Entry) (entry : Entry) → AllByRecursion P (rest ++ entry ∷ []) → P entry
last_has P rest entry h = (every_back P rest (entry ∷ []) h).0

-- entries in another order
pub every_permuted : {X : Type 0} (P : X → Type 0) (xs ys : List X) → IsPermutation xs ys → AllByRecursion P xs → AllByRecursion P ys
every_permuted P xs ys h all = recursion_from_All P ys (All-permutation P xs ys h (all_from P xs all))

pub distinct_permuted : (xs ys : List Entry) → IsPermutation xs ys → AreDistinct xs → AreDistinct ys
distinct_permuted xs ys h distinct x = subst (λ n. n ≤ 1) (sym (sum_by-IsPermutation (λ other. cond (is_same other x) 1 0) xs ys h)) (distinct x)

pub in_permuted : (xs ys : List Entry) → IsPermutation xs ys → (x : Entry) → is_in x ys ≡ is_in x xs
in_permuted xs ys h x = sym (list_any-IsPermutation (λ other. is_same other x) xs ys h)
