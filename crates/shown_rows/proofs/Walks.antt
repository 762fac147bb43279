-- Lists that are walked from the front.
use Rattle.std.proofs.Common.{◌≡◌, refl, ap, sym, ◌∙◌, subst, Bool, cond, ℕ, zero, suc, ◌+◌, ◌^◌, ◌<◌, arith, add-one, ap₂, List, [], ◌∷◌, ◌++◌, map, filter, take, length, Some}
use Rattle.std.{specs.Iterator.{Yields, YieldsFirst}, specs.Prelude.slice_get, specs.List.AllByRecursion, proofs.lemmas.List.append-nil, proofs.lemmas.List.Elements.filter-append, proofs.lemmas.Option.{none-some, same_Some}}
use Rattle.key_lists.{specs.Keys.IsRising, proofs.Every.{every-map, every_unmapped, every-filter}}
use Rattle.row_set.specs.Sets.{IsKeySet}
use Rattle.shift_data.specs.Moves.{pairs_of}
use Rattle.tick_model.{specs.declared.update.KeyPair.KeyPair, specs.Updates.{new_keys, old_keys}}

-- one element more
take_suc : {X : Type 0} (xs : List X) (n : ℕ) (x : X) → slice_get xs n ≡ Some x → take (suc n) xs ≡ take n xs ++ x ∷ []
take_suc [] n x e = absurd (none-some x e)
take_suc (y ∷ ys) zero x e = ap (λ first. first ∷ []) (same_Some _ _ e)
take_suc (y ∷ ys) (suc n) x e = ap (λ rest. y ∷ rest) (take_suc ys n x e)

pub take_next : {X : Type 0} (xs : List X) (n : ℕ) (x : X) → slice_get xs n ≡ Some x → take (n + 1) xs ≡ take n xs ++ x ∷ []
take_next xs n x e = ap (λ k. take k xs) (add-one n) ∙ take_suc xs n x e

-- what holds of all elements holds of the one at a place
pub of_place : {X : Type 0} (P : X → Type 0) (n : ℕ) (xs : List X) (x : X) → AllByRecursion P xs → slice_get xs n ≡ Some x → P x
of_place P n [] x h e = absurd (none-some x e)
of_place P zero (y ∷ ys) x h e = subst P (same_Some _ _ e) h.0
of_place P (suc n) (y ∷ ys) x h e = of_place P n ys x h.1 e

-- of elements whose numbers rise, those before one
at_seam : {X : Type 0} (P : X → Type 0) (some : List X) (x : X) (others : List X) → AllByRecursion P (some ++ x ∷ others) → P x
at_seam P [] x others h = h.0
at_seam P (y ∷ some) x others h = at_seam P some x others h.1

below_next : {X : Type 0} (f : X → ℕ) (some : List X) (x : X) (others : List X) → IsRising (map f (some ++ x ∷ others)) → AllByRecursion (λ y. f y < f x) some
below_next f [] x others r = tt
below_next f (y ∷ some) x others r = (at_seam (λ z. f y < f z) some x others (every_unmapped (λ k. f y < k) f (some ++ x ∷ others) r.0), below_next f some x others r.1)

-- the pairs that a `for` has been given, of all of them
abbrev HasYielded : List KeyPair → List KeyPair → List KeyPair → Type 0
HasYielded = Yields (YieldsFirst {A = KeyPair} (λ pairs. pairs))

in_turn : (from yielded left : List KeyPair) → HasYielded from yielded left → from ≡ yielded ++ left
in_turn from [] left y = y
in_turn from (pair ∷ yielded) left y = y.1 ∙ ap (λ pairs. pair ∷ pairs) (in_turn y.0 yielded left y.2)

module _ {pairs from left : List KeyPair} (yielded : List KeyPair) (gives : (from ≡ pairs) × IsKeySet (old_keys pairs) × IsKeySet (new_keys pairs)) (y : HasYielded from yielded left) where
  pub pairs_all : left ≡ [] → yielded ≡ pairs
  pairs_all none = sym (append-nil yielded) ∙ ap (λ rest. yielded ++ rest) (sym none) ∙ sym (in_turn from yielded left y) ∙ gives.0

  module _ {others : List KeyPair} {pair : KeyPair} (next : left ≡ pair ∷ others) where
    pub pairs_next : pairs ≡ yielded ++ pair ∷ others
    pairs_next = sym gives.0 ∙ in_turn from yielded left y ∙ ap (λ rest. yielded ++ rest) next

    pub pair_has : (P : KeyPair → Type 0) → AllByRecursion P pairs → P pair
    pair_has P all = at_seam P yielded pair others (subst (AllByRecursion P) pairs_next all)

    pub old_small : pair.old < 2 ^ 62
    old_small = pair_has (λ pair. pair.old < 2 ^ 62) (every_unmapped (λ key. key < 2 ^ 62) (λ (pair : KeyPair). pair.old) pairs gives.1.small)

    pub new_small : pair.new < 2 ^ 62
    new_small = pair_has (λ pair. pair.new < 2 ^ 62) (every_unmapped (λ key. key < 2 ^ 62) (λ (pair : KeyPair). pair.new) pairs gives.2.small)

    above : (f : KeyPair → ℕ) → IsRising (map f pairs) → (test : KeyPair → Bool) (made : List KeyPair) → made ≡ filter test yielded → AllByRecursion (λ key. key < f pair) (map f made)
    above f rising test made so_far =
        subst (λ some. AllByRecursion (λ key. key < f pair) (map f some)) (sym so_far)
        (every-map (λ key. key < f pair) f (filter test yielded) (every-filter (λ other. f other < f pair) test yielded (below_next f yielded pair others (subst (λ pairs. IsRising (map f pairs)) pairs_next rising))))

    pub old_above : (test : KeyPair → Bool) (made : List KeyPair) → made ≡ filter test yielded → AllByRecursion (λ key. key < pair.old) (old_keys made)
    old_above = above (λ pair. pair.old) gives.1.rising

    pub new_above : (test : KeyPair → Bool) (made : List KeyPair) → made ≡ filter test yielded → AllByRecursion (λ key. key < pair.new) (new_keys made)
    new_above = above (λ pair. pair.new) gives.2.rising

-- those that pass a test, with one more
pub chosen_more : {X : Type 0} (test : X → Bool) (some : List X) (x : X) (found more : List X) (wanted : Bool) → found ≡ filter test some → wanted ≡ test x → more ≡ found ++ cond wanted (x ∷ []) [] → more ≡ filter test (some ++ x ∷ [])
chosen_more test some x found more wanted so_far is last = last ∙ ap₂ (λ xs b. xs ++ cond b (x ∷ []) []) so_far is ∙ sym (filter-append test some (x ∷ []))

pub chosen_below : (test : ℕ → Bool) (some found : List ℕ) (key : ℕ) → AllByRecursion (λ other. other < key) some → found ≡ filter test some → AllByRecursion (λ other. other < key) found
chosen_below test some found key below so_far = subst (AllByRecursion (λ other. other < key)) (sym so_far) (every-filter (λ other. other < key) test some below)

-- pairs of two lists of one length
pub pairs_of-last : (old new : List ℕ) (pair : KeyPair) → length old ≡ length new → pairs_of (old ++ pair.old ∷ []) (new ++ pair.new ∷ []) ≡ pairs_of old new ++ pair ∷ []
pairs_of-last [] [] pair e = refl
pairs_of-last [] (l ∷ new) pair e = absurd (omega (arith, e))
pairs_of-last (k ∷ old) [] pair e = absurd (omega (arith, e))
pairs_of-last (k ∷ old) (l ∷ new) pair e = ap (λ rest. (let first : KeyPair = record { old = k; new = l } in first) ∷ rest) (pairs_of-last old new pair (omega (arith, e)))
