-- The keys that a `for` over a set has been given, of all of them.
use Rattle.std.proofs.Common.{◌≡◌, refl, ap, ap₂, sym, ◌∙◌, subst, false, ◌||◌, ℕ, ◌^◌, ◌<◌, arith, List, [], ◌∷◌, ◌++◌, append-nil}
use Rattle.std.{specs.Iterator.{Yields, YieldsFirst}, specs.List.AllByRecursion, proofs.lemmas.Bool.ne_eqb}
use Rattle.key_lists.specs.Keys.{IsRising, is_among}
use Rattle.row_set.{specs.Sets.IsKeySet, proofs.Windows.rising_before}

-- an iterator over some keys has yielded these, and has others left
abbrev HasYielded : List ℕ → List ℕ → List ℕ → Type 0
HasYielded = Yields (YieldsFirst {A = ℕ} (λ keys. keys))

in_turn : (from yielded left : List ℕ) → HasYielded from yielded left → from ≡ yielded ++ left
in_turn from [] left y = y
in_turn from (key ∷ yielded) left y = y.1 ∙ ap (λ keys. key ∷ keys) (in_turn y.0 yielded left y.2)

-- where none is left, these are all
pub yielded_all : {keys from left : List ℕ} (yielded : List ℕ) → (from ≡ keys) × IsKeySet keys → HasYielded from yielded left → left ≡ [] → yielded ≡ keys
yielded_all {from = from} {left = left} yielded gives y none = sym (append-nil yielded) ∙ ap (λ rest. yielded ++ rest) (sym none) ∙ sym (in_turn from yielded left y) ∙ gives.0

module _ {keys from left others : List ℕ} {key : ℕ} (yielded : List ℕ) (gives : (from ≡ keys) × IsKeySet keys) (y : HasYielded from yielded left) (next : left ≡ key ∷ others) where
  pub yielded_next : keys ≡ yielded ++ key ∷ others
  yielded_next = sym gives.0 ∙ in_turn from yielded left y ∙ ap (λ rest. yielded ++ rest) next

  pub next_has : (P : ℕ → Type 0) → AllByRecursion P keys → P key
  next_has P all = at yielded (subst (AllByRecursion P) yielded_next all)
    where
      at : (some : List ℕ) → AllByRecursion P (some ++ key ∷ others) → P key
      at [] h = h.0
      at (x ∷ some) h = at some h.1

  pub next_small : key < 2 ^ 62
  next_small = next_has (λ key. key < 2 ^ 62) gives.1.small

  -- the keys before it and those after it
  pub next_above : AllByRecursion (λ other. other < key) yielded
  next_above = rising_before yielded key others (subst IsRising yielded_next gives.1.rising)

  pub next_new : is_among key yielded ≡ false
  next_new = among_above yielded next_above
    where
      among_above : (some : List ℕ) → AllByRecursion (λ other. other < key) some → is_among key some ≡ false
      among_above [] below = refl
      among_above (other ∷ some) below = ap₂ (λ a b. a || b) (ne_eqb other key (λ (same : other ≡ key). omega (arith, same, below.0))) (among_above some below.1)
