-- Numbers of several inputs, each input's in a region of its own.
use Rattle.std.proofs.Common.{◌≡◌, refl, ap, ap₂, sym, ◌∙◌, true, false, not, ◌||◌, ℕ, ◌+◌, ◌<◌, ◌≤◌, ◌==◌, arith, List, [], ◌∷◌, ◌++◌, map, filter}
use Rattle.std.{specs.List.AllByRecursion, proofs.lemmas.Bool.{eqb-true, eqb-false, eq-eqb, ne_eqb}, proofs.lemmas.List.Elements.filter-append}
use Rattle.key_lists.{specs.Keys.{is_among, without}, proofs.Among.{among-append, among_below, among_above}, proofs.Every.{every, every_both, every_weaker, every-append, every-map, filter-map, filter_same}, proofs.Booleans.or_false}
use Rattle.tick_table.specs.Ticking.{Ticking}
use Rattle.merge_op.specs.Regions.{in_regions}

-- two keys that are moved on by as many are equal where they were
pub same_plus : (from x key : ℕ) → (x + from == key + from) ≡ (x == key)
same_plus from x key =
    (elim (x == key) as (λ b. (x == key) ≡ b → (x + from == key + from) ≡ b) [
      | true ↦ λ e. eq-eqb (x + from) (key + from) (ap (λ k. k + from) (eqb-true x key e))
      | false ↦ λ e. ne_eqb (x + from) (key + from) (λ same. eqb-false x key e (let equal : x ≡ key = omega (arith, same) in equal))
    ]) refl

pub among_plus : (from key : ℕ) (xs : List ℕ) → is_among (key + from) (map (λ k. k + from) xs) ≡ is_among key xs
among_plus from key [] = refl
among_plus from key (x ∷ xs) = ap₂ (λ a b. a || b) (same_plus from x key) (among_plus from key xs)

-- a key above others, or below them, is none of them
pub among_under : (bound key : ℕ) (xs : List ℕ) → AllByRecursion (λ x. bound ≤ x) xs → key < bound → is_among key xs ≡ false
among_under bound key xs h below = among_below key xs (every_weaker (λ x. bound ≤ x) (λ x. key < x) xs (λ x past. let above : key < x = omega (arith, past, below) in above) h)

-- what holds of the first numbers where they are moved on
pub all_plus : (from room : ℕ) (xs : List ℕ) → AllByRecursion (λ k. k < room) xs → AllByRecursion (λ k. k < from + room) (map (λ k. k + from) xs)
all_plus from room xs h = every-map (λ k. k < from + room) (λ k. k + from) xs (every_weaker (λ k. k < room) (λ k. k + from < from + room) xs (λ k less. omega (arith, less)) h)

module _ (room : Ticking → ℕ) where
  -- the numbers are below each input's room
  abbrev pub AreBelow : (Ticking → List ℕ) → List Ticking → Type 0
  AreBelow part = AllByRecursion (λ t. AllByRecursion (λ k. k < room t) (part t))

  pub regions_above : (part : Ticking → List ℕ) (from : ℕ) (ts : List Ticking) → AllByRecursion (λ k. from ≤ k) (in_regions part room from ts)
  regions_above part from [] = tt
  regions_above part from (t ∷ ts) =
      every-append (λ k. from ≤ k) (map (λ k. k + from) (part t)) (in_regions part room (from + room t) ts)
      (every-map (λ k. from ≤ k) (λ k. k + from) (part t) (every (λ k. from ≤ k + from) (part t) (λ k. omega arith)))
      (every_weaker (λ k. from + room t ≤ k) (λ k. from ≤ k) (in_regions part room (from + room t) ts) (λ k h. omega (arith, h)) (regions_above part (from + room t) ts))

  -- a number of the first input is one in all regions where it is one in the first
  pub among_first : (part : Ticking → List ℕ) (from key : ℕ) (t : Ticking) (ts : List Ticking) → key < room t → is_among (key + from) (in_regions part room from (t ∷ ts)) ≡ is_among key (part t)
  among_first part from key t ts below =
      among-append (key + from) (map (λ k. k + from) (part t)) (in_regions part room (from + room t) ts)
      ∙ ap₂ (λ a b. a || b) (among_plus from key (part t)) (among_under (from + room t) (key + from) (in_regions part room (from + room t) ts) (regions_above part (from + room t) ts) (let less : key + from < from + room t = omega (arith, below) in less))
      ∙ or_false (is_among key (part t))

  -- and one of another input where it is one in the other regions
  pub among_others : (part : Ticking → List ℕ) (from key : ℕ) (t : Ticking) (ts : List Ticking) → AllByRecursion (λ k. k < room t) (part t) → from + room t ≤ key → is_among key (in_regions part room from (t ∷ ts)) ≡ is_among key (in_regions part room (from + room t) ts)
  among_others part from key t ts below past =
      among-append key (map (λ k. k + from) (part t)) (in_regions part room (from + room t) ts)
      ∙ ap (λ b. b || is_among key (in_regions part room (from + room t) ts))
      (among_above key (map (λ k. k + from) (part t)) (every_weaker (λ k. k < from + room t) (λ k. k < key) (map (λ k. k + from) (part t)) (λ k less. omega (arith, less, past)) (all_plus from (room t) (part t) below)))

  -- what is left out of each is left out of all
  pub regions_without : (all some : Ticking → List ℕ) (from : ℕ) (ts : List Ticking) → AreBelow all ts → AreBelow some ts → without (in_regions some room from ts) (in_regions all room from ts) ≡ in_regions (λ t. without (some t) (all t)) room from ts
  regions_without all some from [] h k = refl
  regions_without all some from (t ∷ ts) h k =
      filter-append (λ key. not (is_among key (in_regions some room from (t ∷ ts)))) (map (λ key. key + from) (all t)) (in_regions all room (from + room t) ts)
      ∙ ap₂ (λ (xs ys : List ℕ). xs ++ ys)
      (filter-map (λ key. not (is_among key (in_regions some room from (t ∷ ts)))) (λ key. key + from) (all t)
      ∙ ap (map (λ key. key + from))
      (filter_same (λ key. not (is_among (key + from) (in_regions some room from (t ∷ ts)))) (λ key. not (is_among key (some t))) (all t)
      (every_weaker (λ key. key < room t) (λ key. not (is_among (key + from) (in_regions some room from (t ∷ ts))) ≡ not (is_among key (some t))) (all t) (λ key below. ap not (among_first some from key t ts below)) h.0)))
      (filter_same (λ key. not (is_among key (in_regions some room from (t ∷ ts)))) (λ key. not (is_among key (in_regions some room (from + room t) ts))) (in_regions all room (from + room t) ts)
      (every_weaker (λ key. from + room t ≤ key) (λ key. not (is_among key (in_regions some room from (t ∷ ts))) ≡ not (is_among key (in_regions some room (from + room t) ts))) (in_regions all room (from + room t) ts)
      (λ key past. ap not (among_others some from key t ts k.0 past)) (regions_above all (from + room t) ts))
      ∙ regions_without all some (from + room t) ts h.1 k.1)

  pub regions_same : (f g : Ticking → List ℕ) (from : ℕ) (ts : List Ticking) → AllByRecursion (λ t. f t ≡ g t) ts → in_regions f room from ts ≡ in_regions g room from ts
  regions_same f g from [] h = refl
  regions_same f g from (t ∷ ts) h = ap₂ (λ (xs ys : List ℕ). map (λ key. key + from) xs ++ ys) h.0 (regions_same f g (from + room t) ts h.1)
