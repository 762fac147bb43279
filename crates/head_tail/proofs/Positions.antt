-- Positions among keys, and places among those of them that stay.
use Rattle.std.proofs.Common.{◌≡◌, refl, ap, ap₂, sym, ◌∙◌, subst, Bool, true, false, cond, not, ◌&&◌, ℕ, zero, suc, ◌+◌, ◌<◌, ◌≤◌, min, arith, List, [], ◌∷◌, filter, take, drop, length, get_or, lt-ltb, le-ltb, ltb-false, take_all, inl, inr}
use Rattle.std.{specs.Prelude.{nat_lt, slice_get, unwrap_or}, specs.List.AllByRecursion, proofs.lemmas.Bool.cases_lt, proofs.lemmas.List.length-take, proofs.lemmas.List.Filters.{length-filter_both, length-filter_more}}
use Rattle.key_lists.{specs.Keys.{is_among, IsRising, without}, proofs.Among.{among-filter, of_among}, proofs.Every.{and_swap, every_weaker, filter_none}, proofs.Rising.{rising_same, rising_some}}
use Rattle.row_set.{specs.Sets.count_below, proofs.Windows.rising-take}
use Rattle.tick_laws.proofs.ResultCells.{length-filter_most}
use Rattle.head_tail.proofs.Cuts.{among_rest}

-- the keys before the position are below the edge, and no other is
pub record IsEdge (edge position : ℕ) (keys : List ℕ) : Type 0 where
  pub before : AllByRecursion (λ key. key < edge) (take position keys)
  pub from : AllByRecursion (λ key. edge ≤ key) (drop position keys)

-- the key at a position, or one past all keys, is its edge
stands : (P : ℕ → Type 0) (n past : ℕ) (keys : List ℕ) → AllByRecursion P keys → P past → P (unwrap_or (slice_get keys n) past)
stands P zero past [] h p = p
stands P (suc n) past [] h p = p
stands P zero past (key ∷ keys) h p = h.0
stands P (suc n) past (key ∷ keys) h p = stands P n past keys h.1 p

pub edge_is : (n past : ℕ) (keys : List ℕ) → IsRising keys → AllByRecursion (λ key. key < past) keys → IsEdge (unwrap_or (slice_get keys n) past) n keys
edge_is zero past [] r h = record { before = tt; from = tt }
edge_is (suc n) past [] r h = record { before = tt; from = tt }
edge_is zero past (key ∷ keys) r h = record { before = tt; from = (omega arith, every_weaker (λ other. key < other) (λ other. key ≤ other) keys (λ other above. omega (arith, above)) r.0) }
edge_is (suc n) past (key ∷ keys) r h =
    let rest : IsEdge (unwrap_or (slice_get keys n) past) n keys = edge_is n past keys r.1 h.1 in
    record { before = (stands (λ other. key < other) n past keys r.0 h.0, rest.before); from = rest.from }

-- the others are some of the keys
abbrev pub AreOf : List ℕ → List ℕ → Type 0
AreOf others keys = AllByRecursion (λ key. is_among key keys ≡ true) others

none_below : (edge x : ℕ) (xs : List ℕ) → AllByRecursion (λ y. x < y) xs → edge ≤ x → filter (λ key. nat_lt key edge) xs ≡ []
none_below edge x xs above past = filter_none (λ key. nat_lt key edge) xs (every_weaker (λ y. x < y) (λ y. nat_lt y edge ≡ false) xs (λ y h. le-ltb y edge (let far : edge ≤ y = omega (arith, h, past) in far)) above)

-- of keys that rise, those below a number are the first ones
pub take-below : (edge : ℕ) (xs : List ℕ) → IsRising xs → take (count_below edge xs) xs ≡ filter (λ key. nat_lt key edge) xs
take-below edge [] r = refl
take-below edge (x ∷ xs) r =
    (elim (nat_lt x edge) as (λ b. nat_lt x edge ≡ b → take (length (cond b (x ∷ filter (λ key. nat_lt key edge) xs) (filter (λ key. nat_lt key edge) xs))) (x ∷ xs) ≡ cond b (x ∷ filter (λ key. nat_lt key edge) xs) (filter (λ key. nat_lt key edge) xs)) [
      | true ↦ λ below. ap (λ ys. x ∷ ys) (take-below edge xs r.1)
      | false ↦ λ past.
          let none : filter (λ key. nat_lt key edge) xs ≡ [] = none_below edge x xs r.0 (ltb-false x edge past) in
          ap (λ ys. take (length ys) (x ∷ xs)) none ∙ sym none
    ]) refl

pub drop-below : (edge : ℕ) (xs : List ℕ) → IsRising xs → drop (count_below edge xs) xs ≡ filter (λ key. not (nat_lt key edge)) xs
drop-below edge [] r = refl
drop-below edge (x ∷ xs) r =
    (elim (nat_lt x edge) as (λ b. nat_lt x edge ≡ b → drop (length (cond b (x ∷ filter (λ key. nat_lt key edge) xs) (filter (λ key. nat_lt key edge) xs))) (x ∷ xs) ≡ cond (not b) (x ∷ filter (λ key. not (nat_lt key edge)) xs) (filter (λ key. not (nat_lt key edge)) xs)) [
      | true ↦ λ below. drop-below edge xs r.1
      | false ↦ λ past.
          let none : filter (λ key. nat_lt key edge) xs ≡ [] = none_below edge x xs r.0 (ltb-false x edge past) in
          ap (λ ys. drop (length ys) (x ∷ xs)) none ∙ ap (λ ys. x ∷ ys) (sym (ap (λ ys. drop (length ys) xs) none) ∙ drop-below edge xs r.1)
    ]) refl

module _ (keys others : List ℕ) (rising : IsRising keys) (others_rise : IsRising others) (of : AreOf others keys) where
  -- the others among the first keys are no more than there are
  pub others_few : (n : ℕ) → length (take n keys) ≤ length (without others (take n keys)) + length others
  others_few n =
      let same : filter (λ key. is_among key others) (take n keys) ≡ filter (λ key. is_among key (take n keys)) others =
      rising_same (filter (λ key. is_among key others) (take n keys)) (filter (λ key. is_among key (take n keys)) others) (rising_some (λ key. is_among key others) (take n keys) (rising-take n keys rising)) (rising_some (λ key. is_among key (take n keys)) others others_rise)
      (λ key. among-filter (λ key. is_among key others) key (take n keys) ∙ and_swap (is_among key others) (is_among key (take n keys)) ∙ sym (among-filter (λ key. is_among key (take n keys)) key others)) in
      let few : length (filter (λ key. is_among key (take n keys)) others) ≤ length others = length-filter_most (λ key. is_among key (take n keys)) others in
      omega (arith, length-filter_both (λ key. is_among key others) (λ key. not (is_among key others)) (λ key. refl) (take n keys), ap length same, few)

  module _ (edge position : ℕ) (is : IsEdge edge position keys) where
    -- of the others, those below the edge are before the position
    pub below_edge : (key : ℕ) → is_among key others ≡ true → nat_lt key edge ≡ is_among key (take position keys)
    below_edge key own =
        (elim (is_among key (take position keys)) as (λ b. is_among key (take position keys) ≡ b → nat_lt key edge ≡ b) [
          | true ↦ λ here. lt-ltb key edge (of_among (λ k. k < edge) key (take position keys) is.before here)
          | false ↦ λ away.
              le-ltb key edge (of_among (λ k. edge ≤ k) key (drop position keys) is.from
              (among_rest key position keys rising ∙ ap₂ (λ a b. a && not b) (of_among (λ k. is_among k keys ≡ true) key others of own) away))
        ]) refl

    -- the others that are below it
    others_before : filter (λ key. is_among key others) (take position keys) ≡ filter (λ key. nat_lt key edge) others
    others_before =
        rising_same (filter (λ key. is_among key others) (take position keys)) (filter (λ key. nat_lt key edge) others) (rising_some (λ key. is_among key others) (take position keys) (rising-take position keys rising)) (rising_some (λ key. nat_lt key edge) others others_rise)
        (λ key. among-filter (λ key. is_among key others) key (take position keys) ∙ same (is_among key others) (is_among key (take position keys)) (nat_lt key edge) (below_edge key) ∙ sym (among-filter (λ key. nat_lt key edge) key others))
      where
        same : (r b l : Bool) → (r ≡ true → l ≡ b) → (r && b) ≡ (l && r)
        same true true l f = sym (ap (λ l. l && true) (f refl))
        same true false l f = sym (ap (λ l. l && true) (f refl))
        same false b true f = refl
        same false b false f = refl

    -- how many of the keys before the position stay
    pub staying_count : length (without others (take position keys)) + count_below edge others ≡ min position (length keys)
    staying_count = omega (arith, ap length others_before, length-filter_both (λ key. is_among key others) (λ key. not (is_among key others)) (λ key. refl) (take position keys), length-take position keys)

-- one position further, one key more stays at most
pub staying_more : (keys others : List ℕ) (n : ℕ) → n < length keys → length (without others (take (n + 1) keys)) ≤ length (without others (take n keys)) + 1
staying_more keys others n h =
    let more : length (without others (take (n + 1) keys)) ≡ length (without others (take n keys)) + cond (not (is_among (get_or keys n 0) others)) 1 0 = length-filter_more (λ key. not (is_among key others)) keys n 0 h in
    let one : cond (not (is_among (get_or keys n 0) others)) 1 0 ≤ 1 = at_most (not (is_among (get_or keys n 0) others)) in
    omega (arith, more, one)
  where
    at_most : (b : Bool) → cond b 1 0 ≤ 1
    at_most true = omega arith
    at_most false = omega arith

-- a search for a position before which so many keys stay begins with so many
pub first_few : (keys others : List ℕ) (n : ℕ) → length (without others (take n keys)) ≤ n
first_few keys others n =
    let few : length (without others (take n keys)) ≤ length (take n keys) = length-filter_most (λ key. not (is_among key others)) (take n keys) in
    omega (arith, few, length-take n keys)

-- and ends with as many as there may be
pub last_many : (keys others : List ℕ) (staying high : ℕ) → IsRising keys → IsRising others → AreOf others keys → staying ≤ length (without others keys) → high ≡ min (staying + length others) (length keys) → staying ≤ length (without others (take high keys))
last_many keys others staying high r s of enough is =
    elim (cases_lt high (length keys)) [
      | inl less ↦ omega (arith, others_few keys others r s of high, length-take high keys, is, less)
      | inr all ↦ subst (λ ks. staying ≤ length (without others ks)) (sym (take_all high keys all)) enough
    ]
