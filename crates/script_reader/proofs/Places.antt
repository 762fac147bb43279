-- The first place of a text.
use Rattle.std.proofs.Common.{◌≡◌, refl, ap, sym, ◌∙◌, Bool, true, false, not, cond, ℕ, suc, ◌+◌, ltb, arith, List, [], ◌∷◌, ◌++◌, map, length, Option, Some, None, is_some, ◌||◌, inl, inr}
use Rattle.std.{specs.Prelude.{position, unwrap_or, insert, nat_lt}, specs.List.{list_any, position_or_len}, proofs.lemmas.Bool.{lt-ltb, le-ltb, ltb-false, cases_lt}, proofs.lemmas.List.{length-map, map_push}, proofs.lemmas.List.Sums.prefix_len-le-length, specs.Str.bytes_eq}
use Rattle.script_reader.specs.Checks.{in_order, place_of, with_text}

module _ {X Y : Type 0} (p : Y → Bool) (f : X → Y) where
  pub position_or_len-map : (xs : List X) → position_or_len p (map f xs) ≡ position_or_len (λ x. p (f x)) xs
  position_or_len-map [] = refl
  position_or_len-map (x ∷ xs) = ap (λ n. cond (not (p (f x))) (1 + n) 0) (position_or_len-map xs)

  pub position-map : (xs : List X) → position p (map f xs) ≡ position (λ x. p (f x)) xs
  position-map xs =
      ap (λ n. cond (ltb n (length (map f xs))) (Some n) None) (position_or_len-map xs)
      ∙ ap (λ n. cond (ltb (position_or_len (λ x. p (f x)) xs) n) (Some (position_or_len (λ x. p (f x)) xs)) None) (length-map xs f)

  pub list_any-map : (xs : List X) → list_any p (map f xs) ≡ list_any (λ x. p (f x)) xs
  list_any-map [] = refl
  list_any-map (x ∷ xs) = ap (λ b. p (f x) || b) (list_any-map xs)

one_more : (m n : ℕ) → ltb (1 + m) (suc n) ≡ ltb m n
one_more m n =
    elim (cases_lt m n) [
      | inl before ↦ lt-ltb (1 + m) (suc n) (omega arith) ∙ sym (lt-ltb m n before)
      | inr after ↦ le-ltb (1 + m) (suc n) (omega arith) ∙ sym (le-ltb m n after)
    ]

first_or_later : (b : Bool) (m n : ℕ) (later : Bool) → ltb m n ≡ later → ltb (cond (not b) (1 + m) 0) (suc n) ≡ (b || later)
first_or_later true m n later h = lt-ltb 0 (suc n) (omega arith)
first_or_later false m n later h = one_more m n ∙ h

module _ {X : Type 0} (p : X → Bool) where
  within-list_any : (xs : List X) → ltb (position_or_len p xs) (length xs) ≡ list_any p xs
  within-list_any [] = refl
  within-list_any (x ∷ xs) = first_or_later (p x) (position_or_len p xs) (length xs) (list_any p xs) (within-list_any xs)

  -- a place is found where one passes
  pub is_some-position : (xs : List X) → is_some (position p xs) ≡ list_any p xs
  is_some-position xs = by (ltb (position_or_len p xs) (length xs)) ∙ within-list_any xs
    where
      by : (b : Bool) → is_some (cond b (Some (position_or_len p xs)) None) ≡ b
      by true = refl
      by false = refl

  pub position_found : (xs : List X) (i : ℕ) → Some i ≡ position p xs → (i ≡ position_or_len p xs) × (list_any p xs ≡ true)
  position_found xs i h = by (ltb (position_or_len p xs) (length xs)) (within-list_any xs) h
    where
      by : (b : Bool) → b ≡ list_any p xs → Some i ≡ cond b (Some (position_or_len p xs)) None → (i ≡ position_or_len p xs) × (list_any p xs ≡ true)
      by true e h = (cc, sym e)
      by false e h = absurd (cc)

  pub position_lacks : (xs : List X) → None ≡ position p xs → (position_or_len p xs ≡ length xs) × (list_any p xs ≡ false)
  position_lacks xs h = by (ltb (position_or_len p xs) (length xs)) (within-list_any xs) refl h
    where
      by : (b : Bool) → b ≡ list_any p xs → ltb (position_or_len p xs) (length xs) ≡ b → None ≡ cond b (Some (position_or_len p xs)) None → (position_or_len p xs ≡ length xs) × (list_any p xs ≡ false)
      by true e same h = absurd (cc)
      by false e same h = (omega (arith, ltb-false (position_or_len p xs) (length xs) same, prefix_len-le-length (λ x. not (p x)) xs), sym e)

  -- the first place, or the end
  pub position_or_end : (xs : List X) → unwrap_or (position p xs) (length xs) ≡ position_or_len p xs
  position_or_end xs = by (position p xs) refl
    where
      by : (r : Option ℕ) → r ≡ position p xs → unwrap_or r (length xs) ≡ position_or_len p xs
      by (Some i) h = (position_found xs i h).0
      by None h = sym (position_lacks xs h).0

-- a number goes before the first greater one
put_at : (b : Bool) (node other n : ℕ) (others placed : List ℕ) → placed ≡ insert others n node → cond b (node ∷ other ∷ others) (other ∷ placed) ≡ insert (other ∷ others) (cond (not b) (1 + n) 0) node
put_at true node other n others placed h = refl
put_at false node other n others placed h =
    let next : suc n ≡ 1 + n = omega arith in
    ap (λ rest. other ∷ rest) h ∙ ap (λ n. insert (other ∷ others) n node) next

pub in_order_at : (node : ℕ) (xs : List ℕ) → in_order node xs ≡ insert xs (position_or_len (λ other. nat_lt node other) xs) node
in_order_at node [] = refl
in_order_at node (other ∷ others) = put_at (nat_lt node other) node other (position_or_len (λ other. nat_lt node other) others) others (in_order node others) (in_order_at node others)

-- texts that others are seen as
module _ {K : Type 0} (view : K → List ℕ) (keys : List K) (text : List ℕ) where
  pub numbered_there : (i : ℕ) → Some i ≡ position (λ k. bytes_eq text (view k)) keys → (i ≡ place_of text (map view keys)) × (with_text (map view keys) text ≡ map view keys)
  numbered_there i h =
      let found = position_found (λ k. bytes_eq text (view k)) keys i h in
      (found.0 ∙ sym (position_or_len-map (bytes_eq text) view keys), ap (λ b. cond b (map view keys) (map view keys ++ text ∷ [])) (list_any-map (bytes_eq text) view keys ∙ found.1))

  pub numbered_last : (copy : K) (i : ℕ) → None ≡ position (λ k. bytes_eq text (view k)) keys → view copy ≡ text → i ≡ position_or_len (λ k. bytes_eq (view copy) (view k)) keys
      → (i ≡ place_of text (map view keys)) × (with_text (map view keys) text ≡ map view (cond (list_any (λ k. bytes_eq (view copy) (view k)) keys) keys (keys ++ copy ∷ [])))
  numbered_last copy i h same place =
      let lacks = position_lacks (λ k. bytes_eq text (view k)) keys h in
      let new : list_any (λ k. bytes_eq (view copy) (view k)) keys ≡ false = ap (λ t. list_any (λ k. bytes_eq t (view k)) keys) same ∙ lacks.1 in (
        place ∙ ap (λ t. position_or_len (λ k. bytes_eq t (view k)) keys) same ∙ sym (position_or_len-map (bytes_eq text) view keys),
        ap (λ b. cond b (map view keys) (map view keys ++ text ∷ [])) (list_any-map (bytes_eq text) view keys ∙ lacks.1)
            ∙ ap (λ t. map view keys ++ t ∷ []) (sym same) ∙ sym (map_push view keys copy) ∙ ap (λ b. map view (cond b keys (keys ++ copy ∷ []))) (sym new),
      )
