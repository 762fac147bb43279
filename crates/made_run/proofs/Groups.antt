-- There are no more groups than values of the column that they are made by.
use Rattle.std.proofs.Common.{◌≡◌, refl, ap, ap₂, sym, ◌∙◌, subst, ℕ, zero, suc, ◌+◌, ◌==◌, ◌<◌, ◌≤◌, arith, Bool, true, false, cond, not, ◌&&◌, ◌||◌, List, [], ◌∷◌, map, length, Option, Some, None, ℤ, inl, inr}
use Rattle.std.{specs.Prelude.{filter, find}, specs.List.{AllByRecursion, list_any}, specs.Option.option_map_or, specs.Ordering.int_eq, specs.Cmp.signed_Decides, proofs.lemmas.Bool.{and_from, and_left, and_parts, and_right, eq-eqb, eqb-true, false_from_ne_true, ne_eqb, not_from_false, not-true, or_cases, true≢false}}
use Rattle.key_lists.{specs.Keys.IsRising, proofs.Every.{every_unmapped, every_weaker, filter_none}}
use Rattle.tick_model.{specs.declared.table.PlainRow.PlainRow, specs.Agg.{is_first, same_group}, specs.Tables.{cell, keys}}

-- where each that passes one test passes one of two others, there are no more of it than of those
pub passes_one_of_two : {X : Type 0} (p q r : X → Bool) (xs : List X) → ((x : X) → p x ≡ true → (q x || r x) ≡ true) → length (filter p xs) ≤ length (filter q xs) + length (filter r xs)
passes_one_of_two p q r [] h = omega arith
passes_one_of_two p q r (x ∷ xs) h = count (p x) (q x) (r x) (h x) (passes_one_of_two p q r xs h)
  where
    count : (a b c : Bool) → (a ≡ true → (b || c) ≡ true) → length (filter p xs) ≤ length (filter q xs) + length (filter r xs) → length (cond a (x ∷ filter p xs) (filter p xs)) ≤ length (cond b (x ∷ filter q xs) (filter q xs)) + length (cond c (x ∷ filter r xs) (filter r xs))
    count true true true h rest = omega (arith, rest)
    count true true false h rest = omega (arith, rest)
    count true false true h rest = omega (arith, rest)
    count true false false h rest = absurd (true≢false (sym (h refl)))
    count false true true h rest = omega (arith, rest)
    count false true false h rest = omega (arith, rest)
    count false false true h rest = omega (arith, rest)
    count false false false h rest = rest

none_pass : {X : Type 0} (xs : List X) → length (filter (λ _. false) xs) ≡ 0
none_pass [] = refl
none_pass (x ∷ xs) = none_pass xs

pub no_more : {X : Type 0} (p q : X → Bool) (xs : List X) → ((x : X) → p x ≡ true → q x ≡ true) → length (filter p xs) ≤ length (filter q xs)
no_more p q xs h =
    let both = passes_one_of_two p q (λ _. false) xs (λ x e. ap (λ b. b || false) (h x e)) in
    let none = none_pass xs in
    omega (arith, both, none)

-- one row at most has a key
pub one_has_key : (key : ℕ) (rows : List PlainRow) → IsRising (keys rows) → length (filter (λ (row : PlainRow). row.key == key) rows) ≤ 1
one_has_key key [] rise = omega arith
one_has_key key (row ∷ rows) rise =
    (elim (row.key == key) as (λ b. (row.key == key) ≡ b → length (cond b (row ∷ filter has rows) (filter has rows)) ≤ 1) [
      | true ↦ λ e.
          let none : filter has rows ≡ [] =
          filter_none has rows
          (every_weaker (λ (other : PlainRow). row.key < other.key) (λ other. has other ≡ false) rows
          (λ other above. let same = eqb-true row.key key e in ne_eqb other.key key (λ too. omega (arith, above, same, too)))
          (every_unmapped (λ k. row.key < k) (λ (other : PlainRow). other.key) rows rise.0)) in
          let count : length (filter has rows) ≡ 0 = ap length none in
          omega (arith, count)
      | false ↦ λ e. one_has_key key rows rise.1
    ]) refl
  where
    has : PlainRow → Bool
    has row = row.key == key

-- one value at a time
module _ (value : PlainRow → ℤ) (rows : List PlainRow) where
  pub few_values : (values : List ℤ) (p : PlainRow → Bool) → AllByRecursion (λ row. p row ≡ true → list_any (int_eq (value row)) values ≡ true) rows
      → ((v : ℤ) → length (filter (λ row. p row && int_eq (value row) v) rows) ≤ 1) → length (filter p rows) ≤ length values
  few_values [] p known once =
      let none : filter p rows ≡ [] = filter_none p rows (every_weaker (λ row. p row ≡ true → false ≡ true) (λ row. p row ≡ false) rows (λ row h. false_from_ne_true (p row) (λ e. true≢false (sym (h e)))) known) in
      let count : length (filter p rows) ≡ 0 = ap length none in
      omega (arith, count)
  few_values (v ∷ values) p known once =
      let rest = few_values values others known_others (λ w. no_more_of w) in
      let here = once v in
      let split = passes_one_of_two p (λ row. p row && int_eq (value row) v) others rows one_of in
      omega (arith, rest, here, split)
    where
      others : PlainRow → Bool
      others row = p row && not (int_eq (value row) v)

      one_of : (row : PlainRow) → p row ≡ true → ((p row && int_eq (value row) v) || others row) ≡ true
      one_of row e = go (p row) (int_eq (value row) v) e
        where
          go : (a b : Bool) → a ≡ true → ((a && b) || (a && not b)) ≡ true
          go true true e = refl
          go true false e = refl
          go false b e = absurd (true≢false (sym e))

      known_others : AllByRecursion (λ row. others row ≡ true → list_any (int_eq (value row)) values ≡ true) rows
      known_others =
          every_weaker (λ row. p row ≡ true → list_any (int_eq (value row)) (v ∷ values) ≡ true) (λ row. others row ≡ true → list_any (int_eq (value row)) values ≡ true) rows
          (λ row h e.
          let parts = and_parts (p row) (not (int_eq (value row) v)) e in
          sym (ap (λ b. b || list_any (int_eq (value row)) values) (not-true (int_eq (value row) v) parts.1)) ∙ h parts.0)
          known

      no_more_of : (w : ℤ) → length (filter (λ row. others row && int_eq (value row) w) rows) ≤ 1
      no_more_of w =
          let fewer = no_more (λ row. others row && int_eq (value row) w) (λ row. p row && int_eq (value row) w) rows still in
          let one = once w in
          omega (arith, fewer, one)
        where
          still : (row : PlainRow) → (others row && int_eq (value row) w) ≡ true → (p row && int_eq (value row) w) ≡ true
          still row e =
              let parts = and_parts (others row) (int_eq (value row) w) e in
              let own = and_parts (p row) (not (int_eq (value row) v)) parts.0 in
              and_from (p row) (int_eq (value row) w) own.0 parts.1

-- the first rows of their groups
module _ (column : ℕ) (rows : List PlainRow) (rise : IsRising (keys rows)) where
  abbrev value : PlainRow → ℤ
  value row = cell row.cells column

  abbrev first : PlainRow → Bool
  first = is_first (column ∷ []) rows

  -- the first row with a value
  abbrev found : ℤ → Option PlainRow
  found v = find (λ other. int_eq v (value other) && true) rows

  first_has_key : (v : ℤ) (row : PlainRow) → (first row && int_eq (value row) v) ≡ true → (row.key == option_map_or (λ (first : PlainRow). first.key) (found v) 0) ≡ true
  first_has_key v row e =
      let parts = and_parts (first row) (int_eq (value row) v) e in
      let same = (signed_Decides (value row) v).0 parts.1 in
      of (found v) (sym (ap (λ v. option_map_or (λ (other : PlainRow). other.key == row.key) (found v) false) same) ∙ parts.0)
    where
      of : (o : Option PlainRow) → option_map_or (λ (other : PlainRow). other.key == row.key) o false ≡ true → (row.key == option_map_or (λ (first : PlainRow). first.key) o 0) ≡ true
      of None h = absurd (true≢false (sym h))
      of (Some other) h = eq-eqb row.key other.key (sym (eqb-true other.key row.key h))

  pub few_groups : (values : List ℤ) → AllByRecursion (λ row. list_any (int_eq (value row)) values ≡ true) rows → length (filter first rows) ≤ length values
  few_groups values known =
      few_values value rows values first
      (every_weaker (λ row. list_any (int_eq (value row)) values ≡ true) (λ row. first row ≡ true → list_any (int_eq (value row)) values ≡ true) rows (λ row h e. h) known)
      (λ v.
      let key = option_map_or (λ (first : PlainRow). first.key) (found v) 0 in
      let fewer = no_more (λ row. first row && int_eq (value row) v) (λ row. row.key == key) rows (first_has_key v) in
      let one = one_has_key key rows rise in
      omega (arith, fewer, one))
