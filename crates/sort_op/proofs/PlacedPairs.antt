-- The places of the rows that a sort keeps, before a step and now.
use Rattle.std.proofs.Common.{◌≡◌, refl, ap, sym, ◌∙◌, true, false, cond, not, ◌==◌, ℕ, zero, suc, ◌+◌, arith, List, [], ◌∷◌, Option, Some, None, is_lt}
use Rattle.std.{specs.Prelude.{IfSome, find, option_map, slice_get}, specs.List.{AllByRecursion, cons_option}, proofs.lemmas.Bool.{eqb-true, eq-eqb, or_parts}, proofs.lemmas.List.Folds.find_at, proofs.lemmas.Option.{none-some, same_Some}}
use Rattle.key_lists.{specs.Keys.{is_among, IsRising}, proofs.Among.each_among, proofs.Every.{every_both, every_unmapped, every_weaker}, proofs.Booleans.same_truth}
use Rattle.shown_rows.{proofs.Named.of_named, proofs.Walks.of_place}
use Rattle.tick_laws.proofs.Placed.{find_has, row_at-in_order}
use Rattle.tick_model.{specs.declared.plan.SortBy.SortBy, specs.declared.table.PlainRow.PlainRow, specs.declared.update.KeyPair.KeyPair, specs.Sort.{in_order, place_of, sort_cmp}, specs.Tables.{keys, row_at}, specs.Updates.{new_keys, old_keys}, proofs.Among.each_found}
use Rattle.sort_op.{proofs.KeptPlaces.{place_kept, places_from}, specs.Places.AreApart, proofs.Members.{apart-ordered, apart_rising, unequal_flip}}

-- a key that is not among others is unequal to each
others_unequal : (key : ℕ) (others : List ℕ) → is_among key others ≡ false → AllByRecursion (λ other. (other == key) ≡ false) others
others_unequal key [] h = tt
others_unequal key (other ∷ others) h = let parts = or_parts (other == key) (is_among key others) h in (parts.0, others_unequal key others parts.1)

-- the place of the key of the row at a place
pub place_at : (i : ℕ) (rows : List PlainRow) (row : PlainRow) → AreApart (keys rows) → slice_get rows i ≡ Some row → place_of row.key rows ≡ i
place_at i [] row apart at = absurd (none-some row at)
place_at zero (first ∷ rows) row apart at =
    ap (λ b. cond (not b) (1 + place_of row.key rows) 0) (eq-eqb first.key row.key (ap (λ (r : PlainRow). r.key) (same_Some first row at)))
place_at (suc i) (first ∷ rows) row apart at =
    let other = of_place (λ (r : PlainRow). (r.key == first.key) ≡ false) i rows row (every_unmapped (λ key. (key == first.key) ≡ false) (λ (r : PlainRow). r.key) rows (others_unequal first.key (keys rows) apart.0)) at in
    ap (λ b. cond (not b) (1 + place_of row.key rows) 0) (unequal_flip row.key first.key other)
    ∙ ap (λ n. 1 + n) (place_at i rows row apart.1 at)
    ∙ one_more i
  where
    one_more : (n : ℕ) → 1 + n ≡ suc n
    one_more n = omega arith

module _ (by : List SortBy) (rows : List PlainRow) (rising : IsRising (keys rows)) where
  pub apart_in_order : AreApart (keys (in_order by rows))
  apart_in_order = apart-ordered (λ (row : PlainRow). row.key) (λ a b. is_lt (sort_cmp by a b)) rows (apart_rising (keys rows) rising)

  -- the row under a key stands at the key's place
  pub there_row : (key : ℕ) → is_among key (keys rows) ≡ true → (row : PlainRow) × ((slice_get (in_order by rows) (place_of key (in_order by rows)) ≡ Some row) × (row.key ≡ key))
  there_row key here = go (of_named (λ (row : PlainRow). row.key) (λ (row : PlainRow). row_at row.key rows ≡ Some row) key rows (each_found rows rising) here)
    where
      go : (row : PlainRow) × ((row_at row.key rows ≡ Some row) × (row.key ≡ key)) → (row : PlainRow) × ((slice_get (in_order by rows) (place_of key (in_order by rows)) ≡ Some row) × (row.key ≡ key))
      go (row, (found, is)) = (
        row,
        (sym (find_at (λ (row : PlainRow). row.key == key) (in_order by rows)) ∙ row_at-in_order by key rows rising ∙ ap (λ k. row_at k rows) (sym is) ∙ found, is),
      )

-- a pair of places from a number on, and the pair of keys that it is made of
record IsPlacedFrom (target rows : List PlainRow) (P : KeyPair → Type 0) (n : ℕ) (placed : KeyPair) : Type 0 where
  at : ℕ
  row : PlainRow
  pair : KeyPair
  is_at : placed.old ≡ n + at
  here : slice_get rows at ≡ Some row
  own : pair.old ≡ row.key
  lands : placed.new ≡ place_of pair.new target
  known : P pair

module _ (target : List PlainRow) (kept : List KeyPair) (P : KeyPair → Type 0) (all : AllByRecursion P kept) where
  placed_from : (n : ℕ) (rows : List PlainRow) → AllByRecursion (IsPlacedFrom target rows P n) (places_from target kept n rows)
  placed_from n [] = tt
  placed_from n (row ∷ rows) =
      go (find (λ (pair : KeyPair). pair.old == row.key) kept) (find_has P (λ (pair : KeyPair). pair.old == row.key) kept all)
      (every_weaker (IsPlacedFrom target rows P (n + 1)) (IsPlacedFrom target (row ∷ rows) P n) (places_from target kept (n + 1) rows) later (placed_from (n + 1) rows))
    where
      later : (placed : KeyPair) → IsPlacedFrom target rows P (n + 1) placed → IsPlacedFrom target (row ∷ rows) P n placed
      later placed h = record { at = suc h.at; row = h.row; pair = h.pair; is_at = omega (arith, h.is_at); here = h.here; own = h.own; lands = h.lands; known = h.known }

      go : (o : Option KeyPair) → IfSome o (λ (pair : KeyPair). P pair × ((pair.old == row.key) ≡ true)) → AllByRecursion (IsPlacedFrom target (row ∷ rows) P n) (places_from target kept (n + 1) rows)
          → AllByRecursion (IsPlacedFrom target (row ∷ rows) P n) (cons_option (option_map (λ (pair : KeyPair). let placed : KeyPair = record { old = n; new = place_of pair.new target } in placed) o) (places_from target kept (n + 1) rows))
      go None h rest = rest
      go (Some pair) h rest = (record { at = 0; row = row; pair = pair; is_at = omega arith; here = refl; own = eqb-true pair.old row.key h.1; lands = refl; known = h.0 }, rest)

-- what is known of the rows of a kept pair
pub record IsKept (olds news : List PlainRow) (P : KeyPair → Type 0) (placed : KeyPair) : Type 0 where
  pub old_row : PlainRow
  pub new_row : PlainRow
  pub pair : KeyPair
  pub old_here : slice_get olds placed.old ≡ Some old_row
  pub old_own : old_row.key ≡ pair.old
  pub new_here : slice_get news placed.new ≡ Some new_row
  pub new_own : new_row.key ≡ pair.new
  pub known : P pair

-- tables before and now, and the pairs of equal sort cells
module _ (by : List SortBy) (old new : List PlainRow) (rising_old : IsRising (keys old)) (rising_new : IsRising (keys new)) (kept : List KeyPair) where
  abbrev pub olds : List PlainRow
  olds = in_order by old

  abbrev pub news : List PlainRow
  news = in_order by new

  -- the pairs of their places
  abbrev pub placed : List KeyPair
  placed = places_from news kept 0 olds

  -- a place before is kept where the key of its row is
  pub old_place : (i : ℕ) (row : PlainRow) → slice_get olds i ≡ Some row → is_among i (old_keys placed) ≡ is_among row.key (old_keys kept)
  old_place i row here = let start : i ≡ 0 + i = omega arith in ap (λ n. is_among n (old_keys placed)) start ∙ place_kept news kept 0 i olds row here

  module _ (of_new : AllByRecursion (λ (pair : KeyPair). is_among pair.new (keys new) ≡ true) kept) where
    pub each_kept : (P : KeyPair → Type 0) → AllByRecursion P kept → AllByRecursion (IsKept olds news P) placed
    each_kept P all =
        every_weaker (IsPlacedFrom news olds (λ pair. P pair × (is_among pair.new (keys new) ≡ true)) 0) (IsKept olds news P) placed known
        (placed_from news kept (λ pair. P pair × (is_among pair.new (keys new) ≡ true)) (every_both P (λ (pair : KeyPair). is_among pair.new (keys new) ≡ true) (λ pair. P pair × (is_among pair.new (keys new) ≡ true)) kept (λ pair a b. (a, b)) all of_new) 0 olds)
      where
        known : (q : KeyPair) → IsPlacedFrom news olds (λ pair. P pair × (is_among pair.new (keys new) ≡ true)) 0 q → IsKept olds news P q
        known q h =
            let there = there_row by new rising_new h.pair.new h.known.1 in
            let place : h.at ≡ q.old = omega (arith, h.is_at) in record {
              old_row = h.row;
              new_row = there.0;
              pair = h.pair;
              old_here = ap (slice_get olds) (sym place) ∙ h.here;
              old_own = sym h.own;
              new_here = ap (slice_get news) h.lands ∙ there.1.0;
              new_own = there.1.1;
              known = h.known.0;
            }

    -- and so it is now, where each old key leads to one new key
    module _ (land : ℕ → ℕ) (lands : AllByRecursion (λ (pair : KeyPair). land pair.old ≡ pair.new) kept) (of_old : AllByRecursion (λ (pair : KeyPair). is_among pair.old (keys old) ≡ true) kept) where
      new_of : (i : ℕ) (row : PlainRow) → slice_get news i ≡ Some row → is_among i (new_keys placed) ≡ true → is_among row.key (new_keys kept) ≡ true
      new_of i row here h =
          go (of_named (λ (pair : KeyPair). pair.new) (IsKept olds news (λ (pair : KeyPair). is_among pair.new (new_keys kept) ≡ true)) i placed (each_kept (λ (pair : KeyPair). is_among pair.new (new_keys kept) ≡ true) (every_unmapped (λ key. is_among key (new_keys kept) ≡ true) (λ (pair : KeyPair). pair.new) kept (each_among (new_keys kept)))) h)
        where
          go : (q : KeyPair) × (IsKept olds news (λ (pair : KeyPair). is_among pair.new (new_keys kept) ≡ true) q × (q.new ≡ i)) → is_among row.key (new_keys kept) ≡ true
          go (q, (k, is)) =
              let same : row ≡ k.new_row = same_Some row k.new_row (sym here ∙ ap (slice_get news) (sym is) ∙ k.new_here) in
              ap (λ (r : PlainRow). is_among r.key (new_keys kept)) same ∙ ap (λ key. is_among key (new_keys kept)) k.new_own ∙ k.known

      -- the pair of places of a row that stays
      abbrev IsFound : KeyPair → Type 0
      IsFound q = IsKept olds news (λ (pair : KeyPair). land pair.old ≡ pair.new) q × (is_among q.new (new_keys placed) ≡ true)

      all_found : AllByRecursion IsFound placed
      all_found =
          every_both (IsKept olds news (λ (pair : KeyPair). land pair.old ≡ pair.new)) (λ (q : KeyPair). is_among q.new (new_keys placed) ≡ true) IsFound placed (λ q a b. (a, b))
          (each_kept (λ (pair : KeyPair). land pair.old ≡ pair.new) lands) (every_unmapped (λ key. is_among key (new_keys placed) ≡ true) (λ (q : KeyPair). q.new) placed (each_among (new_keys placed)))

      abbrev IsThere : KeyPair → Type 0
      IsThere pair = (land pair.old ≡ pair.new) × (is_among pair.old (keys old) ≡ true) × (is_among pair.old (old_keys kept) ≡ true)

      all_there : AllByRecursion IsThere kept
      all_there =
          every_both (λ (pair : KeyPair). land pair.old ≡ pair.new) (λ (pair : KeyPair). (is_among pair.old (keys old) ≡ true) × (is_among pair.old (old_keys kept) ≡ true)) IsThere kept (λ pair a b. (a, b.0, b.1)) lands
          (every_both (λ (pair : KeyPair). is_among pair.old (keys old) ≡ true) (λ (pair : KeyPair). is_among pair.old (old_keys kept) ≡ true) (λ (pair : KeyPair). (is_among pair.old (keys old) ≡ true) × (is_among pair.old (old_keys kept) ≡ true)) kept (λ pair a b. (a, b)) of_old
          (every_unmapped (λ key. is_among key (old_keys kept) ≡ true) (λ (pair : KeyPair). pair.old) kept (each_among (old_keys kept))))

      new_from : (i : ℕ) (row : PlainRow) → slice_get news i ≡ Some row → is_among row.key (new_keys kept) ≡ true → is_among i (new_keys placed) ≡ true
      new_from i row here h = go (of_named (λ (pair : KeyPair). pair.new) IsThere row.key kept all_there h)
        where
          go : (pair : KeyPair) × (IsThere pair × (pair.new ≡ row.key)) → is_among i (new_keys placed) ≡ true
          go (pair, (known, is)) =
              let old_there = there_row by old rising_old pair.old known.1 in
              let place = place_of pair.old olds in
              let kept_place : is_among place (old_keys placed) ≡ true = old_place place old_there.0 old_there.1.0 ∙ ap (λ key. is_among key (old_keys kept)) old_there.1.1 ∙ known.2 in
              let found = of_named (λ (q : KeyPair). q.old) IsFound place placed all_found kept_place in
              let q = found.0 in
              let k = found.1.0.0 in
              let same : k.old_row ≡ old_there.0 = same_Some k.old_row old_there.0 (sym k.old_here ∙ ap (slice_get olds) found.1.1 ∙ old_there.1.0) in
              let old_key : k.pair.old ≡ pair.old = sym k.old_own ∙ ap (λ (r : PlainRow). r.key) same ∙ old_there.1.1 in
              let new_key : k.new_row.key ≡ row.key = k.new_own ∙ sym k.known ∙ ap land old_key ∙ known.0 ∙ is in
              let at : q.new ≡ i = sym (place_at q.new news k.new_row (apart_in_order by new rising_new) k.new_here) ∙ ap (λ key. place_of key news) new_key ∙ place_at i news row (apart_in_order by new rising_new) here in
              ap (λ n. is_among n (new_keys placed)) (sym at) ∙ found.1.0.1

      pub new_place : (i : ℕ) (row : PlainRow) → slice_get news i ≡ Some row → is_among i (new_keys placed) ≡ is_among row.key (new_keys kept)
      new_place i row here = same_truth (is_among i (new_keys placed)) (is_among row.key (new_keys kept)) (new_of i row here) (new_from i row here)
