-- The pairs that a tick keeps, from the rows that go and come; and the places that a sort keeps.
use Rattle.std.proofs.Common.{◌≡◌, refl, ap, ap₂, sym, ◌∙◌, Bool, true, false, cond, not, ◌&&◌, ◌||◌, ◌==◌, ℕ, zero, suc, ◌+◌, ◌<◌, ◌≤◌, arith, List, [], ◌∷◌, length, Option, Some, None, true≢false}
use Rattle.std.{specs.Prelude.{filter_map, find, option_map, slice_get}, specs.List.{AllByRecursion, cons_option, enumerate_from, range_with_len}, proofs.lemmas.Bool.{eq-eqb, ne_eqb}}
use Rattle.key_lists.{specs.Keys.{is_among, IsRising, without}, proofs.Among.{among-filter, among_below, each_among}, proofs.Every.{every_weaker, every-map, filter_same}, proofs.Rising.as_filter}
use Rattle.row_changes.proofs.Comparing.{pairs_of-keys}
use Rattle.shift_data.specs.Moves.{pairs_of}
use Rattle.tick_model.{specs.declared.table.PlainRow.PlainRow, specs.declared.update.KeyPair.KeyPair, specs.Sort.{numbered, place_of, place_pair}, specs.Tables.keys, specs.Updates.{Tick, IsTick, between, new_keys, old_keys}}

-- the others of the others, where all of them are there
others_twice : (keys others : List ℕ) → IsRising keys → IsRising others → AllByRecursion (λ key. is_among key keys ≡ true) others → without (without others keys) keys ≡ others
others_twice keys others r s there =
    filter_same (λ key. not (is_among key (without others keys))) (λ key. is_among key others) keys
    (every_weaker (λ key. is_among key keys ≡ true) (λ key. not (is_among key (without others keys)) ≡ is_among key others) keys (λ key own. same key own) (each_among keys))
    ∙ as_filter others keys s r there
  where
    twice : (b t : Bool) → t ≡ true → not (not b && t) ≡ b
    twice true true e = refl
    twice true false e = absurd (true≢false (sym e))
    twice false true e = refl
    twice false false e = absurd (true≢false (sym e))

    same : (key : ℕ) → is_among key keys ≡ true → not (is_among key (without others keys)) ≡ is_among key others
    same key own = ap not (among-filter (λ k. not (is_among k others)) key keys) ∙ twice (is_among key others) (is_among key keys) own

-- the pairs that a tick keeps are those of the keys that do not go and of those that do not come
pub kept_are : (tick : Tick) → IsTick tick → tick.kept ≡ pairs_of (without (between tick).removed (keys tick.old.rows)) (without (between tick).added (keys tick.new.rows))
kept_are tick h =
    sym (pairs_of-keys tick.kept)
    ∙ ap₂ pairs_of
    (sym (others_twice (keys tick.old.rows) (old_keys tick.kept) h.old_table.rising h.rising_old h.of_old))
    (sym (others_twice (keys tick.new.rows) (new_keys tick.kept) h.new_table.rising h.rising_new h.of_new))

-- rows under the keys from a number on
pub keys-numbered : (n : ℕ) (rows : List PlainRow) → keys (numbered n rows) ≡ range_with_len n (length rows)
keys-numbered n [] = refl
keys-numbered n (row ∷ rows) = ap (λ ks. n ∷ ks) (keys-numbered (n + 1) rows)

module _ (target : List PlainRow) (kept : List KeyPair) where
  -- the pairs of places from a number on
  abbrev pub places_from : ℕ → List PlainRow → List KeyPair
  places_from n rows = filter_map (place_pair target kept) (enumerate_from n rows)

  abbrev looked_up : PlainRow → Option KeyPair
  looked_up row = find (λ pair. pair.old == row.key) kept

  abbrev placed : ℕ → Option KeyPair → Option KeyPair
  placed n o = option_map (λ pair. let pair' : KeyPair = record { old = n; new = place_of pair.new target } in pair') o

  places_past : (n : ℕ) (rows : List PlainRow) → AllByRecursion (λ (pair : KeyPair). n ≤ pair.old) (places_from n rows)
  places_past n [] = tt
  places_past n (row ∷ rows) = go (looked_up row) (every_weaker (λ (pair : KeyPair). n + 1 ≤ pair.old) (λ (pair : KeyPair). n ≤ pair.old) (places_from (n + 1) rows) (λ pair h. omega (arith, h)) (places_past (n + 1) rows))
    where
      go : (o : Option KeyPair) → AllByRecursion (λ (pair : KeyPair). n ≤ pair.old) (places_from (n + 1) rows) → AllByRecursion (λ (pair : KeyPair). n ≤ pair.old) (cons_option (placed n o) (places_from (n + 1) rows))
      go None h = h
      go (Some pair) h = (omega arith, h)

  -- whether a key is found among the old ones
  found_among : (key : ℕ) (pairs : List KeyPair) (n : ℕ) → is_among n (old_keys (cons_option (placed n (find (λ pair. pair.old == key) pairs)) [])) ≡ is_among key (old_keys pairs)
  found_among key [] n = refl
  found_among key (pair ∷ pairs) n =
      elim (pair.old == key) as (λ b. is_among n (old_keys (cons_option (placed n (cond b (Some pair) (find (λ pair. pair.old == key) pairs))) [])) ≡ (b || is_among key (old_keys pairs))) [
        | true ↦ ap (λ b. b || false) (eq-eqb n n refl)
        | false ↦ found_among key pairs n
      ]

  not_later : (n : ℕ) (rows : List PlainRow) → is_among n (old_keys (places_from (n + 1) rows)) ≡ false
  not_later n rows = among_below n (old_keys (places_from (n + 1) rows)) (every-map (λ key. n < key) (λ (pair : KeyPair). pair.old) (places_from (n + 1) rows) (every_weaker (λ (pair : KeyPair). n + 1 ≤ pair.old) (λ (pair : KeyPair). n < pair.old) (places_from (n + 1) rows) (λ pair h. omega (arith, h)) (places_past (n + 1) rows)))

  -- a place is kept where the key of its row is
  pub place_kept : (n i : ℕ) (rows : List PlainRow) (row : PlainRow) → slice_get rows i ≡ Some row → is_among (n + i) (old_keys (places_from n rows)) ≡ is_among row.key (old_keys kept)
  place_kept n i [] row at = absurd (cc)
  place_kept n zero (first ∷ rows) row at =
      let e : n + 0 ≡ n = omega arith in
      ap (λ m. is_among m (old_keys (places_from n (first ∷ rows)))) e
      ∙ go (looked_up first)
      ∙ found_among first.key kept n
      ∙ ap (λ (r : PlainRow). is_among r.key (old_keys kept)) (same at)
    where
      same : {a b : PlainRow} → Some a ≡ Some b → a ≡ b
      same e = cc

      or_false : (b : Bool) → (b || false) ≡ b
      or_false true = refl
      or_false false = refl

      go : (o : Option KeyPair) → is_among n (old_keys (cons_option (placed n o) (places_from (n + 1) rows))) ≡ is_among n (old_keys (cons_option (placed n o) []))
      go None = not_later n rows
      go (Some pair) = ap (λ b. (n == n) || b) (not_later n rows)
  place_kept n (suc i) (first ∷ rows) row at =
      let e : n + suc i ≡ n + 1 + i = omega arith in
      ap (λ m. is_among m (old_keys (places_from n (first ∷ rows)))) e
      ∙ go (looked_up first)
      ∙ place_kept (n + 1) i rows row at
    where
      go : (o : Option KeyPair) → is_among (n + 1 + i) (old_keys (cons_option (placed n o) (places_from (n + 1) rows))) ≡ is_among (n + 1 + i) (old_keys (places_from (n + 1) rows))
      go None = refl
      go (Some pair) = ap (λ b. b || is_among (n + 1 + i) (old_keys (places_from (n + 1) rows))) (ne_eqb n (n + 1 + i) (λ e. omega (arith, e)))
