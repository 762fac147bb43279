-- Numbers of several lists in regions of their own.
use Rattle.std.proofs.Common.{◌≡◌, refl, ap, sym, ◌∙◌, ℕ, ◌<◌, ◌≤◌, ◌+◌, ◌*◌, ◌/◌, ◌==◌, eqb, arith, true, List, [], ◌∷◌, ◌++◌, map, inl, inr}
use Rattle.std.{specs.Prelude.{fold, sum_by}, specs.List.AllByRecursion, proofs.lemmas.Bool.{or_left, or_right, or_cases, eqb-true, eq-eqb}, proofs.lemmas.List.map-append, proofs.lemmas.List.Sums.sum_by-cons}
use Rattle.tick_model.{specs.declared.table.PlainRow.PlainRow, specs.declared.table.PlainTable.PlainTable, specs.declared.update.KeyPair.KeyPair, specs.Tables.keys, specs.Updates.{Tick, IsTick, old_keys, new_keys}, specs.Merge.{last_key, region, row_from, pair_from, merged_rows, merged_pairs}}
use Rattle.key_lists.{specs.Keys.{is_among, IsRising}, proofs.Among.{among-append, each_among, of_among}, proofs.Every.{every_weaker, every-map, every-append, map_map}, proofs.Rising.{rising-append, rising-plus}}

-- the lists' numbers, each plus the regions before it
abbrev pub apart : {T : Type 0} → (T → List ℕ) → (T → ℕ) → ℕ → List T → List ℕ
apart numbers region offset [] = []
apart numbers region offset (t ∷ ts) = map (λ k. k + offset) (numbers t) ++ apart numbers region (offset + region t) ts

module _ {T : Type 0} (numbers some : T → List ℕ) (region : T → ℕ) where
  -- some numbers of each list, which rise and are below its region
  pub record IsPart (t : T) : Type 0 where
    pub rising : IsRising (some t)
    pub below : AllByRecursion (λ k. k < region t) (some t)
    pub among : AllByRecursion (λ k. is_among k (numbers t) ≡ true) (some t)

  apart_above : (offset : ℕ) (ts : List T) → AllByRecursion (λ k. offset ≤ k) (apart some region offset ts)
  apart_above offset [] = tt
  apart_above offset (t ∷ ts) =
      every-append (λ k. offset ≤ k) (map (λ k. k + offset) (some t)) (apart some region (offset + region t) ts)
      (every-map (λ k. offset ≤ k) (λ k. k + offset) (some t) (every_any (some t)))
      (every_weaker (λ k. offset + region t ≤ k) (λ k. offset ≤ k) (apart some region (offset + region t) ts) (λ k h. omega (arith, h)) (apart_above (offset + region t) ts))
    where
      every_any : (xs : List ℕ) → AllByRecursion (λ k. offset ≤ k + offset) xs
      every_any [] = tt
      every_any (x ∷ xs) = (omega arith, every_any xs)

  pub apart_rising : (offset : ℕ) (ts : List T) → AllByRecursion IsPart ts → IsRising (apart some region offset ts)
  apart_rising offset [] h = tt
  apart_rising offset (t ∷ ts) h =
      rising-append (offset + region t) (map (λ k. k + offset) (some t)) (apart some region (offset + region t) ts)
      (every-map (λ k. k < offset + region t) (λ k. k + offset) (some t) (every_weaker (λ k. k < region t) (λ k. k + offset < offset + region t) (some t) (λ k h. omega (arith, h)) h.0.below))
      (apart_above (offset + region t) ts)
      (rising-plus offset (some t) h.0.rising)
      (apart_rising (offset + region t) ts h.1)

  -- all numbers are below the end of the last region
  pub apart_below : (offset : ℕ) (ts : List T) → AllByRecursion IsPart ts → AllByRecursion (λ k. k < offset + sum_by region ts) (apart some region offset ts)
  apart_below offset [] h = tt
  apart_below offset (t ∷ ts) h =
      every-append (λ k. k < offset + sum_by region (t ∷ ts)) (map (λ k. k + offset) (some t)) (apart some region (offset + region t) ts)
      (every-map (λ k. k < offset + sum_by region (t ∷ ts)) (λ k. k + offset) (some t) (every_weaker (λ k. k < region t) (λ k. k + offset < offset + sum_by region (t ∷ ts)) (some t) (λ k less. omega (arith, less, sum_by-cons region t ts)) h.0.below))
      (every_weaker (λ k. k < offset + region t + sum_by region ts) (λ k. k < offset + sum_by region (t ∷ ts)) (apart some region (offset + region t) ts) (λ k less. omega (arith, less, sum_by-cons region t ts)) (apart_below (offset + region t) ts h.1))

  among-plus : (offset key : ℕ) (xs : List ℕ) → is_among key xs ≡ true → is_among (key + offset) (map (λ k. k + offset) xs) ≡ true
  among-plus offset key [] h = h
  among-plus offset key (x ∷ xs) h =
      elim (or_cases (x == key) (is_among key xs) h) [
        | inl e ↦ or_left (eqb (x + offset) (key + offset)) (is_among (key + offset) (map (λ k. k + offset) xs)) (eq-eqb (x + offset) (key + offset) (ap (λ k. k + offset) (eqb-true x key e)))
        | inr e ↦ or_right (eqb (x + offset) (key + offset)) (is_among (key + offset) (map (λ k. k + offset) xs)) (among-plus offset key xs e)
      ]

  pub apart_among : (offset : ℕ) (ts : List T) → AllByRecursion IsPart ts → AllByRecursion (λ k. is_among k (apart numbers region offset ts) ≡ true) (apart some region offset ts)
  apart_among offset [] h = tt
  apart_among offset (t ∷ ts) h =
      let first = map (λ k. k + offset) (numbers t) in
      let rest = apart numbers region (offset + region t) ts in
      every-append (λ k. is_among k (first ++ rest) ≡ true) (map (λ k. k + offset) (some t)) (apart some region (offset + region t) ts)
      (every-map (λ k. is_among k (first ++ rest) ≡ true) (λ k. k + offset) (some t)
      (every_weaker (λ k. is_among k (numbers t) ≡ true) (λ k. is_among (k + offset) (first ++ rest) ≡ true) (some t) (λ k e. among-append (k + offset) first rest ∙ or_left (is_among (k + offset) first) (is_among (k + offset) rest) (among-plus offset k (numbers t) e)) h.0.among))
      (every_weaker (λ k. is_among k rest ≡ true) (λ k. is_among k (first ++ rest) ≡ true) (apart some region (offset + region t) ts) (λ k e. among-append k first rest ∙ or_right (is_among k first) (is_among k rest) e) (apart_among (offset + region t) ts h.1))

-- the last key is the greatest
last_greatest : (key : ℕ) (rows : List PlainRow) → IsRising (key ∷ keys rows) → AllByRecursion (λ k. k ≤ fold (λ _ row. row.key) key rows) (key ∷ keys rows)
last_greatest key [] r = (omega arith, tt)
last_greatest key (row ∷ rows) r =
    let rest = last_greatest row.key rows r.1 in
    (omega (arith, r.0.0, rest.0), rest)

pub below_region : (table : PlainTable) → IsRising (keys table.rows) → AllByRecursion (λ k. k < region table) (keys table.rows)
below_region table r = go table.rows r
  where
    within : (k last : ℕ) → k ≤ last → k < 65536 * (last / 65536 + 1)
    within k last h = omega (arith, h)

    go : (rows : List PlainRow) → IsRising (keys rows) → AllByRecursion (λ k. k < 65536 * (last_key rows / 65536 + 1)) (keys rows)
    go [] r = tt
    go (row ∷ rows) r = every_weaker (λ k. k ≤ fold (λ _ row. row.key) row.key rows) (λ k. k < 65536 * (fold (λ _ row. row.key) row.key rows / 65536 + 1)) (row.key ∷ keys rows) (λ k h. within k (fold (λ _ row. row.key) row.key rows) h) (last_greatest row.key rows r)

-- keys and pairs of a merge, as numbers in regions
pub keys-merged_rows : {T : Type 0} (side : T → PlainTable) (offset : ℕ) (ts : List T) → keys (merged_rows offset (map side ts)) ≡ apart (λ t. keys (side t).rows) (λ t. region (side t)) offset ts
keys-merged_rows side offset [] = refl
keys-merged_rows side offset (t ∷ ts) =
    map-append (λ (row : PlainRow). row.key) (map (row_from offset) (side t).rows) (merged_rows (offset + region (side t)) (map side ts))
    ∙ ap (λ first. first ++ keys (merged_rows (offset + region (side t)) (map side ts))) (map_map (λ (row : PlainRow). row.key) (row_from offset) (side t).rows ∙ sym (map_map (λ k. k + offset) (λ (row : PlainRow). row.key) (side t).rows))
    ∙ ap (λ rest. map (λ k. k + offset) (keys (side t).rows) ++ rest) (keys-merged_rows side (offset + region (side t)) ts)

pub old_keys-merged : (old new : ℕ) (ticks : List Tick) → old_keys (merged_pairs old new ticks) ≡ apart (λ t. old_keys t.kept) (λ t. region t.old) old ticks
old_keys-merged old new [] = refl
old_keys-merged old new (t ∷ ts) =
    map-append (λ (pair : KeyPair). pair.old) (map (pair_from old new) t.kept) (merged_pairs (old + region t.old) (new + region t.new) ts)
    ∙ ap (λ first. first ++ old_keys (merged_pairs (old + region t.old) (new + region t.new) ts)) (map_map (λ (pair : KeyPair). pair.old) (pair_from old new) t.kept ∙ sym (map_map (λ k. k + old) (λ (pair : KeyPair). pair.old) t.kept))
    ∙ ap (λ rest. map (λ k. k + old) (old_keys t.kept) ++ rest) (old_keys-merged (old + region t.old) (new + region t.new) ts)

pub new_keys-merged : (old new : ℕ) (ticks : List Tick) → new_keys (merged_pairs old new ticks) ≡ apart (λ t. new_keys t.kept) (λ t. region t.new) new ticks
new_keys-merged old new [] = refl
new_keys-merged old new (t ∷ ts) =
    map-append (λ (pair : KeyPair). pair.new) (map (pair_from old new) t.kept) (merged_pairs (old + region t.old) (new + region t.new) ts)
    ∙ ap (λ first. first ++ new_keys (merged_pairs (old + region t.old) (new + region t.new) ts)) (map_map (λ (pair : KeyPair). pair.new) (pair_from old new) t.kept ∙ sym (map_map (λ k. k + new) (λ (pair : KeyPair). pair.new) t.kept))
    ∙ ap (λ rest. map (λ k. k + new) (new_keys t.kept) ++ rest) (new_keys-merged (old + region t.old) (new + region t.new) ts)

-- what holds of all keys of a table holds of the keys of its pairs
among_part : (P : ℕ → Type 0) (all some : List ℕ) → AllByRecursion P all → AllByRecursion (λ k. is_among k all ≡ true) some → AllByRecursion P some
among_part P all some h among = every_weaker (λ k. is_among k all ≡ true) P some (λ k e. of_among P k all h e) among

pub old_part : (t : Tick) → IsTick t → IsPart (λ t. keys t.old.rows) (λ t. old_keys t.kept) (λ t. region t.old) t
old_part t h = record { rising = h.rising_old; below = among_part (λ k. k < region t.old) (keys t.old.rows) (old_keys t.kept) (below_region t.old h.old_table.rising) h.of_old; among = h.of_old }

pub new_part : (t : Tick) → IsTick t → IsPart (λ t. keys t.new.rows) (λ t. new_keys t.kept) (λ t. region t.new) t
new_part t h = record { rising = h.rising_new; below = among_part (λ k. k < region t.new) (keys t.new.rows) (new_keys t.kept) (below_region t.new h.new_table.rising) h.of_new; among = h.of_new }

-- all keys of a table, as a part of them
pub whole_part : {T : Type 0} (side : T → PlainTable) (t : T) → IsRising (keys (side t).rows) → IsPart (λ t. keys (side t).rows) (λ t. keys (side t).rows) (λ t. region (side t)) t
whole_part side t r = record { rising = r; below = below_region (side t) r; among = each_among (keys (side t).rows) }
