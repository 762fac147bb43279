-- The rows of a merge that may differ: those of its inputs.
use Rattle.std.proofs.Common.{◌≡◌, refl, ap, ap₂, sym, ◌∙◌, subst, true, false, ℕ, ◌+◌, ◌<◌, ◌≤◌, arith, List, [], ◌∷◌, ◌++◌, map, filter, length}
use Rattle.std.{specs.List.AllByRecursion, proofs.lemmas.List.{length-append, length-map}, proofs.lemmas.List.Elements.filter-append}
use Rattle.key_lists.{specs.Keys.is_among, proofs.Every.{every_unmapped, every_weaker, filter-map, filter_same}}
use Rattle.shift_data.specs.Moves.{pairs_of}
use Rattle.shown_rows.proofs.Restricted.{is_modified, modified_even, modified_pairs}
use Rattle.table_update.specs.Kept.{old_modified}
use Rattle.tick_model.{specs.declared.update.KeyPair.KeyPair, specs.Merge.{merged_pairs, pair_from}, specs.Tables.keys, specs.Updates.{new_keys, old_keys}}
use Rattle.tick_table.{specs.Exact.{IsExact, tick_of}, specs.Ticking.Ticking}
use Rattle.merge_op.{specs.Regions.{in_regions, room_before, room_now}, proofs.Apart.{AreBelow, among_first, among_others, regions_above}, proofs.Ticked.{kept_now, kept_of, new_keys-pairs}}

abbrev pub modified_before : Ticking → List ℕ
modified_before t = old_modified (keys t.old.rows) t.update

abbrev pub modified_now : Ticking → List ℕ
modified_now t = t.update.modified

pairs_of-append : (a b c d : List ℕ) → length a ≡ length b → pairs_of (a ++ c) (b ++ d) ≡ pairs_of a b ++ pairs_of c d
pairs_of-append [] [] c d e = refl
pairs_of-append [] (y ∷ b) c d e = absurd (omega (arith, e))
pairs_of-append (x ∷ a) [] c d e = absurd (omega (arith, e))
pairs_of-append (x ∷ a) (y ∷ b) c d e = ap (λ rest. (let first : KeyPair = record { old = x; new = y } in first) ∷ rest) (pairs_of-append a b c d (omega (arith, e)))

pairs_of-plus : (o n : ℕ) (a b : List ℕ) → pairs_of (map (λ k. k + o) a) (map (λ k. k + n) b) ≡ map (pair_from o n) (pairs_of a b)
pairs_of-plus o n [] b = refl
pairs_of-plus o n (x ∷ a) [] = refl
pairs_of-plus o n (x ∷ a) (y ∷ b) = ap (λ rest. (let first : KeyPair = record { old = x + o; new = y + n } in first) ∷ rest) (pairs_of-plus o n a b)

-- as many before as now
pub even : (o n : ℕ) (ts : List Ticking) → AllByRecursion IsExact ts → length (in_regions modified_before room_before o ts) ≡ length (in_regions modified_now room_now n ts)
even o n [] e = refl
even o n (t ∷ ts) e =
    length-append (map (λ k. k + o) (modified_before t)) (in_regions modified_before room_before (o + room_before t) ts)
    ∙ ap₂ (λ a b. a + b) (length-map (modified_before t) (λ k. k + o) ∙ modified_even t e.0 ∙ sym (length-map (modified_now t) (λ k. k + n))) (even (o + room_before t) (n + room_now t) ts e.1)
    ∙ sym (length-append (map (λ k. k + n) (modified_now t)) (in_regions modified_now room_now (n + room_now t) ts))

-- the pairs of other inputs are behind the first region
pub rest_past : (o n : ℕ) (ts : List Ticking) → AllByRecursion (λ (pair : KeyPair). n ≤ pair.new) (merged_pairs o n (map tick_of ts))
rest_past o n ts = every_unmapped (λ key. n ≤ key) (λ (pair : KeyPair). pair.new) (merged_pairs o n (map tick_of ts)) (subst (AllByRecursion (λ key. n ≤ key)) (sym (new_keys-pairs o n ts)) (regions_above room_now kept_now n ts))

-- the modified rows are the pairs of the merge that have one of their keys now
pub compared : (o n : ℕ) (ts : List Ticking) → AllByRecursion IsExact ts → AreBelow room_now modified_now ts → AreBelow room_now kept_now ts
    → pairs_of (in_regions modified_before room_before o ts) (in_regions modified_now room_now n ts) ≡ filter (λ pair. is_among pair.new (in_regions modified_now room_now n ts)) (merged_pairs o n (map tick_of ts))
compared o n [] e b k = refl
compared o n (t ∷ ts) e b k =
    pairs_of-append (map (λ key. key + o) (modified_before t)) (map (λ key. key + n) (modified_now t)) (in_regions modified_before room_before (o + room_before t) ts) (in_regions modified_now room_now (n + room_now t) ts)
    (length-map (modified_before t) (λ key. key + o) ∙ modified_even t e.0 ∙ sym (length-map (modified_now t) (λ key. key + n)))
    ∙ ap₂ (λ (xs ys : List KeyPair). xs ++ ys)
    (pairs_of-plus o n (modified_before t) (modified_now t) ∙ ap (map (pair_from o n)) (modified_pairs t e.0)
    ∙ ap (map (pair_from o n))
    (sym (filter_same (λ pair. is_among (pair.new + n) (in_regions modified_now room_now n (t ∷ ts))) (is_modified t e.0) (kept_of t)
    (every_weaker (λ (pair : KeyPair). pair.new < room_now t) (λ pair. is_among (pair.new + n) (in_regions modified_now room_now n (t ∷ ts)) ≡ is_modified t e.0 pair) (kept_of t)
    (λ pair below. among_first room_now modified_now n pair.new t ts below) (every_unmapped (λ key. key < room_now t) (λ (pair : KeyPair). pair.new) (kept_of t) k.0))))
    ∙ sym (filter-map (λ pair. is_among pair.new (in_regions modified_now room_now n (t ∷ ts))) (pair_from o n) (kept_of t)))
    (compared (o + room_before t) (n + room_now t) ts e.1 b.1 k.1
    ∙ sym (filter_same (λ pair. is_among pair.new (in_regions modified_now room_now n (t ∷ ts))) (λ pair. is_among pair.new (in_regions modified_now room_now (n + room_now t) ts)) (merged_pairs (o + room_before t) (n + room_now t) (map tick_of ts))
    (every_weaker (λ (pair : KeyPair). n + room_now t ≤ pair.new) (λ pair. is_among pair.new (in_regions modified_now room_now n (t ∷ ts)) ≡ is_among pair.new (in_regions modified_now room_now (n + room_now t) ts)) (merged_pairs (o + room_before t) (n + room_now t) (map tick_of ts))
    (λ pair past. among_others room_now modified_now n pair.new t ts b.0 past) (rest_past (o + room_before t) (n + room_now t) ts))))
    ∙ sym (filter-append (λ pair. is_among pair.new (in_regions modified_now room_now n (t ∷ ts))) (map (pair_from o n) (kept_of t)) (merged_pairs (o + room_before t) (n + room_now t) (map tick_of ts)))
