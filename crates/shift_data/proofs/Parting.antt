-- The stretches of a set of keys, part by part.
use Rattle.std.proofs.Common.{◌≡◌, refl, ap, sym, ◌∙◌, subst, ◌&&◌, ℕ, ◌+◌, ◌^◌, ◌<◌, arith, List, map, leb, ℤ, false, pos, [], ◌∷◌, ◌+ℤ◌, ◌-ℤ◌}
use Rattle.std.{specs.List.AllByRecursion, specs.Prelude.filter, proofs.lemmas.List.{append-nil, map-append}, proofs.lemmas.Int.ints}
use Rattle.key_lists.{proofs.Every.{every_both, every_weaker, every-filter, every-map, every_unmapped, map_map, map_own, every}, specs.Keys.IsRising}
use Rattle.row_set.specs.Sets.{IsKeySet}
use Rattle.tick_model.{specs.declared.update.KeyPair.KeyPair, specs.declared.update.ShiftRange.ShiftRange, specs.Rules.{is_past, landed}, specs.Shifts.{delta, stretches, shifted, moved, as_key, delta_at}}
use Rattle.shift_data.{specs.Moves.{IsLawful, pair_by, canonical, pair_through, delta_through, canonical_through}, proofs.Lawful.{lawful, moves_by, not_past}, specs.declared.parts.Part.Part, specs.ShiftLists.IsShiftList, specs.Parts.{from_on, within, IsPart}, specs.Stretches.{is_moving, joined}, proofs.Keys.{Spans, cut, within_spans, each_within}, proofs.Stretched.{range_by, stretched}, proofs.ShiftOf.{IsSmall, shift_of}}

-- each key moves from itself by what is said
pub record Goes (pair : ℕ → KeyPair) (move : ℕ → ℤ) (keys : List ℕ) : Type 0 where
  pub old : (key : ℕ) → (pair key).old ≡ key
  pub by : AllByRecursion (λ key. delta (pair key) ≡ move key) keys

pub parted : (pair : ℕ → KeyPair) (move : ℕ → ℤ) (keys : List ℕ) (from : ℕ) (part : Part) → IsKeySet keys → Goes pair move keys → IsPart move keys from part → stretches (map pair (from_on from keys)) ≡ joined (range_by part.first part.last part.delta) (stretches (map pair (from_on (part.last + 1) keys)))
parted pair move keys from part set goes h =
    ap (λ xs. stretches (map pair xs)) (cut keys from part.first part.last set.rising h.above h.order h.none_before)
    ∙ ap stretches (map-append pair (within part.first part.last keys) (from_on (part.last + 1) keys))
    ∙ stretched pair goes.old part.delta part.first part.last (within part.first part.last keys) (map pair (from_on (part.last + 1) keys))
    (within_spans keys part.first part.last set.rising h.order h.first h.last)
    (every_both (λ key. delta (pair key) ≡ move key) (λ key. move key ≡ part.delta) (λ key. delta (pair key) ≡ part.delta) (within part.first part.last keys) (λ key e f. e ∙ f)
    (every-filter (λ key. delta (pair key) ≡ move key) (λ key. leb part.first key && leb key part.last) keys goes.by)
    (each_within (λ key. move key ≡ part.delta) keys part.first part.last h.same))

-- the ranges are those of a shift, where the keys land on keys
pub shift_of_keys : (pair : ℕ → KeyPair) (keys : List ℕ) → ((key : ℕ) → (pair key).old ≡ key) → IsKeySet keys → AllByRecursion (λ key. (pair key).new < 2 ^ 62) keys → IsShiftList (shifted (map pair keys))
shift_of_keys pair keys old set land =
    shift_of (map pair keys)
    (subst IsRising (sym (map_map (λ (p : KeyPair). p.old) pair keys ∙ map_own (λ key. (pair key).old) keys (every (λ key. (pair key).old ≡ key) keys old))) set.rising)
    (every-map IsSmall pair keys (every_both (λ key. key < 2 ^ 62) (λ key. (pair key).new < 2 ^ 62) (λ key. IsSmall (pair key)) keys (λ key a b. (subst (λ k. k < 2 ^ 62) (sym (old key)) a, b)) set.small land))

-- by a lawful shift each row of the keys goes from its key
pub canonical_goes : (shifts : List ShiftRange) (keys : List ℕ) → IsLawful shifts keys → Goes (pair_by shifts) (delta_at shifts) keys
canonical_goes shifts keys h = record {
  old = λ key. refl;
  by = every_weaker (λ key. is_past (2 ^ 62) (moved shifts key) ≡ false) (λ key. delta (pair_by shifts key) ≡ delta_at shifts key) keys (λ key inside. moves_by (2 ^ 62) key (delta_at shifts key) inside) (lawful shifts keys h).inside;
}

pub canonical_shift : (shifts : List ShiftRange) (keys : List ℕ) → IsKeySet keys → IsLawful shifts keys → IsShiftList (canonical shifts keys)
canonical_shift shifts keys set h =
    shift_of_keys (pair_by shifts) keys (λ key. refl) set
    (every_weaker (λ key. is_past (2 ^ 62) (moved shifts key) ≡ false) (λ key. as_key (moved shifts key) < 2 ^ 62) keys (λ key inside. (not_past (2 ^ 62) (moved shifts key) inside).1) (lawful shifts keys h).inside)

-- rows that stay where they are make no range
to_last : (key : ℕ) (keys : List ℕ) → (last : ℕ) × Spans key last (key ∷ keys)
to_last key [] = (key, (refl, refl))
to_last key (next ∷ keys) = let rest = to_last next keys in (rest.0, (refl, rest.1))

pub canonical_still : (shifts : List ShiftRange) (keys : List ℕ) → shifts ≡ [] → IsLawful shifts keys → canonical shifts keys ≡ []
canonical_still shifts [] still h = refl
canonical_still shifts (key ∷ keys) still h =
    let last = to_last key keys in
    ap (filter is_moving)
    (ap stretches (sym (append-nil (map (pair_by shifts) (key ∷ keys))))
    ∙ stretched (pair_by shifts) (λ key. refl) (pos 0) key last.0 (key ∷ keys) [] last.1
    (every_weaker (λ k. delta (pair_by shifts k) ≡ delta_at shifts k) (λ k. delta (pair_by shifts k) ≡ pos 0) (key ∷ keys) (λ k by. by ∙ ap (λ ranges. delta_at ranges k) still) (canonical_goes shifts (key ∷ keys) h).by))

-- by two lawful shifts each row goes by the sum of what it moves
module _ (shifts next : List ShiftRange) (keys : List ℕ) (h : IsLawful shifts keys) (k : IsLawful next (landed shifts keys)) where
  next_inside : AllByRecursion (λ key. is_past (2 ^ 62) (moved next (as_key (moved shifts key))) ≡ false) keys
  next_inside = every_unmapped (λ key. is_past (2 ^ 62) (moved next key) ≡ false) (λ key. as_key (moved shifts key)) keys (lawful next (landed shifts keys) k).inside

  pub through_goes : Goes (pair_through shifts next) (delta_through shifts next) keys
  through_goes = record {
    old = λ key. refl;
    by = every_both (λ key. is_past (2 ^ 62) (moved shifts key) ≡ false) (λ key. is_past (2 ^ 62) (moved next (as_key (moved shifts key))) ≡ false) (λ key. delta (pair_through shifts next key) ≡ delta_through shifts next key) keys
        (λ key first second. twice key (as_key (moved shifts key)) (as_key (moved next (as_key (moved shifts key)))) (delta_at shifts key) (delta_at next (as_key (moved shifts key))) (not_past (2 ^ 62) (moved shifts key) first).0 (not_past (2 ^ 62) (moved next (as_key (moved shifts key))) second).0)
        (lawful shifts keys h).inside next_inside;
  }
    where
      twice : (key middle last : ℕ) (a b : ℤ) → pos key +ℤ a ≡ pos middle → pos middle +ℤ b ≡ pos last → pos last -ℤ pos key ≡ a +ℤ b
      twice key middle last a b e f = omega (arith, ints, e, f)

  pub through_shift : IsKeySet keys → IsShiftList (canonical_through shifts next keys)
  through_shift set =
      shift_of_keys (pair_through shifts next) keys (λ key. refl) set
      (every_weaker (λ key. is_past (2 ^ 62) (moved next (as_key (moved shifts key))) ≡ false) (λ key. as_key (moved next (as_key (moved shifts key))) < 2 ^ 62) keys (λ key inside. (not_past (2 ^ 62) (moved next (as_key (moved shifts key))) inside).1) next_inside)
