-- Keys that are moved in place.
use Rattle.std.proofs.Common.{◌≡◌, refl, ap, sym, ◌∙◌, subst, Bool, true, false, cond, not, ◌&&◌, ◌||◌, ◌==◌, ℕ, ◌+◌, arith, List, [], ◌∷◌, ◌++◌, pos, ℤ, ◌+ℤ◌, append_assoc, w64, SFits, to_z, of_z, length, ◌<◌}
use Rattle.std.{specs.Prelude.filter, specs.Ordering.int_eq, specs.Cmp.signed_Decides, proofs.lemmas.Bool.{not_from_true, not_from_false, false_from_ne_true}, proofs.lemmas.Int.to_z-of_z, proofs.lemmas.List.map-append, proofs.lemmas.List.Elements.filter-append}
use Rattle.key_lists.{specs.Keys.{is_among, IsRising, without}, proofs.Every.{every, map_own, every_weaker, filter_same, filter_none, filter_all}, proofs.Among.{among-filter, each_among}, proofs.Rising.{rising_some, rising_same, rising-filter}, proofs.Booleans.{or_assoc, or_swap}}
use Rattle.row_set.{specs.Ranges.keys_from, specs.Sets.{IsKeySet, united}, proofs.United.{among-united, united_rises}, proofs.Windows.rising_front}
use Rattle.tick_model.{specs.declared.update.ShiftRange.ShiftRange, specs.Rules.landed, specs.Shifts.{as_key, delta_at}}
use Rattle.shift_data.{specs.declared.parts.Part.Part, specs.Moves.IsLawful, specs.Movers.{movers, IsMove}, specs.Parts.{from_on, within}, proofs.Applied.{united_past, run_lands}, proofs.Asked.all_within, proofs.Keys.{cut, each_within}, proofs.Lawful.{lawful, place}}

-- what leaves and what stays, part by part
module _ (shifts : List ShiftRange) (keys : List ℕ) (from : ℕ) (part : Part) (set : IsKeySet keys) (h : IsMove (delta_at shifts) keys from part) where
  movers_cut : movers (delta_at shifts) (from_on from keys) ≡ movers (delta_at shifts) (within part.first part.last keys) ++ movers (delta_at shifts) (from_on (part.last + 1) keys)
  movers_cut =
      ap (movers (delta_at shifts)) (cut keys from part.first part.last set.rising h.above h.order h.none_before)
      ∙ filter-append (λ key. not (int_eq (delta_at shifts key) (pos 0))) (within part.first part.last keys) (from_on (part.last + 1) keys)

  pub staying_step : int_eq part.delta (pos 0) ≡ true → movers (delta_at shifts) (from_on from keys) ≡ movers (delta_at shifts) (from_on (part.last + 1) keys)
  staying_step stays =
      movers_cut
      ∙ ap (λ xs. xs ++ movers (delta_at shifts) (from_on (part.last + 1) keys))
      (filter_none (λ key. not (int_eq (delta_at shifts key) (pos 0))) (within part.first part.last keys)
      (each_within (λ key. not (int_eq (delta_at shifts key) (pos 0)) ≡ false) keys part.first part.last (λ key above below. ap (λ d. not (int_eq d (pos 0))) (h.same key above below) ∙ not_from_true (int_eq part.delta (pos 0)) stays)))

  pub moving_step : int_eq part.delta (pos 0) ≡ false → movers (delta_at shifts) (from_on from keys) ≡ keys_from part.first part.last ++ movers (delta_at shifts) (from_on (part.last + 1) keys)
  moving_step moves =
      movers_cut
      ∙ ap (λ xs. xs ++ movers (delta_at shifts) (from_on (part.last + 1) keys))
      (filter_same (λ key. not (int_eq (delta_at shifts key) (pos 0))) (λ _. true) (within part.first part.last keys)
      (each_within (λ key. not (int_eq (delta_at shifts key) (pos 0)) ≡ true) keys part.first part.last (λ key above below. ap (λ d. not (int_eq d (pos 0))) (h.same key above below) ∙ not_from_false (int_eq part.delta (pos 0)) moves))
      ∙ filter_all (within part.first part.last keys)
      ∙ all_within keys part.first part.last set.rising (h.whole moves))

  pub left_more : (left : List ℕ) → int_eq part.delta (pos 0) ≡ false → left ++ movers (delta_at shifts) (from_on from keys) ≡ movers (delta_at shifts) keys → united (keys_from part.first part.last) left ++ movers (delta_at shifts) (from_on (part.last + 1) keys) ≡ movers (delta_at shifts) keys
  left_more left moves is =
      let rest : List ℕ = movers (delta_at shifts) (from_on (part.last + 1) keys) in
      let all : (left ++ keys_from part.first part.last) ++ rest ≡ movers (delta_at shifts) keys =
      append_assoc left (keys_from part.first part.last) rest ∙ ap (λ xs. left ++ xs) (sym (moving_step moves)) ∙ is in
      ap (λ xs. xs ++ rest) (united_past (keys_from part.first part.last) left (rising_front (left ++ keys_from part.first part.last) rest (subst IsRising (sym all) (rising_some (λ key. not (int_eq (delta_at shifts key) (pos 0))) keys set.rising))))
      ∙ all

  pub came_more : (came : List ℕ) (start end : ℕ) → IsLawful shifts keys → int_eq part.delta (pos 0) ≡ false → pos part.first +ℤ part.delta ≡ pos start → pos part.last +ℤ part.delta ≡ pos end → came ++ landed shifts (movers (delta_at shifts) (from_on from keys)) ≡ landed shifts (movers (delta_at shifts) keys) → united (keys_from start end) came ++ landed shifts (movers (delta_at shifts) (from_on (part.last + 1) keys)) ≡ landed shifts (movers (delta_at shifts) keys)
  came_more came start end law moves at until is =
      let rest : List ℕ = landed shifts (movers (delta_at shifts) (from_on (part.last + 1) keys)) in
      let step : landed shifts (movers (delta_at shifts) (from_on from keys)) ≡ keys_from start end ++ rest =
      ap (landed shifts) (moving_step moves)
      ∙ map-append (place shifts) (keys_from part.first part.last) (movers (delta_at shifts) (from_on (part.last + 1) keys))
      ∙ ap (λ xs. xs ++ rest) (run_lands shifts part.delta part.first part.last start end h.order h.same at until) in
      let all : (came ++ keys_from start end) ++ rest ≡ landed shifts (movers (delta_at shifts) keys) =
      append_assoc came (keys_from start end) rest ∙ ap (λ xs. came ++ xs) (sym step) ∙ is in
      ap (λ xs. xs ++ rest) (united_past (keys_from start end) came (rising_front (came ++ keys_from start end) rest (subst IsRising (sym all) (rising-filter (place shifts) (λ key. not (int_eq (delta_at shifts key) (pos 0))) keys (lawful shifts keys law).rising))))
      ∙ all

-- the keys that stay with those that came are the moved keys

staying_place : (shifts : List ShiftRange) (key : ℕ) → int_eq (delta_at shifts key) (pos 0) ≡ true → place shifts key ≡ key
staying_place shifts key stays = let same : key + 0 ≡ key = omega arith in ap (λ d. as_key (pos key +ℤ d)) ((signed_Decides (delta_at shifts key) (pos 0)).0 stays) ∙ same

among_moved : (shifts : List ShiftRange) (key : ℕ) (xs : List ℕ) → (is_among key (landed shifts (movers (delta_at shifts) xs)) || is_among key (filter (λ key. int_eq (delta_at shifts key) (pos 0)) xs)) ≡ is_among key (landed shifts xs)
among_moved shifts key [] = refl
among_moved shifts key (x ∷ xs) =
    (elim (int_eq (delta_at shifts x) (pos 0)) as (λ b. int_eq (delta_at shifts x) (pos 0) ≡ b → (is_among key (landed shifts (cond (not b) (x ∷ movers (delta_at shifts) xs) (movers (delta_at shifts) xs))) || is_among key (cond b (x ∷ filter (λ key. int_eq (delta_at shifts key) (pos 0)) xs) (filter (λ key. int_eq (delta_at shifts key) (pos 0)) xs))) ≡ ((place shifts x == key) || is_among key (landed shifts xs))) [
      | true ↦ λ e.
          or_swap (is_among key (landed shifts (movers (delta_at shifts) xs))) (x == key) (is_among key (filter (λ key. int_eq (delta_at shifts key) (pos 0)) xs))
          ∙ ap (λ b. (x == key) || b) (among_moved shifts key xs)
          ∙ ap (λ k. (k == key) || is_among key (landed shifts xs)) (sym (staying_place shifts x e))
      | false ↦ λ e.
          sym (or_assoc (place shifts x == key) (is_among key (landed shifts (movers (delta_at shifts) xs))) (is_among key (filter (λ key. int_eq (delta_at shifts key) (pos 0)) xs)))
          ∙ ap (λ b. (place shifts x == key) || b) (among_moved shifts key xs)
    ]) refl

-- without those that move, the others are left
movers_left : (shifts : List ShiftRange) (keys : List ℕ) → without (movers (delta_at shifts) keys) keys ≡ filter (λ key. int_eq (delta_at shifts key) (pos 0)) keys
movers_left shifts keys =
    filter_same (λ key. not (is_among key (movers (delta_at shifts) keys))) (λ key. int_eq (delta_at shifts key) (pos 0)) keys
    (every_weaker (λ key. is_among key keys ≡ true) (λ key. not (is_among key (movers (delta_at shifts) keys)) ≡ int_eq (delta_at shifts key) (pos 0)) keys
    (λ key among. ap not (among-filter (λ key. not (int_eq (delta_at shifts key) (pos 0))) key keys ∙ ap (λ b. not (int_eq (delta_at shifts key) (pos 0)) && b) among) ∙ twice (int_eq (delta_at shifts key) (pos 0)))
    (each_among keys))
  where
    twice : (b : Bool) → not (not b && true) ≡ b
    twice true = refl
    twice false = refl

pub moved_in_place : (shifts : List ShiftRange) (keys left came : List ℕ) → IsKeySet keys → IsLawful shifts keys → left ≡ movers (delta_at shifts) keys → came ≡ landed shifts (movers (delta_at shifts) keys) → united came (without left keys) ≡ landed shifts keys
moved_in_place shifts keys left came set law is_left is_came =
    ap (λ xs. united xs (without left keys)) is_came
    ∙ ap (λ xs. united (landed shifts (movers (delta_at shifts) keys)) (without xs keys)) is_left
    ∙ ap (united (landed shifts (movers (delta_at shifts) keys))) (movers_left shifts keys)
    ∙ rising_same (united (landed shifts (movers (delta_at shifts) keys)) (filter (λ key. int_eq (delta_at shifts key) (pos 0)) keys)) (landed shifts keys)
    (united_rises (landed shifts (movers (delta_at shifts) keys)) (filter (λ key. int_eq (delta_at shifts key) (pos 0)) keys) (rising_some (λ key. int_eq (delta_at shifts key) (pos 0)) keys set.rising))
    (lawful shifts keys law).rising
    (λ key. among-united key (landed shifts (movers (delta_at shifts) keys)) (filter (λ key. int_eq (delta_at shifts key) (pos 0)) keys) ∙ among_moved shifts key keys)

-- a delta whose bits are 0
pub zero_bits : (delta : ℤ) → SFits w64 delta → of_z w64 delta ≡ 0 → int_eq delta (pos 0) ≡ true
zero_bits delta fits e = (signed_Decides delta (pos 0)).1 (sym (to_z-of_z w64 delta fits) ∙ ap (to_z w64) e)

pub nonzero_bits : (delta : ℤ) → (of_z w64 delta ≡ 0 → ⊥) → int_eq delta (pos 0) ≡ false
nonzero_bits delta h = false_from_ne_true (int_eq delta (pos 0)) (λ e. h (ap (of_z w64) ((signed_Decides delta (pos 0)).0 e)))

-- where nothing moves
pub landed_none : (shifts : List ShiftRange) (keys : List ℕ) → length shifts < 1 → keys ≡ landed shifts keys
landed_none [] keys none =
    sym (map_own (place []) keys (every (λ key. place [] key ≡ key) keys (λ key.
    let same : key + 0 ≡ key = omega arith in
    same)))
landed_none (range ∷ shifts) keys none = absurd (omega (arith, none))
