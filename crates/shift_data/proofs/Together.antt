-- Keys that move twice, at once.
use Rattle.std.proofs.Common.{◌≡◌, refl, ap, sym, ◌∙◌, subst, false, ℕ, ◌^◌, List, map, pos}
use Rattle.std.specs.List.{AllByRecursion}
use Rattle.key_lists.{specs.Keys.IsRising, proofs.Every.{every, every_both, every_unmapped, every_weaker, map_map, map_own, map_same}}
use Rattle.row_set.specs.Sets.{IsKeySet}
use Rattle.tick_laws.proofs.Moves.{each_lands}
use Rattle.tick_model.{specs.declared.update.ShiftRange.ShiftRange, specs.Rules.{is_past, landed}, specs.Shifts.{as_key, moved}}
use Rattle.shift_data.{specs.Moves.{IsLawful, canonical_through, pair_through}, proofs.Lawful.{lawful, not_past, place}}

module _ (shifts next : List ShiftRange) (keys : List ℕ) (law : IsLawful shifts keys) (next_law : IsLawful next (landed shifts keys)) (set : IsKeySet keys) where
  abbrev both : List ShiftRange
  both = canonical_through shifts next keys

  abbrev last_place : ℕ → ℕ
  last_place key = place next (place shifts key)

  -- each key lands where both shifts lead it, one after the other
  lands : AllByRecursion (λ key. moved both key ≡ pos (last_place key)) keys
  lands =
      every_unmapped (λ pair. moved both pair.old ≡ pos pair.new) (pair_through shifts next) keys
      (each_lands (map (pair_through shifts next) keys) (subst IsRising (sym (map_map (λ pair. pair.old) (pair_through shifts next) keys ∙ map_own (λ key. key) keys (every (λ key. key ≡ key) keys (λ key. refl)))) set.rising))

  pub all_land : landed both keys ≡ landed next (landed shifts keys)
  all_land =
      map_same (place both) last_place keys (every_weaker (λ key. moved both key ≡ pos (last_place key)) (λ key. place both key ≡ last_place key) keys (λ key at. ap as_key at) lands)
      ∙ sym (map_map (place next) (place shifts) keys)

  pub all_rise : IsRising (landed both keys)
  all_rise = subst IsRising (sym all_land) (lawful next (landed shifts keys) next_law).rising

  pub all_inside : AllByRecursion (λ key. is_past (2 ^ 62) (moved both key) ≡ false) keys
  all_inside =
      every_both (λ key. moved both key ≡ pos (last_place key)) (λ key. is_past (2 ^ 62) (moved next (place shifts key)) ≡ false) (λ key. is_past (2 ^ 62) (moved both key) ≡ false) keys
      (λ key at inside. ap (is_past (2 ^ 62)) (at ∙ sym (not_past (2 ^ 62) (moved next (place shifts key)) inside).0) ∙ inside)
      lands
      (every_unmapped (λ key. is_past (2 ^ 62) (moved next key) ≡ false) (place shifts) keys (lawful next (landed shifts keys) next_law).inside)
