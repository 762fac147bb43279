-- The key at a position, by the handle that stands there.
use Rattle.std.proofs.Common.{◌≡◌, refl, ap, sym, ◌∙◌, ℕ, ◌≤◌, List, [], ◌∷◌, length, Option, Some, None}
use Rattle.std.{specs.Prelude.{option_map, slice_get}, specs.Option.option_map_or, proofs.lemmas.Option.{none-some, slice_get-map, slice_get_past}}
use Rattle.sort_op.{specs.declared.entry.Entry.Entry, specs.Places.key_at, specs.Ranks.{Ranking, entry_in, key_in, listed}}

pub first_none : (xs : List ℕ) → slice_get xs 0 ≡ None → length xs ≡ 0
first_none [] none = refl
first_none (x ∷ xs) none = absurd (none-some x (sym none))

module _ (ranking : Ranking) (position : ℕ) where
  by_handle : (o : Option ℕ) → slice_get ranking.rows position ≡ o → key_at (listed ranking) position ≡ option_map_or (λ (entry : Entry). entry.key) (option_map (entry_in ranking) o) 0
  by_handle o at = ap (λ o. option_map_or (λ (entry : Entry). entry.key) o 0) (slice_get-map (entry_in ranking) ranking.rows position ∙ ap (option_map (entry_in ranking)) at)

  pub key_listed : (handle : ℕ) → slice_get ranking.rows position ≡ Some handle → key_at (listed ranking) position ≡ key_in ranking.handles handle
  key_listed handle at = by_handle (Some handle) at

  pub key_past : length ranking.rows ≤ position → key_at (listed ranking) position ≡ 0
  key_past past = by_handle None (slice_get_past ranking.rows position past)
