-- The modified rows of an exact table that are told one after the other, by their places.
use Rattle.std.proofs.Common.{◌≡◌, refl, ap, sym, ◌∙◌, ◌&&◌, ◌||◌, Bool, false, ℕ, ◌<◌, arith, List, [], ◌∷◌, ◌++◌, map, filter, length, get_or, length-append}
use Rattle.std.{specs.List.list_any, specs.Prelude.slice_index, proofs.lemmas.List.{length-map, map-append}, proofs.lemmas.List.Folds.list_any-append}
use Rattle.key_lists.proofs.Booleans.{or_false}
use Rattle.row_changes.proofs.Comparing.{column_next}
use Rattle.table_update.specs.Kept.{old_modified}
use Rattle.tick_model.{specs.declared.update.KeyPair.KeyPair, specs.Tables.keys, specs.Updates.{new_keys, old_keys}}
use Rattle.tick_table.{specs.Exact.IsExact, specs.Ticking.Ticking}
use Rattle.shown_rows.proofs.Restricted.{is_modified, kept, modified_new, modified_old}

at_seam : (f : KeyPair → ℕ) (some : List KeyPair) (pair : KeyPair) (others : List KeyPair) → get_or (map f (some ++ pair ∷ others)) (length some) 0 ≡ f pair
at_seam f [] pair others = refl
at_seam f (first ∷ some) pair others = at_seam f some pair others

-- the next of the pairs that are modified stands at the place of its number
module _ (t : Ticking) (e : IsExact t) (yielded : List KeyPair) (pair : KeyPair) (others : List KeyPair) (next : filter (is_modified t e) (kept t e) ≡ yielded ++ pair ∷ others) where
  pub place_within : length yielded < length t.update.modified
  place_within = omega (arith, ap length (modified_new t e ∙ ap new_keys next), length-map (yielded ++ pair ∷ others) (λ (pair : KeyPair). pair.new), length-append yielded (pair ∷ others))

  pub new_at : slice_index t.update.modified (length yielded) ≡ pair.new
  new_at = ap (λ (ks : List ℕ). get_or ks (length yielded) 0) (modified_new t e ∙ ap new_keys next) ∙ at_seam (λ pair. pair.new) yielded pair others

  pub old_at : slice_index (old_modified (keys t.old.rows) t.update) (length yielded) ≡ pair.old
  old_at = ap (λ (ks : List ℕ). get_or ks (length yielded) 0) (modified_old t e ∙ ap old_keys next) ∙ at_seam (λ pair. pair.old) yielded pair others

-- what is told with one more of them
pub keys_told : (some all : List KeyPair) (pair : KeyPair) (told more : List ℕ) → all ≡ some ++ pair ∷ [] → told ≡ new_keys some → more ≡ told ++ pair.new ∷ [] → more ≡ new_keys all
keys_told some all pair told more one h m = m ∙ ap (λ (ks : List ℕ). ks ++ pair.new ∷ []) h ∙ sym (map-append (λ (pair : KeyPair). pair.new) some (pair ∷ [])) ∙ ap new_keys (sym one)

pub column_told : (differ : KeyPair → Bool) (some all : List KeyPair) (pair : KeyPair) (less was is : Bool) → all ≡ some ++ pair ∷ [] → was ≡ (less && list_any differ some) → is ≡ (was || (less && differ pair)) → is ≡ (less && list_any differ all)
column_told differ some all pair less was is one h m =
    m
    ∙ ap (λ b. b || (less && differ pair)) h
    ∙ column_next false less (list_any differ some) (differ pair)
    ∙ ap (λ any. less && any) (ap (λ b. list_any differ some || b) (sym (or_false (differ pair))) ∙ sym (list_any-append differ some (pair ∷ [])) ∙ ap (list_any differ) (sym one))
