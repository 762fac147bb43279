-- What a walk over keys or pairs has found so far.
use Rattle.std.proofs.Common.{◌≡◌, refl, ap, ap₂, sym, ◌∙◌, subst, Bool, true, false, cond, ℕ, ◌+◌, ◌<◌, ◌≤◌, ◌*◌, arith, List, [], ◌∷◌, ◌++◌, map, filter, length, length-append, get_or, get_or-append-add}
use Rattle.std.{specs.Prelude.slice_index, proofs.lemmas.List.{length-map, map-append}, proofs.lemmas.List.Elements.filter-append}
use Rattle.tick_model.{specs.declared.update.KeyPair.KeyPair, specs.Updates.Update}
use Rattle.tick_table.{specs.Exact.{IsExact, counted}, specs.Ticking.Ticking}
use Rattle.shown_rows.proofs.Restricted.{is_modified, kept, modified_new}

-- the key of one pair more, where it passes
pub named_next : (f : KeyPair → ℕ) (test : KeyPair → Bool) (some : List KeyPair) (pair : KeyPair) (found more : List ℕ) (answer : Bool) → found ≡ map f (filter test some) → answer ≡ test pair → more ≡ found ++ cond answer (f pair ∷ []) [] → more ≡ map f (filter test (some ++ pair ∷ []))
named_next f test some pair found more answer so_far is last =
    last ∙ ap₂ (λ ks b. ks ++ cond b (f pair ∷ []) []) so_far is
    ∙ ap (λ ks. map f (filter test some) ++ ks) (chosen (test pair))
    ∙ sym (map-append f (filter test some) (cond (test pair) (pair ∷ []) []))
    ∙ ap (map f) (sym (filter-append test some (pair ∷ [])))
  where
    chosen : (b : Bool) → cond b (f pair ∷ []) [] ≡ map f (cond b (pair ∷ []) [])
    chosen true = refl
    chosen false = refl

-- there are as many pairs of modified rows as modified keys
pub modified_count : (t : Ticking) (e : IsExact t) (pairs : List KeyPair) → pairs ≡ filter (is_modified t e) (kept t e) → length pairs ≡ length t.update.modified
modified_count t e pairs are = ap length are ∙ sym (length-map (filter (is_modified t e) (kept t e)) (λ (pair : KeyPair). pair.new)) ∙ ap length (sym (modified_new t e))

-- the key that a walk comes to stands at the place of its number
module _ (keys yielded : List ℕ) (key : ℕ) (others : List ℕ) (next : keys ≡ yielded ++ key ∷ others) where
  pub place_within : length yielded < length keys
  place_within = omega (arith, ap length next, length-append yielded (key ∷ others))

  pub key_at_place : slice_index keys (length yielded) ≡ key
  key_at_place = ap (λ n. slice_index keys n) (omega arith) ∙ ap (λ (ks : List ℕ). get_or ks (length yielded + 0) 0) next ∙ get_or-append-add yielded (key ∷ others) 0 0

-- the reads of a filter's step
pub where_reads : (width first second third : ℕ) (input output : Update) (coming : ℕ) → second ≤ first + width * (length input.added + length input.modified) → third ≤ second + width * (2 * length input.modified + coming) → length output.added ≡ coming → third ≤ first + 4 * (width + width) * (counted input + counted output)
where_reads width first second third input output coming h k came =
    within width first second third (length input.removed) (length input.added) (length input.modified) (length output.removed) (length output.added) (length output.modified) h
    (subst (λ n. third ≤ second + width * (2 * length input.modified + n)) (sym came) k)
  where
    within : (width first second third removed added modified gone come changed : ℕ) → second ≤ first + width * (added + modified) → third ≤ second + width * (2 * modified + come) → third ≤ first + 4 * (width + width) * ((removed + added + 2 * modified) + (gone + come + 2 * changed))
    within width first second third removed added modified gone come changed h k = omega (arith, h, k)
