-- The number to which key cells lead, where one of them changes.
use Rattle.std.proofs.Common.{◌≡◌, refl, ap, sym, ◌∙◌, subst, Bool, true, false, List, [], ◌∷◌, length, ◌++◌, ◌+◌, get_or, arith, ℕ, ◌<◌, ℤ, pos, negsuc, Option, Some, None, if◌then◌else◌}
use Rattle.std.{specs.Prelude.nat_lt, specs.Option.option_map_or, specs.Map.KeepsOthers, specs.HashMap.{UpdatesBy, get_by}, specs.Ordering.int_eq, specs.Cmp.Lexicographic.pointwise, specs.Cmp.Rules.signed_items, specs.Global.Vec, proofs.lemmas.Bool.{false_from_ne_true, lt-ltb, ltb-false, ltb-true}, proofs.lemmas.List.{get_or_append_left, get_or_push, length_push}, proofs.lemmas.Option.{none-some, same_Some}}
use Rattle.tick_model.specs.Tables.{same_cells}
use Rattle.row_groups.{specs.declared.numbers.GroupNumbers.GroupNumbers, specs.Rows.{Leads, number_below, number_under, place_in, single_cell}, proofs.Parts.unlike}

abbrev pub same_key : Vec ℤ → Vec ℤ → Bool
same_key x y = pointwise int_eq x.items y.items

abbrev pub has_cells : List ℤ → Vec ℤ → Bool
has_cells cells key = same_cells cells key.items

-- the number under other cells stays where that under some cells changes
pub renumbered : (cells other : List ℤ) (old new : GroupNumbers) (number : Option ℕ) → Leads cells number old new → same_cells cells other ≡ false → number_under other new ≡ number_under other old
renumbered cells other old new number leads e = leads other ∙ ap (λ b. if b then number else number_under other old) e

pub numbered_as : (cells : List ℤ) (old new : GroupNumbers) (number : Option ℕ) → Leads cells number old new → number_under cells new ≡ number
numbered_as cells old new number leads = leads cells ∙ ap (λ b. if b then number else number_under cells old) ((signed_items cells cells).1 refl)

-- it is enough to look at these cells and at the others
leads_by : (cells : List ℤ) (number : Option ℕ) (old new : GroupNumbers) → number_under cells new ≡ number → ((other : List ℤ) → same_cells cells other ≡ false → number_under other new ≡ number_under other old) → Leads cells number old new
leads_by cells number old new own others other = by_test (same_cells cells other) refl
  where
    by_test : (b : Bool) → same_cells cells other ≡ b → number_under other new ≡ (if b then number else number_under other old)
    by_test true e = ap (λ cs. number_under cs new) (sym ((signed_items cells other).0 e)) ∙ own
    by_test false e = others other e

single_is : (cells : List ℤ) (cell : ℕ) → single_cell cells ≡ Some cell → cells ≡ pos cell ∷ []
single_is [] cell e = absurd (none-some cell e)
single_is (pos n ∷ []) cell e = ap (λ m. pos m ∷ []) (same_Some n cell e)
single_is (pos n ∷ c ∷ cells) cell e = absurd (none-some cell e)
single_is (negsuc n ∷ []) cell e = absurd (none-some cell e)
single_is (negsuc n ∷ c ∷ cells) cell e = absurd (none-some cell e)

-- cells with a place in the list
place_is : (cells : List ℤ) (by_cell : List ℕ) (place : ℕ) → place_in cells by_cell ≡ Some place → (cells ≡ pos place ∷ []) × (place < length by_cell)
place_is cells by_cell place e = by_single (single_cell cells) refl e
  where
    by_test : (n : ℕ) → single_cell cells ≡ Some n → (b : Bool) → nat_lt n (length by_cell) ≡ b → (if b then Some n else None) ≡ Some place → (cells ≡ pos place ∷ []) × (place < length by_cell)
    by_test n single true lt same = (single_is cells n single ∙ ap (λ m. pos m ∷ []) (same_Some n place same), subst (λ m. m < length by_cell) (same_Some n place same) (ltb-true n (length by_cell) lt))
    by_test n single false lt same = absurd (none-some place same)

    by_single : (s : Option ℕ) → single_cell cells ≡ s → option_map_or (λ n. if nat_lt n (length by_cell) then Some n else None) s None ≡ Some place → (cells ≡ pos place ∷ []) × (place < length by_cell)
    by_single None single same = absurd (none-some place same)
    by_single (Some n) single same = by_test n single (nat_lt n (length by_cell)) refl same

at_place : (cells : List ℤ) (place : ℕ) (numbers : GroupNumbers) → place_in cells numbers.by_cell.items ≡ Some place → number_under cells numbers ≡ number_below (get_or numbers.by_cell.items place 0)
at_place cells place numbers e = ap (λ p. option_map_or (λ n. number_below (get_or numbers.by_cell.items n 0)) p (get_by (has_cells cells) numbers.by_cells)) e

by_hash : (cells : List ℤ) (numbers : GroupNumbers) → place_in cells numbers.by_cell.items ≡ None → number_under cells numbers ≡ get_by (has_cells cells) numbers.by_cells
by_hash cells numbers e = ap (λ p. option_map_or (λ n. number_below (get_or numbers.by_cell.items n 0)) p (get_by (has_cells cells) numbers.by_cells)) e

-- the number under some cells stays where those with a place have the same there, and the others the same in the map
stays : (other : List ℤ) (old new : GroupNumbers) → place_in other new.by_cell.items ≡ place_in other old.by_cell.items → ((place : ℕ) → place_in other old.by_cell.items ≡ Some place → get_or new.by_cell.items place 0 ≡ get_or old.by_cell.items place 0) → (place_in other old.by_cell.items ≡ None → get_by (has_cells other) new.by_cells ≡ get_by (has_cells other) old.by_cells) → number_under other new ≡ number_under other old
stays other old new places listed hashed = by_place (place_in other old.by_cell.items) refl
  where
    by_place : (p : Option ℕ) → place_in other old.by_cell.items ≡ p → number_under other new ≡ number_under other old
    by_place None e = by_hash other new (places ∙ e) ∙ hashed e ∙ sym (by_hash other old e)
    by_place (Some place) e = at_place other place new (places ∙ e) ∙ ap number_below (listed place e) ∙ sym (at_place other place old e)

-- another number in the map
key_test : (cells : List ℤ) (x y : Vec ℤ) → has_cells cells x ≡ true → has_cells cells y ≡ same_key x y
key_test cells x y h = ap (λ cs. same_cells cs y.items) ((signed_items cells x.items).0 h)

apart_keys : (cells other : List ℤ) → same_cells cells other ≡ false → (key : Vec ℤ) → has_cells cells key ≡ true → has_cells other key ≡ false
apart_keys cells other e key h =
    false_from_ne_true (has_cells other key) (λ own. unlike (same_cells cells other) ((signed_items cells other).1 ((signed_items cells key.items).0 h ∙ sym ((signed_items other key.items).0 own))) e)

hashed_apart : (cells other : List ℤ) (number : Option ℕ) (old new : GroupNumbers) → UpdatesBy same_key (has_cells cells) old.by_cells new.by_cells number → same_cells cells other ≡ false → get_by (has_cells other) new.by_cells ≡ get_by (has_cells other) old.by_cells
unfolding KeepsOthers
hashed_apart cells other number old new updates differ = updates.3 (has_cells other) (key_test other) (apart_keys cells other differ)

pub leads_hashed : (cells : List ℤ) (number : Option ℕ) (old new : GroupNumbers) → place_in cells old.by_cell.items ≡ None → new.by_cell ≡ old.by_cell → UpdatesBy same_key (has_cells cells) old.by_cells new.by_cells number → Leads cells number old new
unfolding KeepsOthers
leads_hashed cells number old new none list updates =
    leads_by cells number old new (by_hash cells new (ap (λ (l : Vec ℕ). place_in cells l.items) list ∙ none) ∙ updates.1)
    (λ other differ.
    stays other old new (ap (λ (l : Vec ℕ). place_in other l.items) list) (λ n e. ap (λ (l : Vec ℕ). get_or l.items n 0) list)
    (λ e. hashed_apart cells other number old new updates differ))

-- where the next cell gets a place in the list, and its number goes there
module _ (old new : GroupNumbers) (above : ℕ) (list : new.by_cell.items ≡ old.by_cell.items ++ above ∷ []) (is : number_below above ≡ get_by (has_cells (pos (length old.by_cell.items) ∷ [])) old.by_cells)
    (updates : UpdatesBy same_key (has_cells (pos (length old.by_cell.items) ∷ [])) old.by_cells new.by_cells None) where
  longer : length new.by_cell.items ≡ length old.by_cell.items + 1
  longer = ap length list ∙ length_push old.by_cell.items above

  at_old : (n : ℕ) → n < length new.by_cell.items → (b : Bool) → nat_lt n (length old.by_cell.items) ≡ b → number_below (get_or new.by_cell.items n 0) ≡ number_under (pos n ∷ []) old
  at_old n lt true e =
      ap (λ (xs : List ℕ). number_below (get_or xs n 0)) list
      ∙ ap number_below (get_or_append_left old.by_cell.items (above ∷ []) 0 n (ltb-true n (length old.by_cell.items) e))
      ∙ sym (at_place (pos n ∷ []) n old (ap (λ b. if b then Some n else None) e))
  at_old n lt false e =
      let last : length old.by_cell.items ≡ n = omega (arith, lt, longer, ltb-false n (length old.by_cell.items) e) in
      ap (λ (xs : List ℕ). number_below (get_or xs n 0)) list
      ∙ ap number_below (get_or_push old.by_cell.items above 0 n last)
      ∙ is
      ∙ ap (λ m. get_by (has_cells (pos m ∷ [])) old.by_cells) last
      ∙ sym (by_hash (pos n ∷ []) old (ap (λ b. if b then Some n else None) e))

  no_place : (other : List ℤ) → place_in other new.by_cell.items ≡ None → (n : ℕ) → n < length new.by_cell.items → other ≡ pos n ∷ [] → ⊥
  no_place other none n lt e = none-some n (sym none ∙ ap (λ cs. place_in cs new.by_cell.items) e ∙ ap (λ b. if b then Some n else None) (lt-ltb n (length new.by_cell.items) lt))

  pub grown : (other : List ℤ) → number_under other new ≡ number_under other old
  grown other = by_place (place_in other new.by_cell.items) refl
    where
      apart : place_in other new.by_cell.items ≡ None → same_cells (pos (length old.by_cell.items) ∷ []) other ≡ false
      apart e = false_from_ne_true (same_cells (pos (length old.by_cell.items) ∷ []) other) (λ own. no_place other e (length old.by_cell.items) (omega (arith, longer)) (sym ((signed_items (pos (length old.by_cell.items) ∷ []) other).0 own)))

      none_old : place_in other new.by_cell.items ≡ None → (p : Option ℕ) → place_in other old.by_cell.items ≡ p → p ≡ None
      none_old none None e = refl
      none_old none (Some n) e = let at = place_is other old.by_cell.items n e in absurd (no_place other none n (omega (arith, at.1, longer)) at.0)

      by_place : (p : Option ℕ) → place_in other new.by_cell.items ≡ p → number_under other new ≡ number_under other old
      by_place None e = by_hash other new e ∙ hashed_apart (pos (length old.by_cell.items) ∷ []) other None old new updates (apart e) ∙ sym (by_hash other old (none_old e (place_in other old.by_cell.items) refl))
      by_place (Some n) e =
          let at = place_is other new.by_cell.items n e in
          at_place other n new e ∙ at_old n at.1 (nat_lt n (length old.by_cell.items)) refl ∙ ap (λ cs. number_under cs old) (sym at.0)

-- the numbers are those of others, of which some become others
pub leads_after : (cells : List ℤ) (number : Option ℕ) (old mid new : GroupNumbers) → ((other : List ℤ) → number_under other mid ≡ number_under other old) → Leads cells number mid new → Leads cells number old new
leads_after cells number old mid new same leads other = leads other ∙ ap (λ n. if same_cells cells other then number else n) (same other)
