-- Keys to which rows that stay move, and the rules of the added and the modified keys.
use Rattle.std.proofs.Common.{◌≡◌, refl, ap, sym, ◌∙◌, Bool, true, false, cond, not, ◌&&◌, ◌||◌, ℕ, List, [], ◌∷◌, ◌++◌, filter, Some}
use Rattle.std.specs.Prelude.{find, slice_get}
use Rattle.key_lists.{specs.Keys.{is_among, IsRising}, proofs.Among.{among-filter, among-append, each_among}, proofs.Every.{every_weaker, filter-map, and_swap, find_same}, proofs.Rising.{rising_some, rising_same}, proofs.Booleans.and_true}
use Rattle.row_set.{specs.Sets.{common, united}, proofs.United.among-united}
use Rattle.tick_model.{specs.declared.update.ShiftRange.ShiftRange, specs.Shifts.{moved, as_key}, specs.Rules.landed}
use Rattle.shift_data.specs.Moves.{IsLawful, unapplied}
use Rattle.table_update.proofs.LawfulParts.{places_rise}

pub common_swap : (keys others : List ℕ) → IsRising keys → IsRising others → common keys others ≡ common others keys
common_swap keys others r s =
    rising_same (common keys others) (common others keys) (rising_some (λ key. is_among key others) keys r) (rising_some (λ key. is_among key keys) others s)
    (λ key. among-filter (λ key. is_among key others) key keys ∙ and_swap (is_among key others) (is_among key keys) ∙ sym (among-filter (λ key. is_among key keys) key others))

-- the places of the rows that are asked for are those of the places that are asked for
pub landed-unapplied : (shifts : List ShiftRange) (survivors keys : List ℕ) → IsLawful shifts survivors → IsRising keys → landed shifts (unapplied shifts survivors keys) ≡ common keys (landed shifts survivors)
landed-unapplied shifts survivors keys lawful rising =
    sym (filter-map (λ key. is_among key keys) (λ key. as_key (moved shifts key)) survivors)
    ∙ common_swap (landed shifts survivors) keys (places_rise shifts survivors lawful) rising

-- the first that passes a test
pub get-filter : (p : ℕ → Bool) (xs : List ℕ) → slice_get (filter p xs) 0 ≡ find p xs
get-filter p [] = refl
get-filter p (x ∷ xs) = elim (p x) as (λ b. slice_get (cond b (x ∷ filter p xs) (filter p xs)) 0 ≡ cond b (Some x) (find p xs)) [ true ↦ refl | false ↦ get-filter p xs ]

-- a modified key that is neither among the places that are modified nor added
pub absent_places : (modified places added : List ℕ) → find (λ key. not (is_among key (united (common modified places) added))) modified ≡ find (λ key. not (is_among key (places ++ added))) modified
absent_places modified places added =
    find_same (λ key. not (is_among key (united (common modified places) added))) (λ key. not (is_among key (places ++ added))) modified
    (every_weaker (λ key. is_among key modified ≡ true) (λ key. not (is_among key (united (common modified places) added)) ≡ not (is_among key (places ++ added))) modified
    (λ key here.
    ap not
    (among-united key (common modified places) added
    ∙ ap (λ b. b || is_among key added) (among-filter (λ key. is_among key places) key modified ∙ ap (λ b. is_among key places && b) here ∙ and_true (is_among key places))
    ∙ sym (among-append key places added)))
    (each_among modified))
