-- Lists without what stands at some positions.
use Rattle.std.proofs.Common.{◌≡◌, refl, ap, sym, ◌∙◌, subst, Bool, true, false, cond, not, ◌||◌, ℕ, zero, suc, ◌+◌, ◌<◌, ◌≤◌, arith, List, [], ◌∷◌, ◌++◌, map, length, Option, Some, None}
use Rattle.std.{specs.Prelude.{filter, option_map, remove, slice_get}, specs.List.AllByRecursion, specs.Option.option_map_or, proofs.lemmas.Bool.{eq-eqb, ne_eqb}, proofs.lemmas.Option.slice_get-map}
use Rattle.key_lists.{specs.Keys.{is_among, IsRising}, proofs.Among.{among_below, among_past, each_among}, proofs.Every.{every, every_weaker}}
use Rattle.sort_op.{specs.Places.{AreUnder, left_from}, proofs.Made.held_within}

-- where none is left out
pub left_none : {X : Type 0} (first : ℕ) (entries : List X) → left_from first [] entries ≡ entries
left_none first [] = refl
left_none first (entry ∷ entries) = ap (λ others. entry ∷ others) (left_none (suc first) entries)

-- a position before the first entry leaves none out
left_past : {X : Type 0} (first position : ℕ) (later : List ℕ) (entries : List X) → position < first → left_from first (position ∷ later) entries ≡ left_from first later entries
left_past first position later [] past = refl
left_past first position later (entry ∷ entries) past =
    ap (λ b. cond b (left_from (suc first) (position ∷ later) entries) (entry ∷ left_from (suc first) (position ∷ later) entries)) (among_past first position later past)
    ∙ ap (λ others. cond (is_among first later) others (entry ∷ others)) (left_past (suc first) position later entries (omega (arith, past)))

none_here : (first position : ℕ) (later : List ℕ) → first ≤ position → AllByRecursion (λ other. position < other) later → is_among first later ≡ false
none_here first position later le above = among_below first later (every_weaker (λ other. position < other) (λ other. first < other) later (λ other less. omega (arith, less, le)) above)

-- the first of the positions, where those behind it are counted on
pub left_next : {X : Type 0} (entries : List X) (at first position : ℕ) (later : List ℕ) → position ≡ first + at → at < length entries → AllByRecursion (λ other. position < other) later
    → left_from first (position ∷ later) entries ≡ left_from (suc first) later (remove entries at)
left_next [] at first position later is within above = absurd (omega (arith, within))
left_next (entry ∷ entries) zero first position later is within above =
    ap (λ b. cond (b || is_among first later) (left_from (suc first) (position ∷ later) entries) (entry ∷ left_from (suc first) (position ∷ later) entries)) (eq-eqb position first (omega (arith, is)))
    ∙ left_past (suc first) position later entries (omega (arith, is))
left_next (entry ∷ entries) (suc at) first position later is within above =
    let others = left_from (suc (suc first)) later (remove entries at) in
    let other : is_among first (position ∷ later) ≡ false =
    ap (λ b. b || is_among first later) (ne_eqb position first (λ e. omega (arith, is, e))) ∙ none_here first position later (omega (arith, is)) above in
    ap (λ b. cond b (left_from (suc first) (position ∷ later) entries) (entry ∷ left_from (suc first) (position ∷ later) entries)) other
    ∙ ap (λ xs. entry ∷ xs) (left_next entries at (suc first) position later (omega (arith, is)) (omega (arith, within)) above)
    ∙ sym (ap (λ b. cond b others (entry ∷ others)) (none_here (suc first) position later (omega (arith, is)) above))

-- as many numbers as come before one that rises behind them are below it
many_below : (first : ℕ) (numbers : List ℕ) (number : ℕ) (others : List ℕ) → AllByRecursion (λ other. first ≤ other) (numbers ++ number ∷ others) → IsRising (numbers ++ number ∷ others) → first + length numbers ≤ number
many_below first [] number others from rising = omega (arith, from.0)
many_below first (other ∷ numbers) number others from rising =
    let rest = many_below (suc first) numbers number others (every_weaker (λ later. other < later) (λ later. suc first ≤ later) (numbers ++ number ∷ others) (λ later less. omega (arith, from.0, less)) rising.0) rising.1 in
    omega (arith, rest)

pub many_before : (numbers : List ℕ) (number : ℕ) (others : List ℕ) → IsRising (numbers ++ number ∷ others) → length numbers ≤ number
many_before numbers number others rising = omega (arith, many_below 0 numbers number others (every (λ (other : ℕ). 0 ≤ other) (numbers ++ number ∷ others) (λ other. omega arith)) rising)

pub next_before : {X : Type 0} (some : List X) (x : X) (others all : List X) → all ≡ (some ++ x ∷ []) ++ others → all ≡ some ++ x ∷ others
next_before [] x others all is = is
next_before (other ∷ some) x others all is = is ∙ ap (λ rest. other ∷ rest) (next_before some x others ((some ++ x ∷ []) ++ others) refl)

-- where the positions are those that pass a test
left_passed : {X : Type 0} (p : X → Bool) (positions : List ℕ) (first : ℕ) (entries : List X) → ((position at : ℕ) → position ≡ first + at → is_among position positions ≡ option_map_or p (slice_get entries at) false) → left_from first positions entries ≡ filter (λ entry. not (p entry)) entries
left_passed p positions first [] h = refl
left_passed p positions first (entry ∷ entries) h =
    ap (λ b. cond b (left_from (suc first) positions entries) (entry ∷ left_from (suc first) positions entries)) (h first 0 (omega arith))
    ∙ turned (p entry) (left_passed p positions (suc first) entries (λ position at is. h position (suc at) (omega (arith, is))))
  where
    turned : (b : Bool) {xs ys : List _} → xs ≡ ys → cond b xs (entry ∷ xs) ≡ cond (not b) (entry ∷ ys) ys
    turned true e = e
    turned false e = ap (λ xs. entry ∷ xs) e

-- the positions of those whose keys are some
module _ {X : Type 0} (f : X → ℕ) (xs : List X) (some positions : List ℕ) (under : AreUnder (map f xs) some positions) where
  pub under_here : (position : ℕ) → is_among position positions ≡ option_map_or (λ x. is_among (f x) some) (slice_get xs position) false
  under_here position = under position ∙ ap (λ o. option_map_or (λ key. is_among key some) o false) (slice_get-map f xs position) ∙ go (slice_get xs position)
    where
      go : (o : Option X) → option_map_or (λ key. is_among key some) (option_map f o) false ≡ option_map_or (λ x. is_among (f x) some) o false
      go None = refl
      go (Some x) = refl

  pub under_within : AllByRecursion (λ position. position < length xs) positions
  under_within =
      every_weaker (λ position. is_among position positions ≡ true) (λ position. position < length xs) positions
      (λ position own. held_within (λ x. is_among (f x) some) xs position (sym (under_here position) ∙ own)) (each_among positions)

  pub under_left : left_from 0 positions xs ≡ filter (λ x. not (is_among (f x) some)) xs
  under_left = left_passed (λ x. is_among (f x) some) positions 0 xs (λ position at is. under_here position ∙ ap (λ n. option_map_or (λ x. is_among (f x) some) (slice_get xs n) false) (let same : position ≡ at = omega (arith, is) in same))
