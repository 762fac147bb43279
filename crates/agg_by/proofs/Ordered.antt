-- Cells in order: one comes to its place and goes again, and the last one is the greatest.
use Rattle.std.proofs.Common.{◌≡◌, refl, ap, sym, ◌∙◌, Bool, true, false, cond, ℕ, suc, ◌-◌, arith, List, [], ◌∷◌, length, map, Option, Some, true≢false, ℤ, int_lt, fold, if◌then◌else◌}
use Rattle.std.{specs.Int.{int_min, int_max}, specs.List.AllByRecursion, specs.Option.option_map_or, specs.Prelude.{slice_get, unwrap_or}, proofs.lemmas.Int.{clamps, ints}}
use Rattle.key_lists.proofs.Every.{every_weaker}
use Rattle.row_groups.proofs.Order.{later_too, lt_from, lt_to, not_lt_from, not_lt_to}
use Rattle.tick_model.{specs.Agg.over, specs.Tables.null}
use Rattle.agg_by.specs.Values.{Ascends, greatest, in_order, last, least, opposite, opposites, placed, unplaced}

less_then : (x y : ℤ) → int_lt y x ≡ true → int_lt x y ≡ false
less_then x y e = not_lt_to x y (omega (arith, ints, lt_from y x e))

pub not_itself : (x : ℤ) → int_lt x x ≡ false
not_itself x = not_lt_to x x (omega (arith, ints))

-- before the first that is no less
placed_by : (x y : ℤ) (ys : List ℤ) (b : Bool) → int_lt y x ≡ b → placed x (y ∷ ys) ≡ (if b then y ∷ placed x ys else x ∷ y ∷ ys)
placed_by x y ys b e = ap (λ b. if b then y ∷ placed x ys else x ∷ y ∷ ys) e

unplaced_by : (x y : ℤ) (ys : List ℤ) (b : Bool) → int_lt y x ≡ b → unplaced x (y ∷ ys) ≡ (if b then y ∷ unplaced x ys else ys)
unplaced_by x y ys b e = ap (λ b. if b then y ∷ unplaced x ys else ys) e

every-placed : (P : ℤ → Type 0) (x : ℤ) (ys : List ℤ) → P x → AllByRecursion P ys → AllByRecursion P (placed x ys)
every-placed P x [] p h = (p, tt)
every-placed P x (y ∷ ys) p h =
    elim (int_lt y x) as (λ b. AllByRecursion P (if b then y ∷ placed x ys else x ∷ y ∷ ys)) [
      | true ↦ (h.0, every-placed P x ys p h.1)
      | false ↦ (p, h)
    ]

every-unplaced : (P : ℤ → Type 0) (x : ℤ) (ys : List ℤ) → AllByRecursion P ys → AllByRecursion P (unplaced x ys)
every-unplaced P x [] h = tt
every-unplaced P x (y ∷ ys) h =
    elim (int_lt y x) as (λ b. AllByRecursion P (if b then y ∷ unplaced x ys else ys)) [
      | true ↦ (h.0, every-unplaced P x ys h.1)
      | false ↦ h.1
    ]

pub placed_ascends : (x : ℤ) (ys : List ℤ) → Ascends ys → Ascends (placed x ys)
placed_ascends x [] h = (tt, tt)
placed_ascends x (y ∷ ys) h = by (int_lt y x) refl (placed_ascends x ys h.1)
  where
    by : (b : Bool) → int_lt y x ≡ b → Ascends (placed x ys) → Ascends (if b then y ∷ placed x ys else x ∷ y ∷ ys)
    by true e rest = (every-placed (λ z. int_lt z y ≡ false) x ys (less_then x y e) h.0, rest)
    by false e rest = ((e, every_weaker (λ z. int_lt z y ≡ false) (λ z. int_lt z x ≡ false) ys (λ z f. later_too x y z e f) h.0), h)

pub unplaced_ascends : (x : ℤ) (ys : List ℤ) → Ascends ys → Ascends (unplaced x ys)
unplaced_ascends x [] h = tt
unplaced_ascends x (y ∷ ys) h =
    elim (int_lt y x) as (λ b. Ascends (if b then y ∷ unplaced x ys else ys)) [
      | true ↦ (every-unplaced (λ z. int_lt z y ≡ false) x ys h.0, unplaced_ascends x ys h.1)
      | false ↦ h.1
    ]

pub in_order_ascends : (xs : List ℤ) → Ascends (in_order xs)
in_order_ascends [] = tt
in_order_ascends (x ∷ xs) = placed_ascends x (in_order xs) (in_order_ascends xs)

-- a cell that came goes again
pub unplaced-placed : (x : ℤ) (ys : List ℤ) → unplaced x (placed x ys) ≡ ys
unplaced-placed x [] = unplaced_by x x [] false (not_itself x)
unplaced-placed x (y ∷ ys) = by (int_lt y x) refl (unplaced-placed x ys)
  where
    by : (b : Bool) → int_lt y x ≡ b → unplaced x (placed x ys) ≡ ys → unplaced x (if b then y ∷ placed x ys else x ∷ y ∷ ys) ≡ y ∷ ys
    by true e rest = unplaced_by x y (placed x ys) true e ∙ ap (λ zs. y ∷ zs) rest
    by false e rest = unplaced_by x x (y ∷ ys) false (not_itself x)

-- which of two cells comes first makes no difference
lesser_first : (x y : ℤ) (zs : List ℤ) → int_lt x y ≡ true → placed x (placed y zs) ≡ placed y (placed x zs)
lesser_first x y [] e = placed_by x y [] false (less_then y x e) ∙ sym (placed_by y x [] true e)
lesser_first x y (z ∷ zs) e = by (int_lt z x) (int_lt z y) refl refl (lesser_first x y zs e)
  where
    through : int_lt z x ≡ true → int_lt z y ≡ false → true ≡ false
    through f g = sym (lt_to z y (omega (arith, ints, lt_from z x f, lt_from x y e))) ∙ g

    by : (b c : Bool) → int_lt z x ≡ b → int_lt z y ≡ c → placed x (placed y zs) ≡ placed y (placed x zs) → placed x (placed y (z ∷ zs)) ≡ placed y (placed x (z ∷ zs))
    by true true f g rest =
        ap (placed x) (placed_by y z zs true g) ∙ placed_by x z (placed y zs) true f ∙ ap (λ s. z ∷ s) rest
        ∙ sym (placed_by y z (placed x zs) true g) ∙ ap (placed y) (sym (placed_by x z zs true f))
    by true false f g rest = absurd (true≢false (through f g))
    by false true f g rest =
        ap (placed x) (placed_by y z zs true g) ∙ placed_by x z (placed y zs) false f ∙ ap (λ s. x ∷ s) (sym (placed_by y z zs true g))
        ∙ sym (placed_by y x (z ∷ zs) true e) ∙ ap (placed y) (sym (placed_by x z zs false f))
    by false false f g rest =
        ap (placed x) (placed_by y z zs false g) ∙ placed_by x y (z ∷ zs) false (less_then y x e) ∙ ap (λ s. x ∷ s) (sym (placed_by y z zs false g))
        ∙ sym (placed_by y x (z ∷ zs) true e) ∙ ap (placed y) (sym (placed_by x z zs false f))

pub either_first : (x y : ℤ) (zs : List ℤ) → placed x (placed y zs) ≡ placed y (placed x zs)
either_first x y zs = by (int_lt x y) (int_lt y x) refl refl
  where
    by : (b c : Bool) → int_lt x y ≡ b → int_lt y x ≡ c → placed x (placed y zs) ≡ placed y (placed x zs)
    by true c e f = lesser_first x y zs e
    by false true e f = sym (lesser_first y x zs f)
    by false false e f = ap (λ z. placed x (placed z zs)) (sym same) ∙ ap (λ z. placed z (placed x zs)) same
      where
        same : x ≡ y
        same = omega (arith, ints, not_lt_from x y e, not_lt_from y x f)

-- the last one, or else another
abbrev pub final : ℤ → List ℤ → ℤ
final d [] = d
final d (x ∷ xs) = final x xs

pub last_final : (x : ℤ) (xs : List ℤ) → last (x ∷ xs) ≡ Some (final x xs)
last_final x [] = refl
last_final x (y ∷ ys) = ap (slice_get (x ∷ y ∷ ys)) (back (length ys)) ∙ last_final y ys
  where
    back : (n : ℕ) → suc (suc n) - 1 ≡ suc (suc n - 1)
    back n = omega arith

pub final_above : (y : ℤ) (ys : List ℤ) → Ascends (y ∷ ys) → int_lt (final y ys) y ≡ false
final_above y [] h = not_itself y
final_above y (z ∷ zs) h = later_too y z (final z zs) h.0.0 (final_above z zs h.1)

final-placed : (d x : ℤ) (ys : List ℤ) → Ascends ys → final d (placed x ys) ≡ int_max x (final x ys)
final-placed d x [] h = omega (arith, ints, clamps)
final-placed d x (y ∷ ys) h = by (int_lt y x) refl (final-placed y x ys h.1)
  where
    over_less : int_lt y x ≡ true → (zs : List ℤ) → int_max x (final x zs) ≡ int_max x (final y zs)
    over_less e [] = let below = lt_from y x e in omega (arith, ints, clamps)
    over_less e (z ∷ zs) = refl

    by : (b : Bool) → int_lt y x ≡ b → final y (placed x ys) ≡ int_max x (final x ys) → final d (if b then y ∷ placed x ys else x ∷ y ∷ ys) ≡ int_max x (final y ys)
    by true e rest = rest ∙ over_less e ys
    by false e rest = sym (ap (λ b. cond b x (final y ys)) (later_too x y (final y ys) e (final_above y ys h)))

max_through : (x y z : ℤ) → int_max (int_max x y) z ≡ int_max x (int_max y z)
max_through x y z = omega (arith, ints, clamps)

max_last : (x : ℤ) (xs : List ℤ) → fold int_max x xs ≡ int_max x (final x (in_order xs))
max_last x [] = omega (arith, ints, clamps)
max_last x (y ∷ ys) = max_last (int_max x y) ys ∙ through (in_order ys) ∙ ap (int_max x) (sym (final-placed x y (in_order ys) (in_order_ascends ys)))
  where
    through : (zs : List ℤ) → int_max (int_max x y) (final (int_max x y) zs) ≡ int_max x (int_max y (final y zs))
    through [] = omega (arith, ints, clamps)
    through (z ∷ zs) = max_through x y (final z zs)

last-placed : (x : ℤ) (ys : List ℤ) → Ascends ys → last (placed x ys) ≡ Some (int_max x (final x ys))
last-placed x [] h = ap Some (omega (arith, ints, clamps))
last-placed x (y ∷ ys) h = by (int_lt y x) ∙ ap Some (final-placed x x (y ∷ ys) h)
  where
    by : (b : Bool) → last (if b then y ∷ placed x ys else x ∷ y ∷ ys) ≡ Some (final x (if b then y ∷ placed x ys else x ∷ y ∷ ys))
    by true = last_final y (placed x ys)
    by false = last_final x (y ∷ ys)

last_is : (x : ℤ) (xs : List ℤ) → last (in_order (x ∷ xs)) ≡ Some (fold int_max x xs)
last_is x xs = last-placed x (in_order xs) (in_order_ascends xs) ∙ ap Some (sym (max_last x xs))

pub greatest_is : (xs : List ℤ) → greatest (in_order xs) ≡ over int_max xs
greatest_is [] = refl
greatest_is (x ∷ xs) = ap (λ (cell : Option ℤ). unwrap_or cell null) (last_is x xs)

-- the least has the greatest opposite
max_opposites : (x : ℤ) (xs : List ℤ) → fold int_max (opposite x) (map opposite xs) ≡ opposite (fold int_min x xs)
max_opposites x [] = refl
max_opposites x (y ∷ ys) = ap (λ z. fold int_max z (map opposite ys)) (turned x y) ∙ max_opposites (int_min x y) ys
  where
    turned : (x y : ℤ) → int_max (opposite x) (opposite y) ≡ opposite (int_min x y)
    turned x y = omega (arith, ints, clamps)

pub least_is : (xs : List ℤ) → least (opposites xs) ≡ over int_min xs
least_is [] = refl
least_is (x ∷ xs) = ap (λ (cell : Option ℤ). option_map_or opposite cell null) (last_is (opposite x) (map opposite xs)) ∙ ap opposite (max_opposites x xs) ∙ back (fold int_min x xs)
  where
    back : (x : ℤ) → opposite (opposite x) ≡ x
    back x = omega (arith, ints)
