-- What the tests of numbers come to.
use Rattle.std.proofs.Common.{◌≡◌, ℕ, ◌<◌, ◌^◌, List, [], ◌∷◌, Bool, true, false, Some, None, refl, sym, ap, length, ltb, leb, arith}
use Rattle.std.{specs.Prelude.{◌&&◌, if◌then◌else◌}, specs.Char.is_ascii_digit, specs.List.list_all, specs.Str.all_ascii_digits, specs.Str.Parse.digits_value, proofs.lemmas.Bool.{lt-leb, and_right, and_parts, ltb-true, ltb-false}, proofs.lemmas.Str.Parse.{IsNumeralModel, numerals_by_value, tells_all_ascii_digits}}
use Rattle.command_words.specs.Commands.{is_numeral, number_within}

pub list_all-digits : (bytes : List ℕ) → list_all is_ascii_digit bytes ≡ all_ascii_digits bytes
list_all-digits [] = refl
list_all-digits (byte ∷ bytes) = ap (λ all. is_ascii_digit byte && all) (list_all-digits bytes)

pub own_digits : IsNumeralModel (λ ds. all_ascii_digits ds ≡ true) (digits_value 10)
own_digits = numerals_by_value _ tells_all_ascii_digits

-- what a numeral is
pub numeral_digits : (text : List ℕ) → is_numeral text ≡ true → all_ascii_digits text ≡ true
numeral_digits text is = (and_parts (leb 1 (length text) && leb (length text) 9) (all_ascii_digits text) is).1

-- a number past the range
pub number_high : (least most : ℕ) (text : List ℕ) → most < digits_value 10 text → None ≡ number_within least most text
number_high least most text high =
    let own = digits_value 10 text in
    sym (ap (λ b. if b then Some own else None) (and_right (is_numeral text && leb least own) (leb own most) (lt-leb own most high)))

-- where the number of the digits does not fit 32 bits
pub number_past : (least most : ℕ) (text : List ℕ) → most < 2 ^ 32 → ¬ ((0 < length text) × (digits_value 10 text < 2 ^ 32)) → None ≡ number_within least most text
number_past least most [] fits not = refl
number_past least most (x ∷ xs) fits not =
    number_high least most (x ∷ xs) (past (ltb (digits_value 10 (x ∷ xs)) (2 ^ 32)) refl)
  where
    past : (b : Bool) → ltb (digits_value 10 (x ∷ xs)) (2 ^ 32) ≡ b → most < digits_value 10 (x ∷ xs)
    past true e = absurd (not (omega arith, ltb-true (digits_value 10 (x ∷ xs)) (2 ^ 32) e))
    past false e = omega (arith, ltb-false (digits_value 10 (x ∷ xs)) (2 ^ 32) e, fits)
