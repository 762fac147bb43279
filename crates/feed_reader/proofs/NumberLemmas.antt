-- What the tests of numbers come to.
use Rattle.std.proofs.Common.{◌≡◌, ℕ, zero, suc, ◌+◌, ◌-◌, ◌*◌, ◌^◌, ◌<◌, ◌≤◌, List, [], ◌∷◌, ◌++◌, take, get_or, true, false, Some, None, pos, neg_ℤ, refl, sym, ap, ◌∙◌, length, length-take-le, eqb, ltb, leb, arith}
use Rattle.std.{specs.Prelude.{option_map, ◌&&◌, if◌then◌else◌}, specs.Char.{is_ascii_digit, digit_value}, specs.Str.all_ascii_digits, specs.Str.Parse.digits_value, proofs.lemmas.Bool.{cond-false, ne_eqb, and_from, and_parts, and_left, and_right}, proofs.lemmas.Bool.Decides.nat_tests, proofs.lemmas.Int.Digits.digits_value_more, proofs.lemmas.List.take_more, proofs.lemmas.Str.Parse.{numerals_by_value, tells_all_ascii_digits, digits_value_short}}
use Rattle.feed_reader.specs.Cells.{number_below, signed_below}

-- one more digit
digits_onto : (digits : List ℕ) (digit : ℕ) → all_ascii_digits digits ≡ true → is_ascii_digit digit ≡ true → all_ascii_digits (digits ++ digit ∷ []) ≡ true
digits_onto [] digit all is = and_from (is_ascii_digit digit) true is refl
digits_onto (first ∷ others) digit all is =
    let both = and_parts (is_ascii_digit first) (all_ascii_digits others) all in
    and_from (is_ascii_digit first) (all_ascii_digits (others ++ digit ∷ [])) both.0 (digits_onto others digit both.1 is)

pub digits_more : (digits : List ℕ) (i : ℕ) → i < length digits → all_ascii_digits (take i digits) ≡ true → is_ascii_digit (get_or digits i 0) ≡ true → all_ascii_digits (take (i + 1) digits) ≡ true
digits_more digits i within all is = ap all_ascii_digits (take_more digits i 0 within) ∙ digits_onto (take i digits) (get_or digits i 0) all is

pub number_more : (digits : List ℕ) (i number : ℕ) → i < length digits → is_ascii_digit (get_or digits i 0) ≡ true → number ≡ digits_value 10 (take i digits) → number * 10 + (get_or digits i 0 - 48) ≡ digits_value 10 (take (i + 1) digits)
number_more digits i number within is value =
    let worth : digit_value (get_or digits i 0) ≡ get_or digits i 0 - 48 = grind (arith, nat_tests) in
    rw (digits_value_more 10 digits i within, worth, value) refl

-- fewer than 19 digits leave room for one more
pub number_small : (digits : List ℕ) (i number : ℕ) → i < length digits → length digits ≤ 19 → all_ascii_digits (take i digits) ≡ true → number ≡ digits_value 10 (take i digits) → number < 10 ^ 18
number_small digits i number within few all value =
    rw value (digits_value_short (numerals_by_value _ tells_all_ascii_digits) (take i digits) 18 all (omega (arith, length-take-le i digits)))

-- a byte that is no digit
not_all_digits : (digits : List ℕ) (i : ℕ) → i < length digits → is_ascii_digit (get_or digits i 0) ≡ false → all_ascii_digits digits ≡ false
not_all_digits [] i within not = absurd (omega arith)
not_all_digits (first ∷ others) zero within not = and_left (is_ascii_digit first) (all_ascii_digits others) not
not_all_digits (first ∷ others) (suc i) within not = and_right (is_ascii_digit first) (all_ascii_digits others) (not_all_digits others i (omega arith) not)

number_not_digits : (limit : ℕ) (text : List ℕ) → all_ascii_digits text ≡ false → number_below limit text ≡ None
number_not_digits limit [] digits = refl
number_not_digits limit (x ∷ xs) digits =
    let own = digits_value 10 (x ∷ xs) in
    ap (λ b. if b then Some own else None)
    (and_left (leb (length (x ∷ xs)) 19 && all_ascii_digits (x ∷ xs)) (ltb own limit) (and_right (leb (length (x ∷ xs)) 19) (all_ascii_digits (x ∷ xs)) digits))

pub number_stops : (limit : ℕ) (digits : List ℕ) (i : ℕ) → i < length digits → is_ascii_digit (get_or digits i 0) ≡ false → number_below limit digits ≡ None
number_stops limit digits i within not = number_not_digits limit digits (not_all_digits digits i within not)

-- no text, and one that does not begin with a minus sign
pub signed_none : (limit : ℕ) (text : List ℕ) → length text ≡ 0 → None ≡ signed_below limit text
signed_none limit [] none = refl
signed_none limit (first ∷ others) none = absurd (omega (arith, none))

pub signed_plain : (limit first : ℕ) (text others : List ℕ) → text ≡ first ∷ others → (first ≡ 45 → ⊥) → option_map pos (number_below limit text) ≡ signed_below limit text
signed_plain limit first text others is plain =
    ap (λ (t : List ℕ). option_map pos (number_below limit t)) is
    ∙ sym (ap (signed_below limit) is
    ∙ cond-false (eqb first 45) (option_map neg_ℤ (option_map pos (number_below limit others))) (option_map pos (number_below limit (first ∷ others))) (ne_eqb first 45 plain))
