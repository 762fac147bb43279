-- Decimals need no quotes.
use Rattle.std.proofs.Common.{◌≡◌, refl, ap, ◌∙◌, ℕ, ◌<◌, ◌≤◌, ◌^◌, false, ◌||◌, List, [], ◌∷◌, ◌==◌, arith, suc}
use Rattle.std.{specs.List.list_any, specs.Char.digit_value, specs.Str.Parse.AllDigits, specs.Fmt.{decimal, signed_decimal}, specs.Prelude.{ℤ, pos, negsuc}, proofs.lemmas.Bool.ne_eqb, proofs.lemmas.Bool.Decides.nat_tests, proofs.lemmas.Fmt.decimal_is_IsNumeral}
use lib.Signed.{mag}
use Rattle.tick_model.specs.Texts.{needs_quotes, field_text}

-- a digit's byte is not below that of 0
digit_above : (byte : ℕ) → digit_value byte < 10 → 48 ≤ byte
digit_above byte h = grind (arith, nat_tests)

plain_above : (byte : ℕ) → 45 ≤ byte → needs_quotes byte ≡ false
plain_above byte h =
    ap (λ b. b || (byte == 34) || (byte == 13) || (byte == 10)) (ne_eqb byte 44 (λ e. omega arith))
    ∙ ap (λ b. b || (byte == 13) || (byte == 10)) (ne_eqb byte 34 (λ e. omega arith))
    ∙ ap (λ b. b || (byte == 10)) (ne_eqb byte 13 (λ e. omega arith))
    ∙ ne_eqb byte 10 (λ e. omega arith)

plain_digits : (bytes : List ℕ) → AllDigits 10 bytes → list_any needs_quotes bytes ≡ false
plain_digits [] h = refl
plain_digits (byte ∷ bytes) h = ap (λ b. b || list_any needs_quotes bytes) (plain_above byte (omega (arith, digit_above byte h.0))) ∙ plain_digits bytes h.1

-- the text of a field that needs no quotes
pub field_text-plain : (field : List ℕ) → list_any needs_quotes field ≡ false → field_text field ≡ field
field_text-plain field e = rw e refl

pub plain_decimal : (n : ℕ) → n < 2 ^ 64 → list_any needs_quotes (decimal n) ≡ false
plain_decimal n h = plain_digits (decimal n) (decimal_is_IsNumeral n h).0.1

pub plain_signed : (z : ℤ) → mag z < 2 ^ 63 → list_any needs_quotes (signed_decimal z) ≡ false
plain_signed (pos n) h = plain_decimal n (omega (arith, h))
plain_signed (negsuc n) h = plain_decimal (suc n) (omega (arith, h))

pub field_text-decimal : (n : ℕ) → n < 2 ^ 64 → field_text (decimal n) ≡ decimal n
field_text-decimal n h = field_text-plain (decimal n) (plain_decimal n h)

pub field_text-signed : (z : ℤ) → mag z < 2 ^ 63 → field_text (signed_decimal z) ≡ signed_decimal z
field_text-signed z h = field_text-plain (signed_decimal z) (plain_signed z h)
