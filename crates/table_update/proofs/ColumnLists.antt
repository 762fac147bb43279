-- The columns of a set, by the bits of its number.
use Rattle.std.proofs.Common.{◌≡◌, refl, ap, ap₂, sym, ◌∙◌, true, false, ◌&&◌, ◌||◌, ◌==◌, ℕ, zero, suc, ◌<◌, ◌≤◌, ◌^◌, ◌*◌, ◌%◌, arith, List, [], ◌∷◌, max, inl, inr, w32}
use Rattle.std.{specs.Int.bit_at, specs.Prelude.bit_or, proofs.lemmas.Bool.{cases_eq, cases_lt, eq-eqb, ne_eqb, or_left, or_from, and_right, false_from_ne_true, true≢false, eqb-false}, proofs.lemmas.Nat.Bits.{bit_at_set_same, bit_at_set_other, bit_at_or, bit_at-lt, bit_at-zero, same_from_bits_below}}
use Rattle.key_lists.{specs.Keys.{is_among, IsRising}, proofs.Among.among-filter, proofs.Rising.{rising_some, rising_same}, proofs.Booleans.and_true}
use Rattle.row_set.{specs.declared.ranges.Range.Range, specs.Ranges.keys_from, specs.Sets.{with_key, united}, proofs.Held.{range_rises, among-in, holds-true, holds_after}, proofs.United.{among-with_key, with_key_rises, among-united, united_rises}}
use Rattle.tick_model.specs.Changes.{is_none}
use Rattle.table_update.specs.Columns.{has_bit, columns_of}

abbrev every_column : Range
every_column = record { first = 0; last = 31 }

pub columns_rise : (bits : ℕ) → IsRising (columns_of bits)
unfolding columns_of
columns_rise bits = rising_some (has_bit bits) (keys_from 0 31) (range_rises 0 32)

pub among-columns : (column bits : ℕ) → column < 32 → is_among column (columns_of bits) ≡ has_bit bits column
unfolding columns_of
among-columns column bits small =
    among-filter (has_bit bits) column (keys_from 0 31)
    ∙ ap (λ b. has_bit bits column && b) (among-in column every_column ∙ holds-true column every_column (omega arith) (omega arith))
    ∙ and_true (has_bit bits column)

pub past_columns : (column bits : ℕ) → 32 ≤ column → is_among column (columns_of bits) ≡ false
unfolding columns_of
past_columns column bits past =
    among-filter (has_bit bits) column (keys_from 0 31)
    ∙ and_right (has_bit bits column) (is_among column (keys_from 0 31)) (among-in column every_column ∙ holds_after column every_column (omega arith))

-- rising columns with the bits of a number are its columns
columns_are : (bits : ℕ) (columns : List ℕ) → IsRising columns → ((column : ℕ) → column < 32 → has_bit bits column ≡ is_among column columns) → ((column : ℕ) → 32 ≤ column → is_among column columns ≡ false) → columns_of bits ≡ columns
columns_are bits columns rising below past =
    rising_same (columns_of bits) columns (columns_rise bits) rising
    (λ column. elim (cases_lt column 32) [
      | inl less ↦ among-columns column bits less ∙ below column less
      | inr more ↦ past_columns column bits more ∙ sym (past column more)
    ])

pub no_columns : columns_of 0 ≡ []
no_columns =
    columns_are 0 [] tt (λ column less. ne_eqb (bit_at 0 column) 1 (λ e. omega (arith, e, bit_at-zero column))) (λ column more. refl)

pub columns-with : (bits column : ℕ) → column < 32 → columns_of (bit_or bits (1 * 2 ^ column % 2 ^ 32)) ≡ with_key column (columns_of bits)
columns-with bits column small =
    columns_are (bit_or bits (1 * 2 ^ column % 2 ^ 32)) (with_key column (columns_of bits)) (with_key_rises column (columns_of bits) (columns_rise bits))
    (λ other less. bit other less ∙ sym (among-with_key other column (columns_of bits)))
    (λ other more. among-with_key other column (columns_of bits) ∙ or_from (column == other) (is_among other (columns_of bits)) (ne_eqb column other (λ e. omega arith)) (past_columns other bits more))
  where
    bit : (other : ℕ) → other < 32 → has_bit (bit_or bits (1 * 2 ^ column % 2 ^ 32)) other ≡ ((column == other) || is_among other (columns_of bits))
    bit other less =
        elim (cases_eq other column) [
          | inl same ↦
              ap (has_bit (bit_or bits (1 * 2 ^ column % 2 ^ 32))) same
              ∙ eq-eqb (bit_at (bit_or bits (1 * 2 ^ column % 2 ^ 32)) column) 1 (bit_at_set_same w32 bits column small)
              ∙ sym (or_left (column == other) (is_among other (columns_of bits)) (eq-eqb column other (sym same)))
          | inr apart ↦
              ap (λ n. n == 1) (bit_at_set_other w32 bits column small other apart)
              ∙ sym (among-columns other bits less)
              ∙ sym (ap (λ b. b || is_among other (columns_of bits)) (ne_eqb column other (λ e. apart (sym e))))
        ]

-- of two bits the greater is 1 where one of them is
greater : (x y : ℕ) → x < 2 → y < 2 → (max x y == 1) ≡ ((x == 1) || (y == 1))
greater zero zero p q = refl
greater zero (suc zero) p q = refl
greater (suc zero) zero p q = refl
greater (suc zero) (suc zero) p q = refl
greater zero (suc (suc y)) p q = absurd (omega arith)
greater (suc x) (suc (suc y)) p q = absurd (omega arith)
greater (suc (suc x)) y p q = absurd (omega arith)

pub columns-union : (bits others : ℕ) → columns_of (bit_or bits others) ≡ united (columns_of bits) (columns_of others)
columns-union bits others =
    columns_are (bit_or bits others) (united (columns_of bits) (columns_of others)) (united_rises (columns_of bits) (columns_of others) (columns_rise others))
    (λ column less.
    ap (λ n. n == 1) (bit_at_or bits others column)
    ∙ greater (bit_at bits column) (bit_at others column) (bit_at-lt bits column) (bit_at-lt others column)
    ∙ ap₂ (λ a b. a || b) (sym (among-columns column bits less)) (sym (among-columns column others less))
    ∙ sym (among-united column (columns_of bits) (columns_of others)))
    (λ column more.
    among-united column (columns_of bits) (columns_of others)
    ∙ or_from (is_among column (columns_of bits)) (is_among column (columns_of others)) (past_columns column bits more) (past_columns column others more))

-- only the number 0 has no columns
pub is_none-columns : (bits : ℕ) → bits < 2 ^ 32 → (bits == 0) ≡ is_none (columns_of bits)
is_none-columns bits small =
    elim (cases_eq bits 0) [
      | inl none ↦ eq-eqb bits 0 none ∙ sym (ap (λ n. is_none (columns_of n)) none ∙ ap is_none no_columns)
      | inr some ↦ ne_eqb bits 0 some ∙ sym (false_from_ne_true (is_none (columns_of bits)) (λ e. some (zero_bits (empty (columns_of bits) e))))
    ]
  where
    empty : (xs : List ℕ) → is_none xs ≡ true → xs ≡ []
    empty [] e = refl
    empty (x ∷ xs) e = absurd (true≢false (sym e))

    zero_bits : columns_of bits ≡ [] → bits ≡ 0
    zero_bits e =
        same_from_bits_below 32 bits 0 small (omega arith)
        (λ column less.
        let unset = eqb-false (bit_at bits column) 1 (sym (among-columns column bits less) ∙ ap (is_among column) e) in
        let bit = bit_at-lt bits column in
        let zero_bit : bit_at bits column ≡ 0 = omega (arith, unset, bit) in
        zero_bit ∙ sym (bit_at-zero column))
