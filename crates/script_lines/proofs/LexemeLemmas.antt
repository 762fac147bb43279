-- What a text begins with, by the bytes at its front.
use Rattle.std.proofs.Common.{◌≡◌, ℕ, zero, suc, ◌+◌, ◌^◌, ◌<◌, ◌≤◌, Bool, true, cond, ltb, List, [], ◌∷◌, length, get_or, take, drop, Option, Some, None, Ok, Err, pos, refl, ap, ◌∙◌, arith, add-one}
use Rattle.std.{specs.Prelude.{not, if◌then◌else◌, unwrap_or, position}, specs.Int.IsInRange, specs.List.All, specs.Str.{IsUtf8, IsCharBoundary}, specs.Str.Parse.digits_value, proofs.Math.Numerals.one-add, proofs.lemmas.Bool.{ltb-false, le-ltb, not-false, cond_both}, proofs.lemmas.Bool.Decides.nat_tests, proofs.lemmas.List.{get_or-take, length-take, length-take-le}, proofs.lemmas.List.Sums.{fails_before_first, prefix_len-le-length}, proofs.lemmas.Str.{IsCharBoundary-start, IsCharBoundary-after_ascii}, proofs.lemmas.Str.Parse.{IsNumeralModel, numerals_by_value, tells_by_index}}
use Rattle.tick_model.specs.Names.{is_name_byte}
use Rattle.script_lines.{specs.declared.fault.ScriptKind.TheVariants.NumberRange, specs.declared.token.Token.TheVariants.Number, specs.Answers.◌>>=◌, specs.Tokens.{is_digit, run_len, front_by, number_at}}

-- bytes at the front that pass a test
run_len-cons : (passes : ℕ → Bool) (first : ℕ) (others : List ℕ) → passes first ≡ true → run_len passes (first ∷ others) ≡ suc (run_len passes others)
run_len-cons passes first others pass = ap (λ b. cond (not (not b)) (1 + run_len passes others) 0) pass ∙ one-add (run_len passes others)

run_passes : (passes : ℕ → Bool) (text : List ℕ) (k : ℕ) → k < run_len passes text → passes (get_or text k 0) ≡ true
run_passes passes text k before = not-false (passes (get_or text k 0)) (fails_before_first (λ byte. not (passes byte)) text k 0 before)

pub run_within : (passes : ℕ → Bool) (text : List ℕ) → run_len passes text ≤ length text
run_within passes text = prefix_len-le-length (λ byte. not (not (passes byte))) text

-- a text may be cut behind ASCII bytes at its front
pub IsCharBoundary-ascii : (text : List ℕ) (n : ℕ) → IsUtf8 text → n ≤ length text → ((k : ℕ) → k < n → get_or text k 0 < 128) → IsCharBoundary text n
IsCharBoundary-ascii text zero utf8 within ascii = IsCharBoundary-start text utf8
IsCharBoundary-ascii text (suc n) utf8 within ascii = rw add-one at (IsCharBoundary-after_ascii text n utf8 (omega arith) (ascii n (omega arith)))

pub IsCharBoundary-front : (text : List ℕ) (n : ℕ) → IsUtf8 text → n ≤ length text → All (λ byte. byte < 128) (take n text) → IsCharBoundary text n
IsCharBoundary-front text n utf8 within ascii =
    IsCharBoundary-ascii text n utf8 within (λ k before. rw get_or-take at (ascii k 0 (omega (arith, length-take-le n text within))))

pub run_boundary : (passes : ℕ → Bool) (text : List ℕ) (n : ℕ) → ((byte : ℕ) → passes byte ≡ true → byte < 128) → IsUtf8 text → n ≡ run_len passes text → IsCharBoundary text n
run_boundary passes text n ascii utf8 is =
    IsCharBoundary-ascii text n utf8 (omega (arith, run_within passes text)) (λ k before. ascii (get_or text k 0) (run_passes passes text k (omega arith)))

is_name_byte-ascii : (byte : ℕ) → is_name_byte byte ≡ true → byte < 128
is_name_byte-ascii byte passes = grind (arith, nat_tests)

is_digit-ascii : (byte : ℕ) → is_digit byte ≡ true → byte < 128
is_digit-ascii byte passes = grind (arith, nat_tests)

pub word_boundary : (text : List ℕ) (n : ℕ) → IsUtf8 text → n ≡ run_len is_name_byte text → IsCharBoundary text n
word_boundary text n utf8 is = run_boundary is_name_byte text n is_name_byte-ascii utf8 is

pub digits_boundary : (text : List ℕ) (n : ℕ) → IsUtf8 text → n ≡ run_len is_digit text → IsCharBoundary text n
digits_boundary text n utf8 is = run_boundary is_digit text n is_digit-ascii utf8 is

-- a number
pub own_digits : IsNumeralModel (λ ds. (i : ℕ) → i < length ds → IsInRange 48 57 (get_or ds i 0)) (digits_value 10)
own_digits = numerals_by_value _ tells_by_index

is_digit-range : (byte : ℕ) → is_digit byte ≡ true → IsInRange 48 57 byte
is_digit-range byte passes = grind (arith, nat_tests)

pub run_of_digits : (text : List ℕ) (n : ℕ) → n ≡ run_len is_digit text → (i : ℕ) → i < length (take n text) → IsInRange 48 57 (get_or (take n text) i 0)
run_of_digits text n is i within =
    let before : i < n = omega (arith, length-take n text) in
    rw (get_or-take n text i 0 before) (is_digit-range (get_or text i 0) (run_passes is_digit text i (omega arith)))

number_len : (text : List ℕ) (n first : ℕ) (others : List ℕ) → text ≡ first ∷ others → is_digit first ≡ true → n ≡ run_len is_digit text → n ≡ suc (run_len is_digit others)
number_len text n first others begins digit is = is ∙ ap (run_len is_digit) begins ∙ run_len-cons is_digit first others digit

pub some_digits : (text : List ℕ) (n : ℕ) → is_digit (get_or text 0 0) ≡ true → n ≡ run_len is_digit text → 0 < n
some_digits [] n digit is = cc digit
some_digits (first ∷ others) n digit is = let len = number_len (first ∷ others) n first others refl digit is in omega arith

pub number_too_large : (text : List ℕ) (n : ℕ) → is_digit (get_or text 0 0) ≡ true → n ≡ run_len is_digit text → ¬ (digits_value 10 (take n text) < 2 ^ 63) → front_by number_at text ≡ Err NumberRange
number_too_large [] n digit is large = cc digit
number_too_large (first ∷ others) n digit is large =
    let more = run_len is_digit others in
    let len = number_len (first ∷ others) n first others refl digit is in
    let value = digits_value 10 (first ∷ take more others) in
    let same : digits_value 10 (take n (first ∷ others)) ≡ value = ap (λ m. digits_value 10 (take m (first ∷ others))) len in
    ap (λ b. (if b then Ok (Some (Number (pos value))) else Err NumberRange) >>= (λ token. Ok (token, drop more others))) (le-ltb value (2 ^ 63) (omega arith))

-- the first byte that fails, or the number of bytes
place_or_all : (n all : ℕ) → n ≤ all → unwrap_or (cond (ltb n all) (Some n) None) all ≡ n
place_or_all n all within =
    cond_both (ltb n all) (Some n) None (λ place. unwrap_or place all ≡ n) (λ _. refl) (λ past. omega (arith, ltb-false n all past))

pub run_len-position : (passes : ℕ → Bool) (text : List ℕ) (found : Option ℕ) (len : ℕ) → found ≡ position (λ byte. not (passes byte)) text → len ≡ unwrap_or found (length text) → len ≡ run_len passes text
run_len-position passes text found len is gives =
    gives ∙ ap (λ place. unwrap_or place (length text)) is ∙ place_or_all (run_len passes text) (length text) (run_within passes text)
