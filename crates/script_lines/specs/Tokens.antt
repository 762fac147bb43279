-- The tokens of a line, from left to right, the longest first.
--     tokens_of line      the tokens of the bytes of a line, or the kind of the first bad one
use Rattle.std.{specs.Prelude.{ℕ, zero, suc, ◌+◌, ◌^◌, ◌==◌, ◌||◌, ◌&&◌, Bool, false, not, List, [], ◌∷◌, take, drop, length, Option, Some, None, Result, Ok, Err, pos, nat_lt, if◌then◌else◌}, specs.List.position_or_len, specs.Str.Parse.digits_value}
use Rattle.tick_model.specs.Names.{is_within, is_letter, is_name_byte}
use Rattle.script_lines.{specs.declared.fault.ScriptKind.ScriptKind, specs.declared.fault.ScriptKind.TheVariants.{BadLine, NumberRange}, specs.declared.token.Token.Token, specs.declared.token.Token.TheVariants.{Word, Number, Text, Mark}, specs.Answers.◌>>=◌}

abbrev pub is_blank : ℕ → Bool
is_blank byte = byte == 32 || byte == 9

abbrev pub is_digit : ℕ → Bool
is_digit byte = is_within 48 57 byte

-- how many bytes at the front pass a test
abbrev pub run_len : (ℕ → Bool) → List ℕ → ℕ
run_len passes = position_or_len (λ byte. not (passes byte))

-- what a text begins with: a token, or none for a blank; and how many further bytes belong to it
pub record Lexeme : Type 0 where
  pub what : Result (Option Token) ScriptKind
  pub more : ℕ

-- a letter, then letters, digits and underscores: at most 32 in all
abbrev pub word_at : ℕ → List ℕ → Lexeme
word_at first others =
    let more = run_len is_name_byte others in
    record { what = if nat_lt 31 more then Err BadLine else Ok (Some (Word (first ∷ take more others))); more = more }

-- digits, of a number below 2 ^ 63
abbrev pub number_at : ℕ → List ℕ → Lexeme
number_at first others =
    let more = run_len is_digit others in
    let value = digits_value 10 (first ∷ take more others) in
    record { what = if nat_lt value (2 ^ 63) then Ok (Some (Number (pos value))) else Err NumberRange; more = more }

-- what stands between two double quotes
abbrev pub text_at : List ℕ → Lexeme
text_at others =
    let before = position_or_len (λ byte. byte == 34) others in
    record { what = if nat_lt before (length others) then Ok (Some (Text (take before others))) else Err BadLine; more = before + 1 }

-- ( ) [ ] + - * , : =
abbrev pub is_single_mark : ℕ → Bool
is_single_mark byte = byte == 40 || byte == 41 || byte == 91 || byte == 93 || byte == 43 || byte == 45 || byte == 42 || byte == 44 || byte == 58 || byte == 61

-- < and >, which may be longer by an equals sign
abbrev pub is_order_mark : ℕ → Bool
is_order_mark byte = byte == 60 || byte == 62

abbrev pub begins_with_equal : List ℕ → Bool
begins_with_equal [] = false
begins_with_equal (byte ∷ bytes) = byte == 61

abbrev pub mark_of : List ℕ → ℕ → Lexeme
mark_of mark more = record { what = Ok (Some (Mark mark)); more = more }

-- the longest symbol: != < <= > >=, or one mark
abbrev pub mark_at : ℕ → List ℕ → Lexeme
mark_at first others =
    if is_single_mark first then mark_of (first ∷ []) 0
    else (if begins_with_equal others && (is_order_mark first || first == 33) then mark_of (first ∷ 61 ∷ []) 1
    else (if is_order_mark first then mark_of (first ∷ []) 0
    else record { what = Err BadLine; more = 0 }))

abbrev pub lexeme_at : ℕ → List ℕ → Lexeme
lexeme_at first others =
    if is_blank first then record { what = Ok None; more = 0 }
    else (if is_letter first then word_at first others
    else (if is_digit first then number_at first others
    else (if first == 34 then text_at others
    else mark_at first others)))

-- a lexeme's token, and the text after it
abbrev pub parted : Lexeme → List ℕ → Result (Option Token × List ℕ) ScriptKind
parted lexeme others = lexeme.what >>= (λ token. Ok (token, drop lexeme.more others))

-- what a text begins with by a rule, and the text after it: an empty text begins with nothing
abbrev pub front_by : (ℕ → List ℕ → Lexeme) → List ℕ → Result (Option Token × List ℕ) ScriptKind
front_by rule [] = Err BadLine
front_by rule (first ∷ others) = parted (rule first others) others

-- the tokens after what a text begins with
abbrev pub onto : Result (Option Token) ScriptKind → Result (List Token) ScriptKind → Result (List Token) ScriptKind
onto (Err kind) after = Err kind
onto (Ok None) after = after
onto (Ok (Some token)) (Err kind) = Err kind
onto (Ok (Some token)) (Ok tokens) = Ok (token ∷ tokens)

-- the tokens of a text after so many bytes of it, which belong to the token before
abbrev pub tokens_after : ℕ → List ℕ → Result (List Token) ScriptKind
tokens_after skipped [] = Ok []
tokens_after (suc skipped) (byte ∷ bytes) = tokens_after skipped bytes
tokens_after zero (byte ∷ bytes) = onto (lexeme_at byte bytes).what (tokens_after (lexeme_at byte bytes).more bytes)

-- a line has at most 512
abbrev pub at_most_512 : Result (List Token) ScriptKind → Result (List Token) ScriptKind
at_most_512 (Err kind) = Err kind
at_most_512 (Ok tokens) = if nat_lt 512 (length tokens) then Err BadLine else Ok tokens

abbrev pub tokens_of : List ℕ → Result (List Token) ScriptKind
tokens_of line = at_most_512 (tokens_after 0 line)
