-- The first line of several.
use Rattle.std.proofs.Common.{◌≡◌, ℕ, ◌+◌, ◌-◌, ◌<◌, ◌≤◌, Bool, true, false, cond, eqb, ltb, List, [], ◌∷◌, ◌++◌, length, take, drop, Option, Some, None, Result, Ok, Err, refl, subst, sym, ap, ◌∙◌, arith}
use Rattle.std.{specs.Prelude.{not, position, if◌then◌else◌}, specs.List.{slice_split, onto_first, position_or_len, before_first, after_first, find}, proofs.lemmas.Bool.{cond-false, false_from_ne_true, ltb-true, ltb-false}, specs.Str.{IsUtf8, is_utf8}, proofs.lemmas.Str.{IsUtf8-from_is_utf8, is_utf8-from_IsUtf8}, proofs.lemmas.List.Splits.{slice_split_first, slice_split_none}, proofs.lemmas.List.Sums.{fails_before_first, prefix_len-le-length}, proofs.lemmas.List.take_rest, proofs.lemmas.Option.cond_some}
use Rattle.script_lines.{specs.declared.fault.LineFault.LineFault, specs.declared.fault.Misread.Misread, specs.declared.fault.ScriptKind.ScriptKind, specs.declared.fault.ScriptKind.TheVariants.NotUtf8, specs.declared.line.Line.Line, specs.declared.line.Line.TheVariants.Skipped, specs.declared.token.Token.Token, specs.Answers.{◌>>=◌, Fails, Misses, fault_of}, specs.Tokens.{is_blank, tokens_of}, specs.Grammar.line_at, specs.Lines.{without_return, ended, lines_of, is_skipped, line_of}}
use Rattle.script_lines.specs.declared.fault.LineFault.TheVariants as faults
use Rattle.script_lines.specs.declared.fault.Misread.TheVariants as misses

-- a carriage return at the end, and another byte
pub without_return-return : (front : List ℕ) → without_return (front ++ 13 ∷ []) ≡ front
without_return-return [] = refl
without_return-return (byte ∷ []) = refl
without_return-return (byte ∷ next ∷ front) = ap (λ rest. byte ∷ rest) (without_return-return (next ∷ front))

pub without_return-other : (front : List ℕ) (last : ℕ) → eqb last 13 ≡ false → without_return (front ++ last ∷ []) ≡ front ++ last ∷ []
without_return-other [] last other = cond-false (eqb last 13) [] (last ∷ []) other
without_return-other (byte ∷ []) last other = ap (λ rest. byte ∷ rest) (without_return-other [] last other)
without_return-other (byte ∷ next ∷ front) last other = ap (λ rest. byte ∷ rest) (without_return-other (next ∷ front) last other)

-- the pieces of a script are one or more
onto_first-some : (byte : ℕ) (pieces : List (List ℕ)) → (first : List ℕ) × (later : List (List ℕ)) × (onto_first byte pieces ≡ first ∷ later)
onto_first-some byte [] = (byte ∷ [], [], refl)
onto_first-some byte (piece ∷ pieces) = (byte ∷ piece, pieces, refl)

some_more : (is_end : Bool) (byte : ℕ) (pieces : List (List ℕ)) → (first : List ℕ) × (later : List (List ℕ)) × (cond is_end ([] ∷ pieces) (onto_first byte pieces) ≡ first ∷ later)
some_more true byte pieces = ([], pieces, refl)
some_more false byte pieces = onto_first-some byte pieces

some_pieces : (ends : ℕ → Bool) (bytes : List ℕ) → (first : List ℕ) × (later : List (List ℕ)) × (slice_split ends bytes ≡ first ∷ later)
some_pieces ends [] = ([], [], refl)
some_pieces ends (byte ∷ bytes) = some_more (ends byte) byte (slice_split ends bytes)

ended-more : (piece first : List ℕ) (pieces later : List (List ℕ)) → pieces ≡ first ∷ later → ended (piece ∷ pieces) ≡ without_return piece ∷ ended pieces
ended-more piece first pieces later is = ap (λ those. ended (piece ∷ those)) is ∙ ap (λ those. without_return piece ∷ ended those) (sym is)

abbrev pub is_feed : ℕ → Bool
is_feed byte = eqb byte 10

lines_of-next : (bytes : List ℕ) → position_or_len is_feed bytes < length bytes → lines_of bytes ≡ without_return (before_first is_feed bytes) ∷ lines_of (after_first is_feed bytes)
lines_of-next bytes there =
    let more = some_pieces is_feed (after_first is_feed bytes) in
    ap ended (slice_split_first is_feed bytes 0 there)
    ∙ ended-more (before_first is_feed bytes) more.0 (slice_split is_feed (after_first is_feed bytes)) more.1 more.2

lines_of-last : (bytes : List ℕ) → position_or_len is_feed bytes ≡ length bytes → lines_of bytes ≡ bytes ∷ []
lines_of-last bytes none = ap ended (slice_split_none is_feed bytes (λ k d within. fails_before_first is_feed bytes k d (omega arith)))

-- the first line feed is at a place, or there is none
pub lines_of-at : (bytes : List ℕ) (end : ℕ) (line : List ℕ) → position is_feed bytes ≡ Some end → line ≡ without_return (take end bytes) → lines_of bytes ≡ line ∷ lines_of (take (length bytes - (end + 1)) (drop (end + 1) bytes))
lines_of-at bytes end line found is =
    let first = position_or_len is_feed bytes in
    let at = cond_some (ltb first (length bytes)) first end found in
    lines_of-next bytes (ltb-true first (length bytes) at.0)
    ∙ ap (λ n. without_return (take n bytes) ∷ lines_of (drop (n + 1) bytes)) at.1
    ∙ ap (λ front. front ∷ lines_of (drop (end + 1) bytes)) (sym is)
    ∙ ap (λ rest. line ∷ lines_of rest) (sym (take_rest bytes (end + 1)))

not_there : (b : Bool) (n : ℕ) → cond b (Some n) None ≡ None → b ≡ false
not_there true n none = cc none
not_there false n none = refl

none_found : (n all : ℕ) → n ≤ all → cond (ltb n all) (Some n) None ≡ None → n ≡ all
none_found n all within none = omega (arith, ltb-false n all (not_there (ltb n all) n none))

pub lines_of-none : (bytes : List ℕ) → position is_feed bytes ≡ None → lines_of bytes ≡ bytes ∷ []
lines_of-none bytes none = lines_of-last bytes (none_found (position_or_len is_feed bytes) (length bytes) (prefix_len-le-length (λ byte. not (is_feed byte)) bytes) none)

-- a line that says nothing, by its first byte that is no blank
abbrev pub says_nothing : Option ℕ → Bool
says_nothing None = true
says_nothing (Some byte) = eqb byte 35

skipped_one : (blank : Bool) (byte : ℕ) (more : Bool) (found : Option ℕ) → more ≡ says_nothing found → (if blank then more else eqb byte 35) ≡ says_nothing (cond (not blank) (Some byte) found)
skipped_one true byte more found e = e
skipped_one false byte more found e = refl

pub is_skipped-find : (line : List ℕ) → is_skipped line ≡ says_nothing (find (λ byte. not (is_blank byte)) line)
is_skipped-find [] = refl
is_skipped-find (byte ∷ bytes) = skipped_one (is_blank byte) byte (is_skipped bytes) (find (λ b. not (is_blank b)) bytes) (is_skipped-find bytes)

-- what a line says
abbrev by_tests : Bool → Bool → Result Line ScriptKind → Result Line ScriptKind
by_tests text skipped read = if not text then Err NotUtf8 else (if skipped then Ok Skipped else read)

line_of-tests : (bytes : List ℕ) → line_of bytes ≡ by_tests (is_utf8 bytes) (is_skipped bytes) (tokens_of bytes >>= line_at)
unfolding line_of
line_of-tests bytes = refl

pub line_of-not_text : (bytes : List ℕ) → ¬ (IsUtf8 bytes) → line_of bytes ≡ Err NotUtf8
line_of-not_text bytes not_text =
    line_of-tests bytes ∙ ap (λ text. by_tests text (is_skipped bytes) (tokens_of bytes >>= line_at)) (false_from_ne_true (is_utf8 bytes) (λ e. not_text (IsUtf8-from_is_utf8 bytes e)))

line_of-text : (bytes : List ℕ) (skipped : Bool) → IsUtf8 bytes → is_skipped bytes ≡ skipped → line_of bytes ≡ by_tests true skipped (tokens_of bytes >>= line_at)
line_of-text bytes skipped text is =
    line_of-tests bytes
    ∙ ap (λ t. by_tests t (is_skipped bytes) (tokens_of bytes >>= line_at)) (is_utf8-from_IsUtf8 bytes text)
    ∙ ap (λ s. by_tests true s (tokens_of bytes >>= line_at)) is

pub line_of-skipped : (bytes : List ℕ) → IsUtf8 bytes → is_skipped bytes ≡ true → line_of bytes ≡ Ok Skipped
line_of-skipped bytes text is = line_of-text bytes true text is

pub line_of-tokens : (bytes : List ℕ) (tokens : List Token) → IsUtf8 bytes → is_skipped bytes ≡ false → tokens_of bytes ≡ Ok tokens → line_of bytes ≡ line_at tokens
line_of-tokens bytes tokens text is read = line_of-text bytes false text is ∙ ap (λ r. r >>= line_at) read

fails_bind : (fault : LineFault) (read : Result (List Token) ScriptKind) → Fails fault read → Fails fault (read >>= line_at)
fails_bind faults.Memory read fails = tt
fails_bind (faults.Refused kind) read fails = ap (λ r. r >>= line_at) fails

pub line_of-no_tokens : (fault : LineFault) (bytes : List ℕ) → IsUtf8 bytes → is_skipped bytes ≡ false → Fails fault (tokens_of bytes) → Fails fault (line_of bytes)
line_of-no_tokens fault bytes text is fails = subst (Fails fault) (sym (line_of-text bytes false text is)) (fails_bind fault (tokens_of bytes) fails)

fails_as : (miss : Misread) (read : Result Line ScriptKind) → Misses miss read → Fails (fault_of miss) read
fails_as misses.Memory read missed = tt
fails_as misses.BadLine read missed = missed

pub line_of-no_form : (miss : Misread) (bytes : List ℕ) (tokens : List Token) → IsUtf8 bytes → is_skipped bytes ≡ false → tokens_of bytes ≡ Ok tokens → Misses miss (line_at tokens) → Fails (fault_of miss) (line_of bytes)
line_of-no_form miss bytes tokens text is read missed = fails_as miss (line_of bytes) (subst (Misses miss) (sym (line_of-tokens bytes tokens text is read)) missed)
