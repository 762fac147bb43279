-- What stands behind the first record of a text.
use Rattle.std.proofs.Common.{◌≡◌, refl, ap, sym, ◌∙◌, Bool, true, false, true≢false, cond, not, ◌&&◌, ◌||◌, ◌==◌, ℕ, ◌-◌, ◌<◌, arith, List, [], ◌∷◌, ◌++◌, length, length-append, take, drop, append_assoc, inl, inr}
use Rattle.std.{specs.Prelude.flat_map, specs.List.{list_any, AllByRecursion}, proofs.lemmas.Bool.{or_parts, ne_eqb}, proofs.lemmas.List.{take_at, drop_at}}
use Rattle.tick_model.specs.Texts.{needs_quotes, doubled, field_text, comma_before, record_text, records_text}
use Rattle.update_text.proofs.Quoting.{doubled_cases, inner, quoted, quoted_before, record_before}
use Rattle.run_output.specs.Splitting.{IsPart, begins_part}

-- byte by byte, where a double quote turns whether the bytes are quoted
abbrev pub behind : Bool → List ℕ → List ℕ
behind quoted [] = []
behind quoted (byte ∷ bytes) = cond (byte == 34) (behind (not quoted) bytes) (cond ((byte == 10) && not quoted) bytes (behind quoted bytes))

-- a byte that is neither a quote nor a line feed outside quotes
step_on : (is_quoted : Bool) (byte : ℕ) (bytes : List ℕ) → (byte == 34) ≡ false → ((byte == 10) && not is_quoted) ≡ false → behind is_quoted (byte ∷ bytes) ≡ behind is_quoted bytes
step_on is_quoted byte bytes no_quote no_end =
    ap (λ b. cond b (behind (not is_quoted) bytes) (cond ((byte == 10) && not is_quoted) bytes (behind is_quoted bytes))) no_quote
    ∙ ap (λ b. cond b bytes (behind is_quoted bytes)) no_end

pub turned : (is_quoted : Bool) (byte : ℕ) (bytes others : List ℕ) → bytes ≡ byte ∷ others → byte ≡ 34 → behind is_quoted bytes ≡ behind (not is_quoted) others
turned is_quoted byte bytes others e quote = ap (behind is_quoted) (e ∙ ap (λ first. first ∷ others) quote)

pub kept : (is_quoted : Bool) (byte : ℕ) (bytes others : List ℕ) → bytes ≡ byte ∷ others → (byte ≡ 34 → ⊥) → ((byte == 10) && not is_quoted) ≡ false → behind is_quoted bytes ≡ behind is_quoted others
kept is_quoted byte bytes others e no_quote no_end = ap (behind is_quoted) e ∙ step_on is_quoted byte others (ne_eqb byte 34 no_quote) no_end

pub ended : (is_quoted : Bool) (byte : ℕ) (bytes others : List ℕ) → bytes ≡ byte ∷ others → (byte ≡ 34 → ⊥) → ((byte == 10) && not is_quoted) ≡ true → behind is_quoted bytes ≡ others
ended is_quoted byte bytes others e no_quote end =
    ap (behind is_quoted) e
    ∙ ap (λ b. cond b (behind (not is_quoted) others) (cond ((byte == 10) && not is_quoted) others (behind is_quoted others))) (ne_eqb byte 34 no_quote)
    ∙ ap (λ b. cond b others (behind is_quoted others)) end

pub at_end : (is_quoted : Bool) (bytes : List ℕ) → length bytes ≡ 0 → behind is_quoted bytes ≡ bytes
at_end is_quoted [] e = refl
at_end is_quoted (byte ∷ bytes) e = absurd (omega (arith, e))

pub longer : (front bytes rest others : List ℕ) (byte : ℕ) → bytes ≡ front ++ rest → rest ≡ byte ∷ others → (more : List ℕ) × (bytes ≡ more ++ others)
longer front bytes rest others byte e f = (front ++ byte ∷ [], e ∙ ap (λ (some : List ℕ). front ++ some) f ∙ sym (append_assoc front (byte ∷ []) others))

pub further : (front more bytes rest others : List ℕ) → bytes ≡ front ++ rest → rest ≡ more ++ others → (all : List ℕ) × (bytes ≡ all ++ others)
further front more bytes rest others e f = (front ++ more, e ∙ ap (λ (some : List ℕ). front ++ some) f ∙ sym (append_assoc front more others))

behind_plain : (told rest : List ℕ) → list_any needs_quotes told ≡ false → behind false (told ++ rest) ≡ behind false rest
behind_plain [] rest plain = refl
behind_plain (byte ∷ told) rest plain =
    let parts = or_parts (needs_quotes byte) (list_any needs_quotes told) plain in
    let last = or_parts ((byte == 44) || (byte == 34) || (byte == 13)) (byte == 10) parts.0 in
    let third = or_parts ((byte == 44) || (byte == 34)) (byte == 13) last.0 in
    let second = or_parts (byte == 44) (byte == 34) third.0 in
    step_on false byte (told ++ rest) second.1 (ap (λ b. b && true) last.1) ∙ behind_plain told rest parts.1

never_ends : (b : Bool) → (b && false) ≡ false
never_ends true = refl
never_ends false = refl

behind_inner : (told rest : List ℕ) → behind true (inner told ++ rest) ≡ behind true rest
behind_inner [] rest = refl
behind_inner (byte ∷ told) rest =
    ap (behind true) (append_assoc (doubled byte) (inner told) rest)
    ∙ (elim (doubled_cases byte) [
      | inl twice ↦ ap (λ (bytes : List ℕ). behind true (bytes ++ (inner told ++ rest))) twice.1 ∙ behind_inner told rest
      | inr once ↦
          ap (λ (bytes : List ℕ). behind true (bytes ++ (inner told ++ rest))) once.1
          ∙ step_on true byte (inner told ++ rest) (ne_eqb byte 34 once.0) (never_ends (byte == 10))
          ∙ behind_inner told rest
    ])

behind_field : (told rest : List ℕ) → behind false (field_text told ++ rest) ≡ behind false rest
behind_field told rest =
    (elim (list_any needs_quotes told) as (λ b. list_any needs_quotes told ≡ b → behind false (cond b (quoted told) told ++ rest) ≡ behind false rest) [
      | true ↦ λ _. ap (behind false) (quoted_before told rest) ∙ behind_inner told (34 ∷ rest)
      | false ↦ λ plain. behind_plain told rest plain
    ]) refl

behind_fields : (others : List (List ℕ)) (rest : List ℕ) → behind false (flat_map comma_before others ++ 10 ∷ rest) ≡ rest
behind_fields [] rest = refl
behind_fields (field ∷ others) rest =
    ap (behind false) (append_assoc (comma_before field) (flat_map comma_before others) (10 ∷ rest))
    ∙ behind_field field (flat_map comma_before others ++ 10 ∷ rest)
    ∙ behind_fields others rest

pub behind_record : (first : List ℕ) (others : List (List ℕ)) (rest : List ℕ) → behind false (record_text (first ∷ others) ++ rest) ≡ rest
behind_record first others rest = ap (behind false) (record_before first others rest) ∙ behind_field first (flat_map comma_before others ++ 10 ∷ rest) ∙ behind_fields others rest

-- the parts that are still to come
pub part_ahead : (todo : List (List (List ℕ))) (rest bytes : List ℕ) → AllByRecursion IsPart todo → begins_part rest ≡ false → bytes ≡ records_text todo ++ rest → begins_part bytes ≡ true →
    (first : List ℕ) × (others : List (List ℕ)) × (later : List (List (List ℕ))) × AllByRecursion IsPart later × (bytes ≡ record_text (first ∷ others) ++ (records_text later ++ rest))
part_ahead [] rest bytes parts ends e here = absurd (true≢false (sym here ∙ ap begins_part e ∙ ends))
part_ahead ([] ∷ later) rest bytes parts ends e here = absurd (true≢false (sym (parts.0 [])))
part_ahead ((first ∷ others) ∷ later) rest bytes parts ends e here = (first, others, later, parts.1, e ∙ append_assoc (record_text (first ∷ others)) (records_text later) rest)

pub parts_done : (todo : List (List (List ℕ))) (rest bytes : List ℕ) → AllByRecursion IsPart todo → bytes ≡ records_text todo ++ rest → begins_part bytes ≡ false → bytes ≡ rest
parts_done [] rest bytes parts e none = e
parts_done (part ∷ later) rest bytes parts e none =
    absurd (true≢false (sym (parts.0 (records_text later ++ rest)) ∙ sym (ap begins_part (e ∙ append_assoc (record_text part) (records_text later) rest)) ∙ none))

pub some_part : (bytes : List ℕ) → begins_part bytes ≡ true → 0 < length bytes
some_part [] e = absurd (true≢false (sym e))
some_part (byte ∷ bytes) e = omega arith

-- a text that is split at what is left of it
pub split_front : (front rest bytes : List ℕ) (n : ℕ) → bytes ≡ front ++ rest → n ≡ length bytes - length rest → take n bytes ≡ front
split_front front rest bytes n e is = ap (take n) e ∙ take_at front rest n (omega (arith, is, ap length e, length-append front rest))

pub split_rest : (front rest bytes : List ℕ) (n : ℕ) → bytes ≡ front ++ rest → n ≡ length bytes - length rest → drop n bytes ≡ rest
split_rest front rest bytes n e is = ap (drop n) e ∙ drop_at front rest n (omega (arith, is, ap length e, length-append front rest))
