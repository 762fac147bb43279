-- Fields, read back from the text that they begin.
use Rattle.std.proofs.Common.{◌≡◌, refl, ap, sym, ◌∙◌, subst, Bool, true, false, true≢false, cond, ◌||◌, ◌&&◌, ◌==◌, ℕ, suc, ◌+◌, ◌<◌, ◌≤◌, arith, List, [], ◌∷◌, ◌++◌, length, append_assoc, inl, inr, eq-eqb, ne_eqb}
use Rattle.std.{specs.Prelude.{flat_map, not, Option, Some, None, unwrap_or, MatchResult, nat_lt}, specs.List.{list_any, position_or_len}, proofs.lemmas.Bool.{or_parts, or_from, cases_eq, ltb-false}}
use Rattle.tick_model.specs.Texts.{needs_quotes, doubled, field_text, comma_before}
use Rattle.update_text.{specs.Reading.{begins_with_end, has_tag, is_end, next_fields}, proofs.Backwards.{first_same, rest_same, cons_same, some_is_none}, proofs.Quoting.{doubled_cases, inner, quoted, quoted_before}}

-- a byte that needs no quotes ends no field
plain_no_end : (byte : ℕ) → needs_quotes byte ≡ false → is_end byte ≡ false
plain_no_end byte e =
    let last = or_parts ((byte == 44) || (byte == 34) || (byte == 13)) (byte == 10) e in
    let third = or_parts ((byte == 44) || (byte == 34)) (byte == 13) last.0 in
    let second = or_parts (byte == 44) (byte == 34) third.0 in
    or_from (byte == 44) (byte == 10) second.0 last.1

-- a field without quotes ends before the first end
pub plain_length : (told rest : List ℕ) → list_any needs_quotes told ≡ false → begins_with_end rest ≡ true → position_or_len is_end (told ++ rest) ≡ length told
plain_length [] [] p e = absurd (true≢false (sym e))
plain_length [] (byte ∷ rest) p e = ap (λ b. cond (not b) (1 + position_or_len is_end rest) 0) e
plain_length (x ∷ told) rest p e =
    let parts = or_parts (needs_quotes x) (list_any needs_quotes told) p in
    ap (λ b. cond (not b) (1 + position_or_len is_end (told ++ rest)) 0) (plain_no_end x parts.0)
    ∙ ap (λ n. 1 + n) (plain_length told rest parts.1 e)
    ∙ omega arith

pub place_or_length : (place count : ℕ) → place ≤ count → unwrap_or (cond (nat_lt place count) (Some place) None) count ≡ place
place_or_length place count h =
    (elim (nat_lt place count) as (λ b. nat_lt place count ≡ b → unwrap_or (cond b (Some place) None) count ≡ place) [
      | true ↦ λ e. refl
      | false ↦ λ e. omega (arith, ltb-false place count e)
    ]) refl

-- behind the first quote: a byte that is no quote, a quote that stands twice, and the quote that ends the field
pub quoted_byte : (byte : ℕ) (left todo rest : List ℕ) → (byte ≡ 34 → ⊥) → byte ∷ left ≡ inner todo ++ 34 ∷ rest → (later : List ℕ) × (todo ≡ byte ∷ later) × (left ≡ inner later ++ 34 ∷ rest)
quoted_byte byte left [] rest other e = absurd (other (first_same byte 34 left rest e))
quoted_byte byte left (x ∷ todo) rest other e =
    elim (doubled_cases x) [
      | inl twice ↦
          let f : byte ∷ left ≡ 34 ∷ 34 ∷ (inner todo ++ 34 ∷ rest) = e ∙ ap (λ bytes. (bytes ++ inner todo) ++ 34 ∷ rest) twice.1 in
          absurd (other (first_same byte 34 left (34 ∷ (inner todo ++ 34 ∷ rest)) f))
      | inr once ↦
          let f : byte ∷ left ≡ x ∷ (inner todo ++ 34 ∷ rest) = e ∙ ap (λ bytes. (bytes ++ inner todo) ++ 34 ∷ rest) once.1 in
          (todo, ap (λ y. y ∷ todo) (sym (first_same byte x left (inner todo ++ 34 ∷ rest) f)), rest_same byte x left (inner todo ++ 34 ∷ rest) f)
    ]

end_no_quote : (rest left : List ℕ) → begins_with_end rest ≡ true → rest ≡ 34 ∷ left → ⊥
end_no_quote rest left e same = true≢false (sym e ∙ ap begins_with_end same)

pub quoted_twice : (left todo rest : List ℕ) → begins_with_end rest ≡ true → 34 ∷ 34 ∷ left ≡ inner todo ++ 34 ∷ rest → (later : List ℕ) × (todo ≡ 34 ∷ later) × (left ≡ inner later ++ 34 ∷ rest)
quoted_twice left [] rest ends e = absurd (end_no_quote rest left ends (sym (rest_same 34 34 (34 ∷ left) rest e)))
quoted_twice left (x ∷ todo) rest ends e =
    elim (doubled_cases x) [
      | inl twice ↦
          let f : 34 ∷ 34 ∷ left ≡ 34 ∷ 34 ∷ (inner todo ++ 34 ∷ rest) = e ∙ ap (λ bytes. (bytes ++ inner todo) ++ 34 ∷ rest) twice.1 in
          (todo, ap (λ y. y ∷ todo) twice.0, rest_same 34 34 left (inner todo ++ 34 ∷ rest) (rest_same 34 34 (34 ∷ left) (34 ∷ (inner todo ++ 34 ∷ rest)) f))
      | inr once ↦
          let f : 34 ∷ 34 ∷ left ≡ x ∷ (inner todo ++ 34 ∷ rest) = e ∙ ap (λ bytes. (bytes ++ inner todo) ++ 34 ∷ rest) once.1 in
          absurd (once.0 (sym (first_same 34 x (34 ∷ left) (inner todo ++ 34 ∷ rest) f)))
    ]

pub quoted_end : (left todo rest : List ℕ) → ((behind : List ℕ) → left ≡ 34 ∷ behind → ⊥) → 34 ∷ left ≡ inner todo ++ 34 ∷ rest → (todo ≡ []) × (left ≡ rest)
quoted_end left [] rest alone e = (refl, rest_same 34 34 left rest e)
quoted_end left (x ∷ todo) rest alone e =
    elim (doubled_cases x) [
      | inl twice ↦
          let f : 34 ∷ left ≡ 34 ∷ 34 ∷ (inner todo ++ 34 ∷ rest) = e ∙ ap (λ bytes. (bytes ++ inner todo) ++ 34 ∷ rest) twice.1 in
          absurd (alone (inner todo ++ 34 ∷ rest) (rest_same 34 34 left (34 ∷ (inner todo ++ 34 ∷ rest)) f))
      | inr once ↦
          let f : 34 ∷ left ≡ x ∷ (inner todo ++ 34 ∷ rest) = e ∙ ap (λ bytes. (bytes ++ inner todo) ++ 34 ∷ rest) once.1 in
          absurd (once.0 (sym (first_same 34 x left (inner todo ++ 34 ∷ rest) f)))
    ]

-- a field that begins with a quote stands in quotes, and only such a field
plain_no_quote : (told rest left : List ℕ) → list_any needs_quotes told ≡ false → begins_with_end rest ≡ true → told ++ rest ≡ 34 ∷ left → ⊥
plain_no_quote [] rest left p ends e = end_no_quote rest left ends e
plain_no_quote (x ∷ told) rest left p ends e = true≢false (sym (ap needs_quotes (first_same x 34 (told ++ rest) left e)) ∙ (or_parts (needs_quotes x) (list_any needs_quotes told) p).0)

pub in_quotes : (told rest left : List ℕ) → begins_with_end rest ≡ true → 34 ∷ left ≡ field_text told ++ rest → left ≡ inner told ++ 34 ∷ rest
in_quotes told rest left ends =
    (elim (list_any needs_quotes told) as (λ b. list_any needs_quotes told ≡ b → 34 ∷ left ≡ cond b (quoted told) told ++ rest → left ≡ inner told ++ 34 ∷ rest) [
      | true ↦ λ _ e. rest_same 34 34 left (inner told ++ 34 ∷ rest) (e ∙ quoted_before told rest)
      | false ↦ λ p e. absurd (plain_no_quote told rest left p ends (sym e))
    ]) refl

pub without_quotes : (bytes told rest : List ℕ) → ((left : List ℕ) → bytes ≡ 34 ∷ left → ⊥) → bytes ≡ field_text told ++ rest → (list_any needs_quotes told ≡ false) × (bytes ≡ told ++ rest)
without_quotes bytes told rest alone =
    (elim (list_any needs_quotes told) as (λ b. list_any needs_quotes told ≡ b → bytes ≡ cond b (quoted told) told ++ rest → (list_any needs_quotes told ≡ false) × (bytes ≡ told ++ rest)) [
      | true ↦ λ _ e. absurd (alone (inner told ++ 34 ∷ rest) (e ∙ quoted_before told rest))
      | false ↦ λ p e. (p, e)
    ]) refl

-- what stands behind a field begins with an end
pub fields_end : (others : List (List ℕ)) (rest : List ℕ) → begins_with_end (next_fields others rest) ≡ true
fields_end [] rest = refl
fields_end (field ∷ others) rest = refl

pub next_field : (told : List ℕ) (others : List (List ℕ)) (rest : List ℕ) → next_fields (told ∷ others) rest ≡ 44 ∷ (field_text told ++ next_fields others rest)
next_field told others rest = append_assoc (comma_before told) (flat_map comma_before others) (10 ∷ rest)
