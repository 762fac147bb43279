-- A text of records is of one list of records.
use Rattle.std.proofs.Common.{◌≡◌, refl, ap, sym, ◌∙◌, true, false, true≢false, cond, ℕ, arith, List, [], ◌∷◌, ◌++◌, append_assoc, inl, inr}
use Rattle.std.{specs.Prelude.{flat_map, ◌⊎◌}, specs.List.{list_any, AllByRecursion}, proofs.lemmas.Bool.{or_parts, cases_eq, eq-eqb, ne_eqb}}
use Rattle.tick_model.{specs.Changes.is_none, specs.Texts.{needs_quotes, doubled, field_text, comma_before, fields_text, record_text, records_text}}
use Rattle.update_text.proofs.Backwards.{first_same, rest_same, cons_same, ended_is_none}

abbrev IsPlain : List ℕ → Type 0
IsPlain field = list_any needs_quotes field ≡ false

-- what stands after a field: a comma or a line feed
abbrev IsEnd : ℕ → Type 0
IsEnd byte = (byte ≡ 44) ⊎ (byte ≡ 10)

end_needs : (byte : ℕ) → IsEnd byte → needs_quotes byte ≡ true
end_needs byte (inl e) = ap needs_quotes e
end_needs byte (inr e) = ap needs_quotes e

end_is_no_quote : (byte : ℕ) → IsEnd byte → byte ≡ 34 → ⊥
end_is_no_quote byte (inl e) h = absurd (omega arith)
end_is_no_quote byte (inr e) h = absurd (omega arith)

plain_is_no_end : (byte other : ℕ) (others : List ℕ) → IsPlain (byte ∷ others) → needs_quotes other ≡ true → byte ≡ other → ⊥
plain_is_no_end byte other others plain needs e = true≢false (sym needs ∙ ap needs_quotes (sym e) ∙ (or_parts (needs_quotes byte) (list_any needs_quotes others) plain).0)

-- fields without quotes
plain_same : (f g : List ℕ) (c d : ℕ) (u v : List ℕ) → IsPlain f → IsPlain g → IsEnd c → IsEnd d → f ++ c ∷ u ≡ g ++ d ∷ v → (f ≡ g) × (c ∷ u ≡ d ∷ v)
plain_same [] [] c d u v p q m n e = (refl, e)
plain_same [] (y ∷ g) c d u v p q m n e = absurd (plain_is_no_end y c g q (end_needs c m) (sym (first_same c y u (g ++ d ∷ v) e)))
plain_same (x ∷ f) [] c d u v p q m n e = absurd (plain_is_no_end x d f p (end_needs d n) (first_same x d (f ++ c ∷ u) v e))
plain_same (x ∷ f) (y ∷ g) c d u v p q m n e =
    let others = plain_same f g c d u v (or_parts (needs_quotes x) (list_any needs_quotes f) p).1 (or_parts (needs_quotes y) (list_any needs_quotes g) q).1 m n (rest_same x y (f ++ c ∷ u) (g ++ d ∷ v) e) in
    (cons_same x y f g (first_same x y (f ++ c ∷ u) (g ++ d ∷ v) e) others.0, others.1)

-- a field without quotes, and a text that begins with one
plain_is_not_quoted : (f : List ℕ) (c : ℕ) (u w : List ℕ) → IsPlain f → IsEnd c → f ++ c ∷ u ≡ 34 ∷ w → ⊥
plain_is_not_quoted [] c u w p m e = end_is_no_quote c m (first_same c 34 u w e)
plain_is_not_quoted (x ∷ f) c u w p m e = plain_is_no_end x 34 f p refl (first_same x 34 (f ++ c ∷ u) w e)

-- a byte between quotes is a double quote, which stands twice, or it stands once
pub doubled_cases : (byte : ℕ) → ((byte ≡ 34) × (doubled byte ≡ 34 ∷ 34 ∷ [])) ⊎ ((byte ≡ 34 → ⊥) × (doubled byte ≡ byte ∷ []))
doubled_cases byte =
    elim (cases_eq byte 34) [
      | inl same ↦ inl (same, ap (λ b. cond b (34 ∷ 34 ∷ []) (byte ∷ [])) (eq-eqb byte 34 same))
      | inr other ↦ inr (other, ap (λ b. cond b (34 ∷ 34 ∷ []) (byte ∷ [])) (ne_eqb byte 34 other))
    ]

abbrev pub inner : List ℕ → List ℕ
inner = flat_map doubled

-- the quote that ends a field is followed by no quote
no_end_inside : (y : ℕ) (g : List ℕ) (c : ℕ) (u w : List ℕ) → IsEnd c → 34 ∷ c ∷ u ≡ (doubled y ++ inner g) ++ w → ⊥
no_end_inside y g c u w m e =
    elim (doubled_cases y) [
      | inl twice ↦
          let f : 34 ∷ c ∷ u ≡ 34 ∷ 34 ∷ (inner g ++ w) = e ∙ ap (λ bytes. (bytes ++ inner g) ++ w) twice.1 in
          end_is_no_quote c m (first_same c 34 u (inner g ++ w) (rest_same 34 34 (c ∷ u) (34 ∷ (inner g ++ w)) f))
      | inr once ↦
          let f : 34 ∷ c ∷ u ≡ y ∷ (inner g ++ w) = e ∙ ap (λ bytes. (bytes ++ inner g) ++ w) once.1 in
          once.0 (sym (first_same 34 y (c ∷ u) (inner g ++ w) f))
    ]

-- one byte between quotes
doubled_same : (x y : ℕ) (f g u v : List ℕ) → (doubled x ++ f) ++ u ≡ (doubled y ++ g) ++ v → (x ≡ y) × (f ++ u ≡ g ++ v)
doubled_same x y f g u v e =
    elim (doubled_cases x) [
      | inl twice ↦
          elim (doubled_cases y) [
            | inl also ↦
                let h : 34 ∷ 34 ∷ (f ++ u) ≡ 34 ∷ 34 ∷ (g ++ v) = ap (λ bytes. (bytes ++ f) ++ u) (sym twice.1) ∙ e ∙ ap (λ bytes. (bytes ++ g) ++ v) also.1 in
                (twice.0 ∙ sym also.0, rest_same 34 34 (f ++ u) (g ++ v) (rest_same 34 34 (34 ∷ (f ++ u)) (34 ∷ (g ++ v)) h))
            | inr once ↦
                let h : 34 ∷ 34 ∷ (f ++ u) ≡ y ∷ (g ++ v) = ap (λ bytes. (bytes ++ f) ++ u) (sym twice.1) ∙ e ∙ ap (λ bytes. (bytes ++ g) ++ v) once.1 in
                absurd (once.0 (sym (first_same 34 y (34 ∷ (f ++ u)) (g ++ v) h)))
          ]
      | inr once ↦
          elim (doubled_cases y) [
            | inl twice ↦
                let h : x ∷ (f ++ u) ≡ 34 ∷ 34 ∷ (g ++ v) = ap (λ bytes. (bytes ++ f) ++ u) (sym once.1) ∙ e ∙ ap (λ bytes. (bytes ++ g) ++ v) twice.1 in
                absurd (once.0 (first_same x 34 (f ++ u) (34 ∷ (g ++ v)) h))
            | inr also ↦
                let h : x ∷ (f ++ u) ≡ y ∷ (g ++ v) = ap (λ bytes. (bytes ++ f) ++ u) (sym once.1) ∙ e ∙ ap (λ bytes. (bytes ++ g) ++ v) also.1 in
                (first_same x y (f ++ u) (g ++ v) h, rest_same x y (f ++ u) (g ++ v) h)
          ]
    ]

-- fields in quotes, after the first quote
inner_same : (f g : List ℕ) (c d : ℕ) (u v : List ℕ) → IsEnd c → IsEnd d → inner f ++ 34 ∷ c ∷ u ≡ inner g ++ 34 ∷ d ∷ v → (f ≡ g) × (c ∷ u ≡ d ∷ v)
inner_same [] [] c d u v m n e = (refl, rest_same 34 34 (c ∷ u) (d ∷ v) e)
inner_same [] (y ∷ g) c d u v m n e = absurd (no_end_inside y g c u (34 ∷ d ∷ v) m e)
inner_same (x ∷ f) [] c d u v m n e = absurd (no_end_inside x f d v (34 ∷ c ∷ u) n (sym e))
inner_same (x ∷ f) (y ∷ g) c d u v m n e =
    let one = doubled_same x y (inner f) (inner g) (34 ∷ c ∷ u) (34 ∷ d ∷ v) e in
    let others = inner_same f g c d u v m n one.1 in
    (cons_same x y f g one.0 others.0, others.1)

abbrev pub quoted : List ℕ → List ℕ
quoted field = 34 ∷ inner field ++ 34 ∷ []

pub quoted_before : (field u : List ℕ) → quoted field ++ u ≡ 34 ∷ (inner field ++ 34 ∷ u)
quoted_before field u = append_assoc (34 ∷ inner field) (34 ∷ []) u

-- any two fields
field_same : (f g : List ℕ) (c d : ℕ) (u v : List ℕ) → IsEnd c → IsEnd d → field_text f ++ c ∷ u ≡ field_text g ++ d ∷ v → (f ≡ g) × (c ∷ u ≡ d ∷ v)
field_same f g c d u v m n =
    (elim (list_any needs_quotes f) as (λ b. list_any needs_quotes f ≡ b → cond b (quoted f) f ++ c ∷ u ≡ field_text g ++ d ∷ v → (f ≡ g) × (c ∷ u ≡ d ∷ v)) [
      | true ↦ λ _.
          (elim (list_any needs_quotes g) as (λ b. list_any needs_quotes g ≡ b → quoted f ++ c ∷ u ≡ cond b (quoted g) g ++ d ∷ v → (f ≡ g) × (c ∷ u ≡ d ∷ v)) [
            | true ↦ λ _ e. inner_same f g c d u v m n (rest_same 34 34 (inner f ++ 34 ∷ c ∷ u) (inner g ++ 34 ∷ d ∷ v) (sym (quoted_before f (c ∷ u)) ∙ e ∙ quoted_before g (d ∷ v)))
            | false ↦ λ q e. absurd (plain_is_not_quoted g d v (inner f ++ 34 ∷ c ∷ u) q n (sym e ∙ quoted_before f (c ∷ u)))
          ]) refl
      | false ↦ λ p.
          (elim (list_any needs_quotes g) as (λ b. list_any needs_quotes g ≡ b → f ++ c ∷ u ≡ cond b (quoted g) g ++ d ∷ v → (f ≡ g) × (c ∷ u ≡ d ∷ v)) [
            | true ↦ λ _ e. absurd (plain_is_not_quoted f c u (inner g ++ 34 ∷ d ∷ v) p m (e ∙ quoted_before g (d ∷ v)))
            | false ↦ λ q e. plain_same f g c d u v p q m n e
          ]) refl
    ]) refl

-- what stands after the first field begins with an end
begins : (fs : List (List ℕ)) (u : List ℕ) → (c : ℕ) × (w : List ℕ) × IsEnd c × (flat_map comma_before fs ++ 10 ∷ u ≡ c ∷ w)
begins [] u = (10, u, inr refl, refl)
begins (f ∷ fs) u = (44, (field_text f ++ flat_map comma_before fs) ++ 10 ∷ u, inl refl, refl)

after_field : (f g : List ℕ) (fs gs : List (List ℕ)) (u v : List ℕ) →
    field_text f ++ (flat_map comma_before fs ++ 10 ∷ u) ≡ field_text g ++ (flat_map comma_before gs ++ 10 ∷ v) →
    (f ≡ g) × (flat_map comma_before fs ++ 10 ∷ u ≡ flat_map comma_before gs ++ 10 ∷ v)
after_field f g fs gs u v e =
    let one = begins fs u in
    let two = begins gs v in
    let both = field_same f g one.0 two.0 one.1 two.1 one.2 two.2 (ap (λ w. field_text f ++ w) (sym one.3) ∙ e ∙ ap (λ w. field_text g ++ w) two.3) in
    (both.0, one.3 ∙ both.1 ∙ sym two.3)

-- the fields after the first
others_same : (fs gs : List (List ℕ)) (u v : List ℕ) → flat_map comma_before fs ++ 10 ∷ u ≡ flat_map comma_before gs ++ 10 ∷ v → (fs ≡ gs) × (u ≡ v)
others_same [] [] u v e = (refl, rest_same 10 10 u v e)
others_same [] (g ∷ gs) u v e = let h : 10 ≡ 44 = first_same 10 44 u ((field_text g ++ flat_map comma_before gs) ++ 10 ∷ v) e in absurd (omega (arith, h))
others_same (f ∷ fs) [] u v e = let h : 44 ≡ 10 = first_same 44 10 ((field_text f ++ flat_map comma_before fs) ++ 10 ∷ u) v e in absurd (omega (arith, h))
others_same (f ∷ fs) (g ∷ gs) u v e =
    let h = rest_same 44 44 ((field_text f ++ flat_map comma_before fs) ++ 10 ∷ u) ((field_text g ++ flat_map comma_before gs) ++ 10 ∷ v) e in
    let one = after_field f g fs gs u v (sym (append_assoc (field_text f) (flat_map comma_before fs) (10 ∷ u)) ∙ h ∙ append_assoc (field_text g) (flat_map comma_before gs) (10 ∷ v)) in
    let others = others_same fs gs u v one.1 in
    (cons_same f g fs gs one.0 others.0, others.1)

pub record_before : (f : List ℕ) (fs : List (List ℕ)) (u : List ℕ) → record_text (f ∷ fs) ++ u ≡ field_text f ++ (flat_map comma_before fs ++ 10 ∷ u)
record_before f fs u =
    append_assoc (fields_text (f ∷ fs)) (10 ∷ []) u
    ∙ append_assoc (field_text f) (flat_map comma_before fs) (10 ∷ u)

-- records of some fields each
pub records_same : (rs ss : List (List (List ℕ))) → AllByRecursion (λ record_. is_none record_ ≡ false) rs → AllByRecursion (λ record_. is_none record_ ≡ false) ss →
    records_text rs ≡ records_text ss → rs ≡ ss
records_same [] [] h k e = refl
records_same [] (s ∷ ss) h k e = absurd (ended_is_none (fields_text s) 10 (records_text ss) (sym (append_assoc (fields_text s) (10 ∷ []) (records_text ss)) ∙ sym e))
records_same (r ∷ rs) [] h k e = absurd (ended_is_none (fields_text r) 10 (records_text rs) (sym (append_assoc (fields_text r) (10 ∷ []) (records_text rs)) ∙ e))
records_same ([] ∷ rs) (s ∷ ss) h k e = absurd (true≢false h.0)
records_same ((f ∷ fs) ∷ rs) ([] ∷ ss) h k e = absurd (true≢false k.0)
records_same ((f ∷ fs) ∷ rs) ((g ∷ gs) ∷ ss) h k e =
    let one = after_field f g fs gs (records_text rs) (records_text ss) (sym (record_before f fs (records_text rs)) ∙ e ∙ record_before g gs (records_text ss)) in
    let both = others_same fs gs (records_text rs) (records_text ss) one.1 in
    cons_same (f ∷ fs) (g ∷ gs) rs ss (cons_same f g fs gs one.0 both.0) (records_same rs ss h.1 k.1 both.1)
