-- Shifts that are lawful on some of the keys.
use Rattle.std.proofs.Common.{◌≡◌, refl, ap, ap₂, sym, ◌∙◌, Bool, false, cond, ℕ, ◌^◌, ◌<◌, ◌≤◌, arith, List, [], ◌∷◌, filter, leb, Some, None, Option, pos, negsuc, ℤ, inl, inr}
use Rattle.std.{specs.Prelude.{IfSome, int_le, int_lt}, specs.List.AllByRecursion, proofs.lemmas.Bool.{cases_Bool, or_parts, or_from, leb-false, lt-leb, true≢false}, proofs.lemmas.Option.none-some}
use Rattle.key_lists.{specs.Keys.IsRising, proofs.Every.{every_weaker, every-filter}, proofs.Rising.rising-filter}
use Rattle.tick_model.{specs.declared.update.ShiftRange.ShiftRange, specs.declared.update.UpdateFault.TheVariants.ShiftBreaks, specs.Shifts.{moved, as_key}, specs.Rules.{is_past, shift_fault_after, shift_fault, landed}}
use Rattle.shift_data.{specs.Moves.IsLawful, proofs.Lawful.not_past}
use Rattle.tick_laws.proofs.CheckedUpdates.{shift_lawful}

abbrev place : List ShiftRange → ℕ → ℕ
place shifts key = as_key (moved shifts key)

module _ (limit : ℕ) (shifts : List ShiftRange) where
  abbrev IsInside : ℕ → Type 0
  IsInside key = is_past limit (moved shifts key) ≡ false

  -- every key of a lawful shift moves to a key below the limit
  inside_after : (before : Option ℕ) (keys : List ℕ) → shift_fault_after limit shifts before keys ≡ None → AllByRecursion IsInside keys
  inside_after None [] e = tt
  inside_after (Some before) [] e = tt
  inside_after None (key ∷ keys) e =
      elim (cases_Bool (is_past limit (moved shifts key))) [
        | inl past ↦ absurd (none-some (ShiftBreaks key key) (sym e ∙ ap (λ t. cond t (Some (ShiftBreaks key key)) (shift_fault_after limit shifts (Some key) keys)) past))
        | inr inside ↦ (inside, inside_after (Some key) keys (sym (ap (λ t. cond t (Some (ShiftBreaks key key)) (shift_fault_after limit shifts (Some key) keys)) inside) ∙ e))
      ]
  inside_after (Some before) (key ∷ keys) e =
      elim (cases_Bool (is_past limit (moved shifts key))) [
        | inl past ↦ absurd (none-some (ShiftBreaks key key) (sym e ∙ ap (λ t. cond t (Some (ShiftBreaks key key)) (cond (int_le (moved shifts key) (moved shifts before)) (Some (ShiftBreaks before key)) (shift_fault_after limit shifts (Some key) keys))) past))
        | inr inside ↦
            let next : cond (int_le (moved shifts key) (moved shifts before)) (Some (ShiftBreaks before key)) (shift_fault_after limit shifts (Some key) keys) ≡ None =
            sym (ap (λ t. cond t (Some (ShiftBreaks key key)) (cond (int_le (moved shifts key) (moved shifts before)) (Some (ShiftBreaks before key)) (shift_fault_after limit shifts (Some key) keys))) inside) ∙ e in
            elim (cases_Bool (int_le (moved shifts key) (moved shifts before))) [
              | inl back ↦ absurd (none-some (ShiftBreaks before key) (sym next ∙ ap (λ t. cond t (Some (ShiftBreaks before key)) (shift_fault_after limit shifts (Some key) keys)) back))
              | inr on ↦ (inside, inside_after (Some key) keys (sym (ap (λ t. cond t (Some (ShiftBreaks before key)) (shift_fault_after limit shifts (Some key) keys)) on) ∙ next))
            ]
      ]

  -- and where they do, and rise, no key breaks the order
  on : (before key : ℕ) → IsInside before → IsInside key → place shifts before < place shifts key → int_le (moved shifts key) (moved shifts before) ≡ false
  on before key there here less =
      ap₂ int_le (not_past limit (moved shifts key) here).0 (not_past limit (moved shifts before) there).0 ∙ lt-leb (place shifts key) (place shifts before) less

  none_breaks : (before : Option ℕ) (keys : List ℕ) → IfSome before (λ other. IsInside other × AllByRecursion (λ key. place shifts other < key) (landed shifts keys)) → AllByRecursion IsInside keys → IsRising (landed shifts keys) → shift_fault_after limit shifts before keys ≡ None
  none_breaks None [] b inside rising = refl
  none_breaks (Some before) [] b inside rising = refl
  none_breaks None (key ∷ keys) b inside rising =
      ap (λ t. cond t (Some (ShiftBreaks key key)) (shift_fault_after limit shifts (Some key) keys)) inside.0
      ∙ none_breaks (Some key) keys (inside.0, rising.0) inside.1 rising.1
  none_breaks (Some before) (key ∷ keys) b inside rising =
      ap (λ t. cond t (Some (ShiftBreaks key key)) (cond (int_le (moved shifts key) (moved shifts before)) (Some (ShiftBreaks before key)) (shift_fault_after limit shifts (Some key) keys))) inside.0
      ∙ ap (λ t. cond t (Some (ShiftBreaks before key)) (shift_fault_after limit shifts (Some key) keys)) (on before key b.0 inside.0 b.1.0)
      ∙ none_breaks (Some key) keys (inside.0, rising.0) inside.1 rising.1

-- a shift that is lawful below a limit is lawful
within_keys : (limit : ℕ) (z : ℤ) → limit ≤ 2 ^ 62 → is_past limit z ≡ false → is_past (2 ^ 62) z ≡ false
within_keys limit (pos n) room e = or_from (int_lt (pos n) (pos 0)) (leb (2 ^ 62) n) (or_parts _ _ e).0 (lt-leb (2 ^ 62) n (omega (arith, leb-false limit n (or_parts _ _ e).1)))
within_keys limit (negsuc n) room e = absurd (true≢false e)

pub lawful_below : (limit : ℕ) (shifts : List ShiftRange) (keys : List ℕ) → limit ≤ 2 ^ 62 → shift_fault limit shifts keys ≡ None → IsLawful shifts keys
lawful_below limit shifts keys room e =
    none_breaks (2 ^ 62) shifts None keys tt
    (every_weaker (IsInside limit shifts) (IsInside (2 ^ 62) shifts) keys (λ key h. within_keys limit (moved shifts key) room h) (inside_after limit shifts None keys e))
    (shift_lawful limit shifts keys e).1

-- and on some of the keys
pub lawful_some : (shifts : List ShiftRange) (p : ℕ → Bool) (keys : List ℕ) → IsLawful shifts keys → IsLawful shifts (filter p keys)
lawful_some shifts p keys e =
    none_breaks (2 ^ 62) shifts None (filter p keys) tt
    (every-filter (IsInside (2 ^ 62) shifts) p keys (inside_after (2 ^ 62) shifts None keys e))
    (rising-filter (place shifts) p keys (shift_lawful (2 ^ 62) shifts keys e).1)

pub places_rise : (shifts : List ShiftRange) (keys : List ℕ) → IsLawful shifts keys → IsRising (landed shifts keys)
places_rise shifts keys e = (shift_lawful (2 ^ 62) shifts keys e).1
