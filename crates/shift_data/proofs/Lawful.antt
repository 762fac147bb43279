-- What a lawful shift does to the keys.
use Rattle.std.proofs.Common.{◌≡◌, refl, ap, sym, ◌∙◌, false, cond, ℕ, ◌^◌, ◌<◌, arith, List, [], ◌∷◌, Some, None, Option, pos, negsuc, ℤ, ◌+ℤ◌, ◌-ℤ◌, leb-false, inl, inr}
use Rattle.std.{specs.Prelude.{IfSome, int_le, int_lt}, specs.List.AllByRecursion, proofs.lemmas.Bool.{or_parts, cases_Bool, true≢false}, proofs.lemmas.Option.none-some, proofs.lemmas.Int.ints}
use Rattle.key_lists.{specs.Keys.IsRising, proofs.Every.{every_weaker, every-map}}
use Rattle.tick_model.{specs.declared.update.ShiftRange.ShiftRange, specs.declared.update.UpdateFault.TheVariants.ShiftBreaks, specs.Shifts.{moved, as_key}, specs.Rules.{is_past, shift_fault_after, shift_fault, landed}}

-- a number that is a key below the limit
pub not_past : (limit : ℕ) (place : ℤ) → is_past limit place ≡ false → (place ≡ pos (as_key place)) × (as_key place < limit)
not_past limit (pos n) e = (refl, leb-false limit n (or_parts (int_lt (pos n) (pos 0)) (int_le (pos limit) (pos n)) e).1)
not_past limit (negsuc n) e = absurd (true≢false e)

-- of two of them, one that is not past the other is below it
pub below : (limit : ℕ) (place other : ℤ) → is_past limit place ≡ false → is_past limit other ≡ false → int_le other place ≡ false → as_key place < as_key other
below limit (pos n) (pos m) p q e = leb-false m n e
below limit (pos n) (negsuc m) p q e = absurd (true≢false q)
below limit (negsuc n) other p q e = absurd (true≢false p)

abbrev pub place : List ShiftRange → ℕ → ℕ
place shifts key = as_key (moved shifts key)

pub record Lands (limit : ℕ) (shifts : List ShiftRange) (before : Option ℕ) (keys : List ℕ) : Type 0 where
  pub inside : AllByRecursion (λ key. is_past limit (moved shifts key) ≡ false) keys
  pub rising : IsRising (landed shifts keys)
  pub past : IfSome before (λ key. AllByRecursion (λ other. place shifts key < place shifts other) keys)

module _ (limit : ℕ) (shifts : List ShiftRange) where
  lands_more : (before : Option ℕ) (key : ℕ) (others : List ℕ) → is_past limit (moved shifts key) ≡ false → IfSome before (λ other. place shifts other < place shifts key) → Lands limit shifts (Some key) others → Lands limit shifts before (key ∷ others)
  lands_more before key others inside past rest = record {
    inside = (inside, rest.inside);
    rising = (every-map (λ other. place shifts key < other) (place shifts) others rest.past, rest.rising);
    past = more before past;
  }
    where
      more : (before : Option ℕ) → IfSome before (λ other. place shifts other < place shifts key) → IfSome before (λ other. AllByRecursion (λ next. place shifts other < place shifts next) (key ∷ others))
      more None h = tt
      more (Some other) h = (h, every_weaker (λ next. place shifts key < place shifts next) (λ next. place shifts other < place shifts next) others (λ next k. omega (arith, h, k)) rest.past)

  lands : (before : Option ℕ) (keys : List ℕ) → IfSome before (λ key. is_past limit (moved shifts key) ≡ false) → shift_fault_after limit shifts before keys ≡ None → Lands limit shifts before keys
  lands None [] b e = record { inside = tt; rising = tt; past = tt }
  lands (Some key) [] b e = record { inside = tt; rising = tt; past = tt }
  lands None (key ∷ others) b e =
      elim (cases_Bool (is_past limit (moved shifts key))) [
        | inl outside ↦ absurd (none-some (ShiftBreaks key key) (sym e ∙ ap (λ t. cond t (Some (ShiftBreaks key key)) (shift_fault_after limit shifts (Some key) others)) outside))
        | inr inside ↦ lands_more None key others inside tt (lands (Some key) others inside (sym (ap (λ t. cond t (Some (ShiftBreaks key key)) (shift_fault_after limit shifts (Some key) others)) inside) ∙ e))
      ]
  lands (Some before) (key ∷ others) b e =
      elim (cases_Bool (is_past limit (moved shifts key))) [
        | inl outside ↦ absurd (none-some (ShiftBreaks key key) (sym e ∙ ap (λ t. cond t (Some (ShiftBreaks key key)) (cond (int_le (moved shifts key) (moved shifts before)) (Some (ShiftBreaks before key)) (shift_fault_after limit shifts (Some key) others))) outside))
        | inr inside ↦
            let next : cond (int_le (moved shifts key) (moved shifts before)) (Some (ShiftBreaks before key)) (shift_fault_after limit shifts (Some key) others) ≡ None =
            sym (ap (λ t. cond t (Some (ShiftBreaks key key)) (cond (int_le (moved shifts key) (moved shifts before)) (Some (ShiftBreaks before key)) (shift_fault_after limit shifts (Some key) others))) inside) ∙ e in
            elim (cases_Bool (int_le (moved shifts key) (moved shifts before))) [
              | inl back ↦ absurd (none-some (ShiftBreaks before key) (sym next ∙ ap (λ t. cond t (Some (ShiftBreaks before key)) (shift_fault_after limit shifts (Some key) others)) back))
              | inr on ↦ lands_more (Some before) key others inside (below limit (moved shifts before) (moved shifts key) b inside on) (lands (Some key) others inside (sym (ap (λ t. cond t (Some (ShiftBreaks before key)) (shift_fault_after limit shifts (Some key) others)) on) ∙ next))
            ]
      ]

pub lawful : (shifts : List ShiftRange) (keys : List ℕ) → shift_fault (2 ^ 62) shifts keys ≡ None → Lands (2 ^ 62) shifts None keys
lawful shifts keys e = lands (2 ^ 62) shifts None keys tt e

-- by how much a key moves, where it lands on a key
pub moves_by : (limit : ℕ) (key : ℕ) (delta : ℤ) → is_past limit (pos key +ℤ delta) ≡ false → pos (as_key (pos key +ℤ delta)) -ℤ pos key ≡ delta
moves_by limit key delta e = ap (λ z. z -ℤ pos key) (sym (not_past limit (pos key +ℤ delta) e).0) ∙ back key delta
  where
    back : (key : ℕ) (delta : ℤ) → (pos key +ℤ delta) -ℤ pos key ≡ delta
    back key delta = omega (arith, ints)
