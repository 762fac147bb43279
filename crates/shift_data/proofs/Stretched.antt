-- Stretches of pairs that are put together from the left.
use Rattle.std.proofs.Common.{◌≡◌, refl, ap, sym, ◌∙◌, Bool, true, false, cond, ℕ, List, [], ◌∷◌, ◌++◌, map, ℤ, Some, None, Option, append_assoc, w64, to_z, of_z, SFits}
use Rattle.std.{specs.Prelude.filter, specs.List.AllByRecursion, specs.Ordering.int_eq, specs.Cmp.signed_Decides, proofs.lemmas.Bool.false_from_ne_true, proofs.lemmas.Int.to_z-of_z, proofs.lemmas.List.append-nil}
use Rattle.tick_model.{specs.declared.update.ShiftRange.ShiftRange, specs.declared.update.KeyPair.KeyPair, specs.Shifts.{delta, one, extend, stretches}}
use Rattle.shift_data.{specs.Stretches.{joined, is_moving, built}, proofs.Keys.Spans}

abbrev pub range_by : ℕ → ℕ → ℤ → ShiftRange
range_by begin end delta = record { begin = begin; end = end; delta = delta }

-- two ranges of one delta before others are one
pub joined_same : (range next : ShiftRange) (others : List ShiftRange) → int_eq range.delta next.delta ≡ true → joined range (joined next others) ≡ joined (range_by range.begin next.end next.delta) others
joined_same range next [] e = ap (λ b. cond b ((record next { begin = range.begin }) ∷ []) (range ∷ next ∷ [])) e
joined_same range next (other ∷ others) e =
    (elim (int_eq next.delta other.delta) as (λ b. int_eq next.delta other.delta ≡ b → joined range (joined next (other ∷ others)) ≡ joined (range_by range.begin next.end next.delta) (other ∷ others)) [
      | true ↦ λ t.
          ap (λ b. joined range (cond b ((record other { begin = next.begin }) ∷ others) (next ∷ other ∷ others))) t
          ∙ ap (λ b. cond b ((record other { begin = range.begin }) ∷ others) (range ∷ (record other { begin = next.begin }) ∷ others)) (ap (λ d. int_eq d other.delta) ((signed_Decides range.delta next.delta).0 e) ∙ t)
          ∙ sym (ap (λ b. cond b ((record other { begin = range.begin }) ∷ others) (range_by range.begin next.end next.delta ∷ other ∷ others)) t)
      | false ↦ λ t.
          ap (λ b. joined range (cond b ((record other { begin = next.begin }) ∷ others) (next ∷ other ∷ others))) t
          ∙ ap (λ b. cond b ((record next { begin = range.begin }) ∷ other ∷ others) (range ∷ next ∷ other ∷ others)) e
          ∙ sym (ap (λ b. cond b ((record other { begin = range.begin }) ∷ others) (range_by range.begin next.end next.delta ∷ other ∷ others)) t)
    ]) refl

-- and of two deltas they are two
pub joined_apart : (range next : ShiftRange) (others : List ShiftRange) → int_eq range.delta next.delta ≡ false → joined range (joined next others) ≡ range ∷ joined next others
joined_apart range next [] e = ap (λ b. cond b ((record next { begin = range.begin }) ∷ []) (range ∷ next ∷ [])) e
joined_apart range next (other ∷ others) e =
    (elim (int_eq next.delta other.delta) as (λ b. int_eq next.delta other.delta ≡ b → joined range (cond b ((record other { begin = next.begin }) ∷ others) (next ∷ other ∷ others)) ≡ range ∷ cond b ((record other { begin = next.begin }) ∷ others) (next ∷ other ∷ others)) [
      | true ↦ λ t. ap (λ b. cond b ((record other { begin = range.begin }) ∷ others) (range ∷ (record other { begin = next.begin }) ∷ others)) (ap (int_eq range.delta) (sym ((signed_Decides next.delta other.delta).0 t)) ∙ e)
      | false ↦ λ t. ap (λ b. cond b ((record next { begin = range.begin }) ∷ other ∷ others) (range ∷ next ∷ other ∷ others)) e
    ]) refl

-- what one more range does to those that are built
pub built_longer : (whole : List ShiftRange) (last next : ShiftRange) (others : List ShiftRange) → int_eq last.delta next.delta ≡ true → built whole (Some (range_by last.begin next.end next.delta)) others ≡ built whole (Some last) (joined next others)
built_longer whole last next others e = ap (λ ranges. whole ++ filter is_moving ranges) (sym (joined_same last next others e))

pub built_more : (whole : List ShiftRange) (last : Option ShiftRange) (next : ShiftRange) (others : List ShiftRange) → ((range : ShiftRange) → last ≡ Some range → int_eq range.delta next.delta ≡ false) → built (built whole last []) (Some next) others ≡ built whole last (joined next others)
built_more whole None next others h = ap (λ xs. xs ++ filter is_moving (joined next others)) (append-nil whole)
built_more whole (Some last) next others h =
    append_assoc whole (filter is_moving (last ∷ [])) (filter is_moving (joined next others))
    ∙ ap (λ xs. whole ++ xs) (step (is_moving last))
    ∙ sym (ap (λ ranges. whole ++ filter is_moving ranges) (joined_apart last next others (h last refl)))
  where
    step : (b : Bool) → cond b (last ∷ []) [] ++ filter is_moving (joined next others) ≡ cond b (last ∷ filter is_moving (joined next others)) (filter is_moving (joined next others))
    step true = refl
    step false = refl

-- a pair before others is a range before others
extend_joined : (pair : KeyPair) (ranges : List ShiftRange) → extend pair ranges ≡ joined (one pair) ranges
extend_joined pair [] = refl
extend_joined pair (range ∷ ranges) = refl

-- the pairs of neighbouring keys that move by one delta are one range
module _ (pair : ℕ → KeyPair) (old : (key : ℕ) → (pair key).old ≡ key) where
  one_is : (d : ℤ) (key : ℕ) → delta (pair key) ≡ d → one (pair key) ≡ range_by key key d
  one_is d key e = ap (λ k. range_by k k (delta (pair key))) (old key) ∙ ap (range_by key key) e

  pub stretched : (d : ℤ) (first last : ℕ) (xs : List ℕ) (rest : List KeyPair) → Spans first last xs → AllByRecursion (λ key. delta (pair key) ≡ d) xs → stretches (map pair xs ++ rest) ≡ joined (range_by first last d) (stretches rest)
  stretched d first last [] rest h same = absurd h
  stretched d first last (x ∷ []) rest h same =
      extend_joined (pair x) (stretches rest)
      ∙ ap (λ range. joined range (stretches rest)) (one_is d x same.0 ∙ ap (λ k. range_by k x d) h.0 ∙ ap (λ k. range_by first k d) h.1)
  stretched d first last (x ∷ y ∷ xs) rest h same =
      ap (extend (pair x)) (stretched d y last (y ∷ xs) rest h.1 same.1)
      ∙ extend_joined (pair x) (joined (range_by y last d) (stretches rest))
      ∙ ap (λ range. joined range (joined (range_by y last d) (stretches rest))) (one_is d x same.0)
      ∙ joined_same (range_by x x d) (range_by y last d) (stretches rest) ((signed_Decides d d).1 refl)
      ∙ ap (λ k. joined (range_by k last d) (stretches rest)) h.0

-- what a part does to the ranges that are built, where the last of them goes on, and where it does not
same_bits : (a b : ℤ) → SFits w64 a → SFits w64 b → of_z w64 a ≡ of_z w64 b → a ≡ b
same_bits a b f g e = sym (to_z-of_z w64 a f) ∙ ap (to_z w64) e ∙ to_z-of_z w64 b g

pub goes_on : (whole : List ShiftRange) (last : Option ShiftRange) (range : ShiftRange) (first end : ℕ) (delta : ℤ) (others : List ShiftRange) → last ≡ Some range → SFits w64 range.delta → SFits w64 delta → of_z w64 range.delta ≡ of_z w64 delta → built whole (Some (range_by range.begin end delta)) others ≡ built whole last (joined (range_by first end delta) others)
goes_on whole last range first end delta others is f g e =
    built_longer whole range (range_by first end delta) others ((signed_Decides range.delta delta).1 (same_bits range.delta delta f g e))
    ∙ ap (λ l. built whole l (joined (range_by first end delta) others)) (sym is)

pub begins : (whole : List ShiftRange) (last : Option ShiftRange) (first end : ℕ) (delta : ℤ) (others : List ShiftRange) → ((range : ShiftRange) → last ≡ Some range → of_z w64 range.delta ≡ of_z w64 delta → ⊥) → built (built whole last []) (Some (range_by first end delta)) others ≡ built whole last (joined (range_by first end delta) others)
begins whole last first end delta others apart =
    built_more whole last (range_by first end delta) others (λ range is. false_from_ne_true (int_eq range.delta delta) (λ e. apart range is (ap (of_z w64) ((signed_Decides range.delta delta).0 e))))
