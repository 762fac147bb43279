-- What is found among entries that stand before an entry and entries that do not.
use Rattle.std.proofs.Common.{◌≡◌, refl, ap, ◌∙◌, Bool, true, false, cond, not, ℕ, suc, ◌+◌, ◌≤◌, arith, List, [], ◌∷◌, ◌++◌, length, Option, Some, None, length-append, ltb-false}
use Rattle.std.{specs.Prelude.{filter, nat_lt}, specs.List.{AllByRecursion, position_or_len}, proofs.lemmas.Bool.{lt-ltb, le-ltb}}
use Rattle.key_lists.proofs.Every.{every_weaker, filter_none}
use Rattle.tick_model.specs.declared.plan.SortBy.{SortBy}
use Rattle.sort_op.{specs.declared.entry.Entry.Entry, specs.Entries.{comes_before, count_before, is_same, place_of, IsWhole, Rises}, proofs.Comparing.{before_trans, behind, other_before, other_behind}}

-- the first of the entries, if there is one, is another
abbrev pub FirstIsOther : Entry → List Entry → Type 0
FirstIsOther entry [] = Unit {0}
FirstIsOther entry (y ∷ ys) = is_same y entry ≡ false

module _ (by : List SortBy) (entry : Entry) where
  -- the entries that stand before it
  pub count_is : (xs ys : List Entry) → AllByRecursion (λ x. comes_before by x entry ≡ true) xs → AllByRecursion (λ y. comes_before by y entry ≡ false) ys → count_before by entry (xs ++ ys) ≡ length xs
  count_is [] ys h k = ap length (filter_none (λ y. comes_before by y entry) ys k)
  count_is (x ∷ xs) ys h k =
      ap (λ b. length (cond b (x ∷ filter (λ y. comes_before by y entry) (xs ++ ys)) (filter (λ y. comes_before by y entry) (xs ++ ys)))) h.0
      ∙ ap suc (count_is xs ys h.1 k)

  -- where the first of the others is not the entry, none is, and it stands before them
  pub others_behind : (ys : List Entry) → Rises by ys → AllByRecursion (IsWhole by) ys → IsWhole by entry → AllByRecursion (λ y. comes_before by y entry ≡ false) ys → FirstIsOther entry ys → AllByRecursion (λ y. comes_before by entry y ≡ true) ys
  others_behind [] r whole own past first = tt
  others_behind (y ∷ ys) r whole own past first =
      let above = behind by y entry whole.0 own past.0 first in
      (above, every_weaker (λ z. comes_before by y z ≡ true) (λ z. comes_before by entry z ≡ true) ys (λ z h. before_trans by entry y z above h) r.0)

  pub others_before : (xs : List Entry) → AllByRecursion (λ x. comes_before by x entry ≡ true) xs → AllByRecursion (λ x. is_same x entry ≡ false) xs
  others_before xs h = every_weaker (λ x. comes_before by x entry ≡ true) (λ x. is_same x entry ≡ false) xs (λ x less. other_before by x entry less) h

  pub others_past : (ys : List Entry) → AllByRecursion (λ y. comes_before by entry y ≡ true) ys → AllByRecursion (λ y. is_same y entry ≡ false) ys
  others_past ys h = every_weaker (λ y. comes_before by entry y ≡ true) (λ y. is_same y entry ≡ false) ys (λ y more. other_behind by y entry more) h

module _ (entry : Entry) where
  abbrev same : Entry → Bool
  same other = is_same other entry

  len_here : (xs : List Entry) (x : Entry) (ys : List Entry) → AllByRecursion (λ y. same y ≡ false) xs → same x ≡ true → position_or_len same (xs ++ x ∷ ys) ≡ length xs
  len_here [] x ys h own = ap (λ b. cond (not b) (1 + position_or_len same ys) 0) own
  len_here (y ∷ xs) x ys h own = ap (λ b. cond (not b) (1 + position_or_len same (xs ++ x ∷ ys)) 0) h.0 ∙ ap (λ n. 1 + n) (len_here xs x ys h.1 own) ∙ one_more (length xs)
    where
      one_more : (n : ℕ) → 1 + n ≡ suc n
      one_more n = omega arith

  len_none : (xs : List Entry) → AllByRecursion (λ y. same y ≡ false) xs → position_or_len same xs ≡ length xs
  len_none [] h = refl
  len_none (y ∷ xs) h = ap (λ b. cond (not b) (1 + position_or_len same xs) 0) h.0 ∙ ap (λ n. 1 + n) (len_none xs h.1) ∙ one_more (length xs)
    where
      one_more : (n : ℕ) → 1 + n ≡ suc n
      one_more n = omega arith

  pub place_here : (xs : List Entry) (x : Entry) (ys : List Entry) → AllByRecursion (λ y. same y ≡ false) xs → same x ≡ true → place_of entry (xs ++ x ∷ ys) ≡ Some (length xs)
  place_here xs x ys h own =
      ap (λ n. cond (nat_lt n (length (xs ++ x ∷ ys))) (Some n) None) (len_here xs x ys h own)
      ∙ ap (λ b. cond b (Some (length xs)) None) (lt-ltb (length xs) (length (xs ++ x ∷ ys)) (omega (arith, length-append xs (x ∷ ys))))

  pub place_none : (xs : List Entry) → AllByRecursion (λ y. same y ≡ false) xs → place_of entry xs ≡ None
  place_none xs h =
      ap (λ n. cond (nat_lt n (length xs)) (Some n) None) (len_none xs h)
      ∙ ap (λ b. cond b (Some (length xs)) None) (le-ltb (length xs) (length xs) (omega arith))

  -- an entry that is not found is none of them
  len_all : (xs : List Entry) → length xs ≤ position_or_len same xs → AllByRecursion (λ y. same y ≡ false) xs
  len_all [] h = tt
  len_all (x ∷ xs) h =
      (elim (same x) as (λ b. same x ≡ b → suc (length xs) ≤ cond (not b) (1 + position_or_len same xs) 0 → AllByRecursion (λ y. same y ≡ false) (x ∷ xs)) [
        | true ↦ λ e h. absurd (omega (arith, h))
        | false ↦ λ e h. (e, len_all xs (omega (arith, h)))
      ]) refl h

  pub each_other : (xs : List Entry) → place_of entry xs ≡ None → AllByRecursion (λ y. same y ≡ false) xs
  each_other xs e =
      (elim (nat_lt (position_or_len same xs) (length xs)) as (λ b. nat_lt (position_or_len same xs) (length xs) ≡ b → cond b (Some (position_or_len same xs)) None ≡ None → AllByRecursion (λ y. same y ≡ false) xs) [
        | true ↦ λ within e. some_none (position_or_len same xs) e
        | false ↦ λ past e. len_all xs (ltb-false (position_or_len same xs) (length xs) past)
      ]) refl e
    where
      some_none : {A : Type 0} (n : ℕ) → ◌≡◌ {A = Option ℕ} (Some n) None → A
      some_none n e = absurd (cc)
