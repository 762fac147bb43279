-- Keys of which some are left out.
use Rattle.std.proofs.Common.{◌≡◌, refl, ap, sym, ◌∙◌, Bool, true, false, cond, not, ◌&&◌, ℕ, ◌+◌, ◌-◌, ◌^◌, ◌<◌, ◌≤◌, arith, List, [], ◌∷◌, leb, Some, None, inl, inr}
use Rattle.std.{specs.Prelude.{find, filter}, specs.List.AllByRecursion, proofs.lemmas.Bool.{cases_lt, and_left, and_right, and_parts, le-leb, lt-leb, not_from_true, not_from_false, not-true, true≢false, and_from}, proofs.lemmas.Option.{none-some, same_Some}}
use Rattle.key_lists.{specs.Keys.{is_among, IsRising, without}, proofs.Every.{every_weaker, every-filter}, proofs.Among.{among-filter, each_among}, proofs.Rising.rising_some}
use Rattle.row_set.{specs.declared.ranges.Range.Range, specs.Ranges.{holds, ranges_of}, specs.Sets.IsKeySet}
use Rattle.shift_data.{specs.Parts.IsLastUpTo, proofs.Asked.{run_of, no_run}, proofs.Keys.none_between, proofs.Segments.key_small}

pub kept_set : (left_out keys : List ℕ) → IsKeySet keys → IsKeySet (without left_out keys)
kept_set left_out keys set = record {
  rising = rising_some (λ key. not (is_among key left_out)) keys set.rising;
  small = every-filter (λ key. key < 2 ^ 62) (λ key. not (is_among key left_out)) keys set.small;
}

-- a key that is left out is none of the others, and one that is not is
pub among_kept : (left_out keys : List ℕ) (key : ℕ) → is_among key (without left_out keys) ≡ (not (is_among key left_out) && is_among key keys)
among_kept left_out keys key = among-filter (λ key. not (is_among key left_out)) key keys

out_not_kept : (left_out keys : List ℕ) (key : ℕ) → is_among key left_out ≡ true → is_among key (without left_out keys) ≡ false
out_not_kept left_out keys key h = among_kept left_out keys key ∙ and_left (not (is_among key left_out)) (is_among key keys) (not_from_true (is_among key left_out) h)

absent_not_kept : (left_out keys : List ℕ) (key : ℕ) → is_among key keys ≡ false → is_among key (without left_out keys) ≡ false
absent_not_kept left_out keys key h = among_kept left_out keys key ∙ and_right (not (is_among key left_out)) (is_among key keys) h

-- the first key from one on, where none is before it
find_later : (from later : ℕ) (xs : List ℕ) → from ≤ later → AllByRecursion (λ x. from ≤ x → x < later → ⊥) xs → find (leb from) xs ≡ find (leb later) xs
find_later from later [] le h = refl
find_later from later (x ∷ xs) le h =
    elim (cases_lt x from) [
      | inl before ↦ ap (λ b. cond b (Some x) (find (leb from) xs)) (lt-leb from x before) ∙ find_later from later xs le h.1 ∙ sym (ap (λ b. cond b (Some x) (find (leb later) xs)) (lt-leb later x (omega arith)))
      | inr above ↦
          elim (cases_lt x later) [
            | inl inside ↦ absurd (h.0 above inside)
            | inr past ↦ ap (λ b. cond b (Some x) (find (leb from) xs)) (le-leb from x above) ∙ sym (ap (λ b. cond b (Some x) (find (leb later) xs)) (le-leb later x past))
          ]
    ]

-- a run that is left out is passed
pub run_passed : (left_out keys : List ℕ) (from key : ℕ) (run : Range) → IsRising keys → find (leb from) keys ≡ Some key → from ≤ key → find (holds key) (ranges_of left_out) ≡ Some run → find (leb from) (without left_out keys) ≡ find (leb (run.last + 1)) (without left_out keys)
run_passed left_out keys from key run rising e above held =
    let run_is = run_of left_out key run held in
    find_later from (run.last + 1) (without left_out keys) (omega (arith, run_is.1))
    (every_weaker (λ other. is_among other (without left_out keys) ≡ true) (λ other. from ≤ other → other < run.last + 1 → ⊥) (without left_out keys)
    (λ other among le lt. elim (cases_lt other key) [
      | inl before ↦ true≢false (sym among ∙ absent_not_kept left_out keys other (none_between from key keys rising e other le before))
      | inr past ↦ true≢false (sym among ∙ out_not_kept left_out keys other (run_is.2 other (omega (arith, run_is.0)) (omega arith)))
    ])
    (each_among (without left_out keys)))

-- the first key that is not left out is the first of the others
find_filter : (p : ℕ → Bool) (from key : ℕ) (xs : List ℕ) → find (leb from) xs ≡ Some key → p key ≡ true → find (leb from) (filter p xs) ≡ Some key
find_filter p from key [] e h = absurd (none-some key e)
find_filter p from key (x ∷ xs) e h =
    elim (cases_lt x from) [
      | inl before ↦ skipped before (p x) ∙ find_filter p from key xs (sym (ap (λ b. cond b (Some x) (find (leb from) xs)) (lt-leb from x before)) ∙ e) h
      | inr above ↦
          let same : Some x ≡ Some key = sym (ap (λ b. cond b (Some x) (find (leb from) xs)) (le-leb from x above)) ∙ e in
          taken above same (p x) refl
    ]
  where
    skipped : x < from → (b : Bool) → find (leb from) (cond b (x ∷ filter p xs) (filter p xs)) ≡ find (leb from) (filter p xs)
    skipped before true = ap (λ b. cond b (Some x) (find (leb from) (filter p xs))) (lt-leb from x before)
    skipped before false = refl

    taken : from ≤ x → Some x ≡ Some key → (b : Bool) → p x ≡ b → find (leb from) (cond b (x ∷ filter p xs) (filter p xs)) ≡ Some key
    taken above same true t = ap (λ b. cond b (Some x) (find (leb from) (filter p xs))) (le-leb from x above) ∙ same
    taken above same false t = absurd (true≢false (sym h ∙ ap p (sym (same_Some x key same)) ∙ t))

pub first_kept : (left_out keys : List ℕ) (from key : ℕ) → find (leb from) keys ≡ Some key → find (holds key) (ranges_of left_out) ≡ None → find (leb from) (without left_out keys) ≡ Some key
first_kept left_out keys from key e held = find_filter (λ key. not (is_among key left_out)) from key keys e (not_from_false (is_among key left_out) (no_run left_out key held))

pub none_kept : (left_out keys : List ℕ) (from : ℕ) → find (leb from) keys ≡ None → find (leb from) (without left_out keys) ≡ None
none_kept left_out [] from e = refl
none_kept left_out (x ∷ xs) from e =
    (elim (leb from x) as (λ b. leb from x ≡ b → find (leb from) (without left_out (x ∷ xs)) ≡ None) [
      | true ↦ λ t. absurd (none-some x (sym e ∙ ap (λ b. cond b (Some x) (find (leb from) xs)) t))
      | false ↦ λ t. skipped t (not (is_among x left_out)) ∙ none_kept left_out xs from (sym (ap (λ b. cond b (Some x) (find (leb from) xs)) t) ∙ e)
    ]) refl
  where
    skipped : leb from x ≡ false → (b : Bool) → find (leb from) (cond b (x ∷ without left_out xs) (without left_out xs)) ≡ find (leb from) (without left_out xs)
    skipped t true = ap (λ b. cond b (Some x) (find (leb from) (without left_out xs))) t
    skipped t false = refl

-- from the greatest key down
pub record IsBound (left_out keys : List ℕ) (whole high : ℕ) : Type 0 where
  pub below : high ≤ whole
  pub all : (key : ℕ) → is_among key (without left_out keys) ≡ true → key ≤ whole → key ≤ high

pub kept_is_key : (left_out keys : List ℕ) (key : ℕ) → is_among key (without left_out keys) ≡ true → (is_among key left_out ≡ false) × (is_among key keys ≡ true)
kept_is_key left_out keys key h =
    let parts = and_parts (not (is_among key left_out)) (is_among key keys) (sym (among_kept left_out keys key) ∙ h) in
    (not-true (is_among key left_out) parts.0, parts.1)

pub bound_passed : (left_out keys : List ℕ) (whole high key next : ℕ) (run : Range) → IsBound left_out keys whole high → IsLastUpTo keys high key → find (holds key) (ranges_of left_out) ≡ Some run → 1 ≤ run.first → next ≡ run.first - 1 → IsBound left_out keys whole next
bound_passed left_out keys whole high key next run h last held some is =
    let run_is = run_of left_out key run held in
    record {
      below = omega (arith, h.below, last.below, run_is.0);
      all = λ other among le.
          let parts = kept_is_key left_out keys other among in
          let until = last.greatest other parts.1 (h.all other among le) in
          elim (cases_lt other run.first) [
            | inl before ↦ omega arith
            | inr inside ↦ absurd (true≢false (sym (run_is.2 other inside (omega (arith, until, run_is.1))) ∙ parts.0))
          ];
    }

pub last_found : (left_out keys : List ℕ) (whole high key : ℕ) → IsBound left_out keys whole high → IsLastUpTo keys high key → find (holds key) (ranges_of left_out) ≡ None → IsLastUpTo (without left_out keys) whole key
last_found left_out keys whole high key h last held = record {
  below = omega (arith, last.below, h.below);
  key = among_kept left_out keys key ∙ and_from (not (is_among key left_out)) (is_among key keys) (not_from_false (is_among key left_out) (no_run left_out key held)) last.key;
  greatest = λ other among le. last.greatest other (kept_is_key left_out keys other among).1 (h.all other among le);
}

-- the end of a run is a key
pub run_small : (keys : List ℕ) (key : ℕ) (run : Range) → IsKeySet keys → find (holds key) (ranges_of keys) ≡ Some run → (key ≤ run.last) × (run.last < 2 ^ 62)
run_small keys key run set held = let is = run_of keys key run held in (is.1, key_small run.last keys set (is.2 run.last (omega (arith, is.0, is.1)) (omega arith)))

-- a run of keys of which none is left out
pub run_kept : (left_out keys : List ℕ) (key : ℕ) → is_among key keys ≡ true → is_among key left_out ≡ false → is_among key (without left_out keys) ≡ true
run_kept left_out keys key here kept = among_kept left_out keys key ∙ and_from (not (is_among key left_out)) (is_among key keys) (not_from_false (is_among key left_out) kept) here
