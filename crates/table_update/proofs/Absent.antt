-- The least key that is none of others, range by range.
use Rattle.std.proofs.Common.{◌≡◌, ap, sym, ◌∙◌, Bool, true, false, cond, not, is_some, ℕ, zero, suc, ◌+◌, ◌-◌, ◌<◌, ◌≤◌, arith, List, [], ◌∷◌, ◌++◌, Option, Some, None, get_or, drop, length, add-one, inl, inr}
use Rattle.std.{specs.Prelude.find, specs.List.{range_with_len, list_any}, proofs.lemmas.Bool.{cases_Bool, cases_eq, or_left, or_right, or_from, and_parts, leb-true}, proofs.lemmas.Option.{none-some, same_Some}, proofs.Math.Seq.drop-cons}
use Rattle.key_lists.{specs.Keys.is_among, proofs.Every.every_weaker}
use Rattle.row_set.{specs.declared.ranges.Range.Range, specs.Ranges.{AreApart, holds, keys_in, keys_of, ranges_of}, specs.Sets.IsKeySet, proofs.Apart.each_above, proofs.Held.{among-keys, holds_after, holds-true, none_after, each_between}, proofs.Longest.{keys_of-ranges_of, ranges_of_apart}, proofs.Places.range_at, proofs.Counts.blank, proofs.Lookups.{find-append_none, among_found}}

-- a range that holds a key, among ranges that are apart: all its keys are held, and the one past its end is not
record IsRun (low key : ℕ) (ranges : List Range) (run : Range) : Type 0 where
  above : low ≤ run.first
  begun : run.first ≤ key
  lasts : key ≤ run.last
  whole : (other : ℕ) → run.first ≤ other → other ≤ run.last → list_any (holds other) ranges ≡ true
  ends : list_any (holds (run.last + 1)) ranges ≡ false

run_found : (low key : ℕ) (ranges : List Range) (run : Range) → AreApart low ranges → find (holds key) ranges ≡ Some run → IsRun low key ranges run
run_found low key [] run apart e = absurd (none-some run e)
run_found low key (range ∷ ranges) run apart e =
    elim (cases_Bool (holds key range)) [
      | inl here ↦
          let same : range ≡ run = same_Some range run (sym (ap (λ b. cond b (Some range) (find (holds key) ranges)) here) ∙ e) in
          let inside = and_parts _ _ here in
          let begun : range.first ≤ key = leb-true range.first key inside.0 in
          let lasts : key ≤ range.last = leb-true key range.last inside.1 in
          is_run same begun lasts
      | inr elsewhere ↦
          let rest = run_found (range.last + 2) key ranges run apart.1 (sym (ap (λ b. cond b (Some range) (find (holds key) ranges)) elsewhere) ∙ e) in
          record {
            above = omega (arith, rest.above, apart.0.above, apart.0.ascends);
            begun = rest.begun;
            lasts = rest.lasts;
            whole = λ other begun lasts. or_right (holds other range) (list_any (holds other) ranges) (rest.whole other begun lasts);
            ends = or_from (holds (run.last + 1) range) (list_any (holds (run.last + 1)) ranges) (holds_after (run.last + 1) range (omega (arith, rest.above, rest.begun, rest.lasts))) rest.ends;
          }
    ]
  where
    is_run : range ≡ run → range.first ≤ key → key ≤ range.last → IsRun low key (range ∷ ranges) run
    is_run same begun lasts =
        let first : range.first ≡ run.first = ap (λ (r : Range). r.first) same in
        let last : range.last ≡ run.last = ap (λ (r : Range). r.last) same in
        record {
          above = omega (arith, apart.0.above);
          begun = omega arith;
          lasts = omega arith;
          whole = λ other begun lasts. or_left (holds other range) (list_any (holds other) ranges) (holds-true other range (omega arith) (omega arith));
          ends = or_from (holds (run.last + 1) range) (list_any (holds (run.last + 1)) ranges) (holds_after (run.last + 1) range (omega arith))
              (none_after (run.last + 1) ranges (every_weaker (λ r. range.last + 2 ≤ r.first) (λ r. run.last + 1 < r.first) ranges (λ r more. omega (arith, more)) (each_above (range.last + 2) ranges apart.1)));
        }

-- what a search for the range of a key says of the keys of a set
module _ (others : List ℕ) (set : IsKeySet others) (key : ℕ) where
  held : (other : ℕ) → list_any (holds other) (ranges_of others) ≡ is_among other others
  held other = sym (among-keys other (ranges_of others)) ∙ ap (is_among other) (keys_of-ranges_of others set)

  pub no_run : find (holds key) (ranges_of others) ≡ None → is_among key others ≡ false
  no_run e = sym (held key) ∙ sym (among-keys key (ranges_of others)) ∙ among_found key (ranges_of others) ∙ ap is_some e

  pub whole_run : (run : Range) → find (holds key) (ranges_of others) ≡ Some run → (other : ℕ) → key ≤ other → other ≤ run.last → is_among other others ≡ true
  whole_run run e other above below =
      let is = run_found 0 key (ranges_of others) run (ranges_of_apart others set) e in
      sym (held other) ∙ is.whole other (omega (arith, is.begun)) below

  pub run_ends : (run : Range) → find (holds key) (ranges_of others) ≡ Some run → (key ≤ run.last) × (is_among (run.last + 1) others ≡ false)
  run_ends run e =
      let is = run_found 0 key (ranges_of others) run (ranges_of_apart others set) e in
      (is.lasts, sym (held (run.last + 1)) ∙ is.ends)

-- the first number of a range that passes a test
find_from : (p : ℕ → Bool) (first count key : ℕ) (rest : List ℕ) → first ≤ key → key < first + count → ((other : ℕ) → first ≤ other → other < key → p other ≡ false) → p key ≡ true → find p (range_with_len first count ++ rest) ≡ Some key
find_from p first zero key rest above below before here = absurd (omega arith)
find_from p first (suc count) key rest above below before here =
    elim (cases_eq first key) [
      | inl same ↦ ap (λ b. cond b (Some first) (find p (range_with_len (first + 1) count ++ rest))) (ap p same ∙ here) ∙ ap Some same
      | inr other ↦
          ap (λ b. cond b (Some first) (find p (range_with_len (first + 1) count ++ rest))) (before first (omega arith) (omega arith))
          ∙ find_from p (first + 1) count key rest (omega arith) (omega arith) (λ more above less. before more (omega arith) less) here
    ]

pub find_within : (p : ℕ → Bool) (range : Range) (key : ℕ) (rest : List ℕ) → range.first ≤ key → key ≤ range.last → ((other : ℕ) → range.first ≤ other → other < key → p other ≡ false) → p key ≡ true → find p (keys_in range ++ rest) ≡ Some key
find_within p range key rest above below before here = find_from p range.first (range.last + 1 - range.first) key rest above (omega arith) before here

pub find_past : (p : ℕ → Bool) (range : Range) (rest : List ℕ) → ((other : ℕ) → range.first ≤ other → other ≤ range.last → p other ≡ false) → find p (keys_in range ++ rest) ≡ find p rest
find_past p range rest none = find-append_none p (keys_in range) rest (each_between (λ other. p other ≡ false) range.first range.last none)

abbrev absent : List ℕ → ℕ → Bool
absent others key = not (is_among key others)

-- one range of the keys, by the search for the range that holds its first key
module _ (keys others : List ℕ) (set : IsKeySet others) (ranges : List Range) (apart : AreApart 0 ranges) (i : ℕ) (below : i < length ranges) (so_far : find (absent others) keys ≡ find (absent others) (keys_of (drop i ranges))) (found : Option Range) (is : found ≡ find (holds (get_or ranges i blank).first) (ranges_of others)) where
  abbrev here : Range
  here = get_or ranges i blank

  abbrev rest : List ℕ
  rest = keys_of (drop (i + 1) ranges)

  parted : find (absent others) keys ≡ find (absent others) (keys_in here ++ rest)
  parted = so_far ∙ ap (λ rs. find (absent others) (keys_of rs)) (drop-cons ranges i blank below ∙ ap (λ n. here ∷ drop n ranges) (sym (add-one i)))

  ascends : here.first ≤ here.last
  ascends = (range_at 0 ranges apart i blank below).ascends

  pub none_held : found ≡ None → Some here.first ≡ find (absent others) keys
  none_held e =
      let gone = no_run others set here.first (sym is ∙ e) in
      sym (parted ∙ find_within (absent others) here here.first rest (omega arith) ascends (λ other above less. absurd (omega arith)) (ap not gone))

  pub some_held : (run : Range) → found ≡ Some run → run.last < here.last → Some (run.last + 1) ≡ find (absent others) keys
  some_held run e less =
      let ends = run_ends others set here.first run (sym is ∙ e) in
      sym (parted ∙ find_within (absent others) here (run.last + 1) rest (omega (arith, ends.0)) (omega arith) (λ other above until. ap not (whole_run others set here.first run (sym is ∙ e) other above (omega arith))) (ap not ends.1))

  pub all_held : (run : Range) → found ≡ Some run → here.last ≤ run.last → find (absent others) keys ≡ find (absent others) rest
  all_held run e more =
      parted ∙ find_past (absent others) here rest (λ other above until. ap not (whole_run others set here.first run (sym is ∙ e) other above (omega arith)))
