-- Keys that are asked for by the keys to which they move.
use Rattle.std.proofs.Common.{◌≡◌, refl, ap, sym, ◌∙◌, subst, true, false, cond, ◌&&◌, ◌==◌, ℕ, suc, ◌+◌, ◌-◌, ◌^◌, ◌<◌, ◌≤◌, arith, List, [], ◌∷◌, ◌++◌, leb, Some, None, pos, ℤ, ◌+ℤ◌, append_assoc}
use Rattle.std.{specs.Prelude.{find, filter}, specs.List.{AllByRecursion, list_any, range_with_len}, proofs.lemmas.Bool.{or_left, or_right, or_from, leb-true, and_parts, true≢false, eqb-true}, proofs.lemmas.Option.{none-some, same_Some}, proofs.lemmas.List.Elements.filter-append}
use Rattle.key_lists.{specs.Keys.{is_among, IsRising}, proofs.Every.{every_weaker, filter_same, filter_none, filter_all}, proofs.Among.{of_among, among-filter, each_among}, proofs.Rising.{rising_some, rising_same}}
use Rattle.row_set.{specs.declared.ranges.Range.Range, specs.Ranges.{keys_from, keys_of, holds, ranges_of, preceded}, specs.Sets.{IsKeySet, united}, proofs.Held.{among-keys, among-in, range_rises, holds-true}, proofs.Windows.rising_front}
use Rattle.tick_model.{specs.declared.update.ShiftRange.ShiftRange, specs.Rules.is_past, specs.Shifts.{moved, as_key, delta_at}}
use Rattle.shift_data.{specs.declared.unapply.AskedPart.AskedPart, specs.declared.parts.Segment.Segment, specs.Moves.{IsLawful, unapplied}, specs.Parts.{from_on, within, IsSegment}, specs.Wanted.IsAskedPart, proofs.Keys.{find_key, none_between, cut}, proofs.Lawful.{lawful, place}, proofs.Applied.{lands_at, united_past}}

-- the keys of the longest runs are the keys
ascends : (keys : List ℕ) → AllByRecursion (λ (run : Range). run.first ≤ run.last) (ranges_of keys)
ascends [] = tt
ascends (key ∷ keys) = go (ranges_of keys) (ascends keys)
  where
    go : (runs : List Range) → AllByRecursion (λ (run : Range). run.first ≤ run.last) runs → AllByRecursion (λ (run : Range). run.first ≤ run.last) (preceded key runs)
    go [] h = (omega arith, tt)
    go (run ∷ runs) h =
        (elim (key + 1 == run.first) as (λ b. (key + 1 == run.first) ≡ b → AllByRecursion (λ (run : Range). run.first ≤ run.last) (cond b ((record run { first = key }) ∷ runs) ((record { first = key; last = key }) ∷ run ∷ runs))) [
          | true ↦ λ e. let touches = eqb-true (key + 1) run.first e in (omega (arith, touches, h.0), h.1)
          | false ↦ λ e. (omega arith, h)
        ]) refl

pub keys_of-ranges_of : (keys : List ℕ) → keys_of (ranges_of keys) ≡ keys
keys_of-ranges_of [] = refl
keys_of-ranges_of (key ∷ keys) = go (ranges_of keys) (ascends keys) ∙ ap (λ rest. key ∷ rest) (keys_of-ranges_of keys)
  where
    alone : keys_from key key ≡ key ∷ []
    alone = let one : key + 1 - key ≡ 1 = omega arith in ap (range_with_len key) one

    longer : (first last : ℕ) → key + 1 ≡ first → first ≤ last → keys_from key last ≡ key ∷ keys_from first last
    longer first last e le =
        let more : last + 1 - key ≡ suc (last + 1 - first) = omega arith in
        ap (range_with_len key) more ∙ ap (λ k. key ∷ range_with_len k (last + 1 - first)) e

    go : (runs : List Range) → AllByRecursion (λ (run : Range). run.first ≤ run.last) runs → keys_of (preceded key runs) ≡ key ∷ keys_of runs
    go [] h = ap (λ keys. keys ++ []) alone
    go (run ∷ runs) h =
        (elim (key + 1 == run.first) as (λ b. (key + 1 == run.first) ≡ b → keys_of (cond b ((record run { first = key }) ∷ runs) ((record { first = key; last = key }) ∷ run ∷ runs)) ≡ key ∷ keys_of (run ∷ runs)) [
          | true ↦ λ e. ap (λ keys. keys ++ keys_of runs) (longer run.first run.last (eqb-true (key + 1) run.first e) h.0)
          | false ↦ λ e. ap (λ keys. keys ++ keys_of (run ∷ runs)) alone
        ]) refl

-- what a search for the run of a key says
run_held : (key : ℕ) (runs : List Range) (run : Range) → find (holds key) runs ≡ Some run → (holds key run ≡ true) × ((other : ℕ) → holds other run ≡ true → list_any (holds other) runs ≡ true)
run_held key [] run e = absurd (none-some run e)
run_held key (first ∷ runs) run e =
    (elim (holds key first) as (λ b. holds key first ≡ b → (holds key run ≡ true) × ((other : ℕ) → holds other run ≡ true → list_any (holds other) (first ∷ runs) ≡ true)) [
      | true ↦ λ t.
          let same = same_Some first run (sym (ap (λ b. cond b (Some first) (find (holds key) runs)) t) ∙ e) in
          (ap (holds key) (sym same) ∙ t, λ other h. or_left (holds other first) (list_any (holds other) runs) (ap (holds other) same ∙ h))
      | false ↦ λ t.
          let rest = run_held key runs run (sym (ap (λ b. cond b (Some first) (find (holds key) runs)) t) ∙ e) in
          (rest.0, λ other h. or_right (holds other first) (list_any (holds other) runs) (rest.1 other h))
    ]) refl

not_held : (key : ℕ) (runs : List Range) → find (holds key) runs ≡ None → list_any (holds key) runs ≡ false
not_held key [] e = refl
not_held key (first ∷ runs) e =
    (elim (holds key first) as (λ b. holds key first ≡ b → list_any (holds key) (first ∷ runs) ≡ false) [
      | true ↦ λ t. absurd (none-some first (sym e ∙ ap (λ b. cond b (Some first) (find (holds key) runs)) t))
      | false ↦ λ t. or_from (holds key first) (list_any (holds key) runs) t (not_held key runs (sym (ap (λ b. cond b (Some first) (find (holds key) runs)) t) ∙ e))
    ]) refl

pub run_of : (keys : List ℕ) (key : ℕ) (run : Range) → find (holds key) (ranges_of keys) ≡ Some run → (run.first ≤ key) × (key ≤ run.last) × ((other : ℕ) → run.first ≤ other → other ≤ run.last → is_among other keys ≡ true)
run_of keys key run e =
    let held = run_held key (ranges_of keys) run e in
    let parts = and_parts (leb run.first key) (leb key run.last) held.0 in (
      leb-true run.first key parts.0,
      leb-true key run.last parts.1,
      λ other above below. ap (is_among other) (sym (keys_of-ranges_of keys)) ∙ among-keys other (ranges_of keys) ∙ held.1 other (holds-true other run above below),
    )

pub no_run : (keys : List ℕ) (key : ℕ) → find (holds key) (ranges_of keys) ≡ None → is_among key keys ≡ false
no_run keys key e = ap (is_among key) (sym (keys_of-ranges_of keys)) ∙ among-keys key (ranges_of keys) ∙ not_held key (ranges_of keys) e

-- a key of a lawful set lands on a key
pub lands_inside : (shifts : List ShiftRange) (keys : List ℕ) (key : ℕ) (delta : ℤ) → IsLawful shifts keys → is_among key keys ≡ true → delta_at shifts key ≡ delta → is_past (2 ^ 62) (pos key +ℤ delta) ≡ false
lands_inside shifts keys key delta h among is = subst (λ d. is_past (2 ^ 62) (pos key +ℤ d) ≡ false) is (of_among (λ key. is_past (2 ^ 62) (moved shifts key) ≡ false) key keys (lawful shifts keys h).inside among)

-- the parts
module _ (shifts : List ShiftRange) (survivors after : List ℕ) (from first : ℕ) (segment : Segment) (start : ℕ) (set : IsKeySet survivors) (e : find (leb from) survivors ≡ Some first) (s : IsSegment (delta_at shifts) first segment) (at : pos first +ℤ segment.delta ≡ pos start) where
  lands : (key : ℕ) → first ≤ key → key ≤ segment.last → place shifts key ≡ start + (key - first)
  lands key above below = lands_at shifts segment.delta first key start (s.same key above below) at above

  pub part_not_asked : (ahead last : ℕ) → 0 < ahead → last < first + ahead → last ≤ segment.last → first ≤ last → ((key : ℕ) → start ≤ key → key < start + ahead → is_among key after ≡ false) → let part : AskedPart = record { first = first; last = last; asked = false } in IsAskedPart shifts survivors after from part
  part_not_asked ahead last more short until order gap = record {
    above = leb-true from first (find_key (leb from) survivors first e).1;
    order = order;
    small = omega (arith, s.small);
    none_before = none_between from first survivors set.rising e;
    whole = λ asked. absurd (true≢false (sym asked));
    same = λ key above below among. ap (λ k. is_among k after) (lands key above (omega arith)) ∙ gap (start + (key - first)) (omega arith) (omega arith);
  }

  pub part_asked : (asked : Range) (last : ℕ) → ((key : ℕ) → first ≤ key → key ≤ last → is_among key survivors ≡ true) → find (holds start) (ranges_of after) ≡ Some asked → last ≤ segment.last → last ≤ first + (asked.last - start) → first ≤ last → let part : AskedPart = record { first = first; last = last; asked = true } in IsAskedPart shifts survivors after from part
  part_asked asked last held wanted until in_asked order =
      let there = run_of after start asked wanted in
      record {
        above = leb-true from first (find_key (leb from) survivors first e).1;
        order = order;
        small = omega (arith, s.small);
        none_before = none_between from first survivors set.rising e;
        whole = λ _ key above below. held key above below;
        same = λ key above below among. ap (λ k. is_among k after) (lands key above (omega arith)) ∙ there.2 (start + (key - first)) (omega (arith, there.0)) (omega (arith, there.1));
      }

-- the keys, part by part
asked_cut : (shifts : List ShiftRange) (survivors after : List ℕ) (from : ℕ) (part : AskedPart) → IsKeySet survivors → IsAskedPart shifts survivors after from part → unapplied shifts (from_on from survivors) after ≡ filter (λ key. is_among (as_key (moved shifts key)) after) (within part.first part.last survivors) ++ unapplied shifts (from_on (part.last + 1) survivors) after
asked_cut shifts survivors after from part set h =
    ap (λ keys. unapplied shifts keys after) (cut survivors from part.first part.last set.rising h.above h.order h.none_before)
    ∙ filter-append (λ key. is_among (as_key (moved shifts key)) after) (within part.first part.last survivors) (from_on (part.last + 1) survivors)

-- each of the keys within is as the part says
each_asked : (shifts : List ShiftRange) (survivors after : List ℕ) (from : ℕ) (part : AskedPart) → IsAskedPart shifts survivors after from part → AllByRecursion (λ key. is_among (as_key (moved shifts key)) after ≡ part.asked) (within part.first part.last survivors)
each_asked shifts survivors after from part h = go survivors (each_among survivors)
  where
    go : (xs : List ℕ) → AllByRecursion (λ key. is_among key survivors ≡ true) xs → AllByRecursion (λ key. is_among (as_key (moved shifts key)) after ≡ part.asked) (within part.first part.last xs)
    go [] a = tt
    go (x ∷ xs) a =
        (elim (leb part.first x && leb x part.last) as (λ b. (leb part.first x && leb x part.last) ≡ b → AllByRecursion (λ key. is_among (as_key (moved shifts key)) after ≡ part.asked) (cond b (x ∷ within part.first part.last xs) (within part.first part.last xs))) [
          | true ↦ λ t. let parts = and_parts (leb part.first x) (leb x part.last) t in (h.same x (leb-true part.first x parts.0) (leb-true x part.last parts.1) a.0, go xs a.1)
          | false ↦ λ t. go xs a.1
        ]) refl

pub not_asked_step : (shifts : List ShiftRange) (survivors after : List ℕ) (from : ℕ) (part : AskedPart) → IsKeySet survivors → IsAskedPart shifts survivors after from part → part.asked ≡ false → unapplied shifts (from_on from survivors) after ≡ unapplied shifts (from_on (part.last + 1) survivors) after
not_asked_step shifts survivors after from part set h is_not =
    asked_cut shifts survivors after from part set h
    ∙ ap (λ keys. keys ++ unapplied shifts (from_on (part.last + 1) survivors) after)
    (filter_none (λ key. is_among (as_key (moved shifts key)) after) (within part.first part.last survivors) (every_weaker (λ key. is_among (as_key (moved shifts key)) after ≡ part.asked) (λ key. is_among (as_key (moved shifts key)) after ≡ false) (within part.first part.last survivors) (λ key is. is ∙ is_not) (each_asked shifts survivors after from part h)))

-- where all from first to last are keys
pub all_within : (keys : List ℕ) (first last : ℕ) → IsRising keys → ((key : ℕ) → first ≤ key → key ≤ last → is_among key keys ≡ true) → within first last keys ≡ keys_from first last
all_within keys first last rising whole =
    rising_same (within first last keys) (keys_from first last) (rising_some (λ key. leb first key && leb key last) keys rising) (range_rises first (last + 1 - first))
    (λ key. among-filter (λ key. leb first key && leb key last) key keys ∙ same key ∙ sym (among-in key (record { first = first; last = last })))
  where
    same : (key : ℕ) → ((leb first key && leb key last) && is_among key keys) ≡ (leb first key && leb key last)
    same key =
        (elim (leb first key && leb key last) as (λ b. (leb first key && leb key last) ≡ b → (b && is_among key keys) ≡ b) [
          | true ↦ λ t. let parts = and_parts (leb first key) (leb key last) t in whole key (leb-true first key parts.0) (leb-true key last parts.1)
          | false ↦ λ t. refl
        ]) refl

pub asked_step : (shifts : List ShiftRange) (survivors after : List ℕ) (from : ℕ) (part : AskedPart) → IsKeySet survivors → IsAskedPart shifts survivors after from part → part.asked ≡ true → unapplied shifts (from_on from survivors) after ≡ keys_from part.first part.last ++ unapplied shifts (from_on (part.last + 1) survivors) after
asked_step shifts survivors after from part set h is_so =
    asked_cut shifts survivors after from part set h
    ∙ ap (λ keys. keys ++ unapplied shifts (from_on (part.last + 1) survivors) after)
    (filter_same (λ key. is_among (as_key (moved shifts key)) after) (λ _. true) (within part.first part.last survivors) (every_weaker (λ key. is_among (as_key (moved shifts key)) after ≡ part.asked) (λ key. is_among (as_key (moved shifts key)) after ≡ true) (within part.first part.last survivors) (λ key is. is ∙ is_so) (each_asked shifts survivors after from part h))
    ∙ filter_all (within part.first part.last survivors)
    ∙ all_within survivors part.first part.last set.rising (h.whole is_so))

pub asked_more : (shifts : List ShiftRange) (survivors after keys : List ℕ) (from : ℕ) (part : AskedPart) → IsKeySet survivors → IsAskedPart shifts survivors after from part → part.asked ≡ true → keys ++ unapplied shifts (from_on from survivors) after ≡ unapplied shifts survivors after → united (keys_from part.first part.last) keys ++ unapplied shifts (from_on (part.last + 1) survivors) after ≡ unapplied shifts survivors after
asked_more shifts survivors after keys from part set h is_so is =
    let all : (keys ++ keys_from part.first part.last) ++ unapplied shifts (from_on (part.last + 1) survivors) after ≡ unapplied shifts survivors after =
    append_assoc keys (keys_from part.first part.last) (unapplied shifts (from_on (part.last + 1) survivors) after)
    ∙ ap (λ rest. keys ++ rest) (sym (asked_step shifts survivors after from part set h is_so))
    ∙ is in
    ap (λ front. front ++ unapplied shifts (from_on (part.last + 1) survivors) after)
    (united_past (keys_from part.first part.last) keys (rising_front (keys ++ keys_from part.first part.last) (unapplied shifts (from_on (part.last + 1) survivors) after) (subst IsRising (sym all) (rising_some (λ key. is_among (as_key (moved shifts key)) after) survivors set.rising))))
    ∙ all
