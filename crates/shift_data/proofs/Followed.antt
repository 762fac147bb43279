-- The ranges of a shift that are left while ranges of keys are gone over.
use Rattle.std.proofs.Common.{◌≡◌, ap, sym, ◌∙◌, subst, false, ℕ, ◌+◌, ◌^◌, ◌<◌, ◌≤◌, arith, List, [], ◌∷◌, ◌++◌, length, take, get_or, pos, ◌+ℤ◌}
use Rattle.std.{specs.List.AllByRecursion, proofs.lemmas.List.{take_more, get_or_default}}
use Rattle.key_lists.proofs.Every.{every_weaker, map_same}
use Rattle.row_set.{specs.declared.ranges.Range.Range, specs.Ranges.{AreApart, keys_in}, proofs.Counts.blank, proofs.Held.each_between, proofs.Middles.before_head}
use Rattle.tick_model.{specs.declared.update.ShiftRange.ShiftRange, specs.Rules.{is_past, landed}, specs.Shifts.{as_key, delta_at, moved}}
use Rattle.shift_data.{specs.ShiftLists.IsShiftList, proofs.Applied.run_key, proofs.Lawful.place}

-- the ranges that are left move the keys behind the first i ranges of keys as all do
pub record AreLeft (shifts : List ShiftRange) (runs : List Range) (i : ℕ) (ranges : List ShiftRange) : Type 0 where
  pub list : IsShiftList ranges
  pub same : (key : ℕ) → AllByRecursion (λ run. run.last < key) (take i runs) → delta_at ranges key ≡ delta_at shifts key

-- the ranges of keys before one end before its keys
ended_before : (runs : List Range) (i : ℕ) (run : Range) (key : ℕ) → AreApart 0 runs → i < length runs → run ≡ get_or runs i run → run.first ≤ key → AllByRecursion (λ run. run.last < key) (take i runs)
ended_before runs i run key apart lt is above =
    let here : run ≡ get_or runs i blank = is ∙ get_or_default runs i run blank lt in
    let begins : (get_or runs i blank).first ≤ key = subst (λ (r : Range). r.first ≤ key) here above in
    every_weaker (λ other. other.last + 2 ≤ (get_or runs i blank).first) (λ other. other.last < key) (take i runs) (λ other below. omega (arith, below, begins)) (before_head i runs lt apart)

last_of : (P : Range → Type 0) (runs : List Range) (run : Range) → AllByRecursion P (runs ++ run ∷ []) → P run
last_of P [] run h = h.0
last_of P (other ∷ runs) run h = last_of P runs run h.1

module _ (shifts : List ShiftRange) (runs : List Range) (i : ℕ) (ranges further : List ShiftRange) (run : Range) (apart : AreApart 0 runs) (lt : i < length runs) (is : run ≡ get_or runs i run) (h : AreLeft shifts runs i ranges) (same : (key : ℕ) → run.first ≤ key → delta_at further key ≡ delta_at ranges key) where
  pub same_here : (key : ℕ) → run.first ≤ key → delta_at further key ≡ delta_at shifts key
  same_here key above = same key above ∙ h.same key (ended_before runs i run key apart lt is above)

  pub left_next : IsShiftList further → run.first ≤ run.last → AreLeft shifts runs (i + 1) further
  left_next list order = record {
    list = list;
    same = λ key ended.
        let past : run.last < key = last_of (λ other. other.last < key) (take i runs) run (subst (λ those. AllByRecursion (λ other. other.last < key) those) (take_more runs i run lt ∙ ap (λ r. take i runs ++ r ∷ []) (sym is)) ended) in
        same_here key (omega arith);
  }

  pub landed_here : landed further (keys_in run) ≡ landed shifts (keys_in run)
  landed_here = map_same (place further) (place shifts) (keys_in run) (each_between (λ key. place further key ≡ place shifts key) run.first run.last (λ key above below. ap (λ d. as_key (pos key +ℤ d)) (same_here key above)))

  pub inside_here : AllByRecursion (λ key. is_past (2 ^ 62) (moved shifts key) ≡ false) (keys_in run) → AllByRecursion (λ key. is_past (2 ^ 62) (moved further key) ≡ false) (keys_in run)
  inside_here inside =
      each_between (λ key. is_past (2 ^ 62) (moved further key) ≡ false) run.first run.last
      (λ key above below. ap (λ d. is_past (2 ^ 62) (pos key +ℤ d)) (same_here key above) ∙ run_key (λ key. is_past (2 ^ 62) (moved shifts key) ≡ false) run key inside above below)
