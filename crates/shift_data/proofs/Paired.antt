-- The pairs of two sets of keys.
use Rattle.std.proofs.Common.{◌≡◌, refl, ap, sym, ◌∙◌, subst, ℕ, zero, suc, ◌+◌, ◌-◌, ◌^◌, ◌<◌, ◌≤◌, arith, List, [], ◌∷◌, ◌++◌, map, leb, Some, pos, ◌-ℤ◌}
use Rattle.std.{specs.Prelude.find, specs.List.{AllByRecursion, range_with_len}, proofs.lemmas.Bool.leb-true, proofs.lemmas.Int.ints}
use Rattle.key_lists.{specs.Keys.IsRising, proofs.Ranges.each_from}
use Rattle.row_set.{specs.declared.ranges.Range.Range, specs.Ranges.{holds, ranges_of}, specs.Sets.IsKeySet}
use Rattle.tick_model.{specs.declared.update.KeyPair.KeyPair, specs.Shifts.{stretches, shifted}}
use Rattle.shift_data.{specs.ShiftLists.IsShiftList, specs.Moves.pairs_of, specs.Parts.from_on, specs.Stretches.joined, proofs.Asked.{run_of, all_within}, proofs.Keys.{Spans, cut, find_key, none_between}, proofs.Segments.key_small, proofs.ShiftOf.{IsSmall, shift_of}, proofs.Stretched.{range_by, stretched}}

-- the keys from one on begin with those of the run of the first of them
pub front_run : (keys : List ℕ) (from first count : ℕ) (run : Range) → IsKeySet keys → find (leb from) keys ≡ Some first → find (holds first) (ranges_of keys) ≡ Some run → 1 ≤ count → first + count ≤ run.last + 1 → (from_on from keys ≡ range_with_len first count ++ from_on (first + count) keys) × (first + count ≤ 2 ^ 62)
front_run keys from first count run set e held some until =
    let there = find_key (leb from) keys first e in
    let here = run_of keys first run held in
    let last : ℕ = first + (count - 1) in
    let past : last + 1 ≡ first + count = omega arith in
    let long : last + 1 - first ≡ count = omega arith in (
      cut keys from first last set.rising (leb-true from first there.1) (omega arith) (none_between from first keys set.rising e)
          ∙ ap (λ front. front ++ from_on (last + 1) keys) (all_within keys first last set.rising (λ key above below. here.2 key (omega (arith, here.0)) (omega arith)))
          ∙ ap (λ n. range_with_len first n ++ from_on (last + 1) keys) long
          ∙ ap (λ k. range_with_len first count ++ from_on k keys) past,
      omega (arith, key_small run.last keys set (here.2 run.last (omega (arith, here.0, here.1)) (omega arith)), until),
    )

-- pairs of neighbouring keys, and those behind them
pairs_run : (new_of : ℕ → ℕ) (old new n : ℕ) (olds news : List ℕ) → ((i : ℕ) → i < n → new_of (old + i) ≡ new + i) → pairs_of (range_with_len old n ++ olds) (range_with_len new n ++ news) ≡ map (λ key. let pair : KeyPair = record { old = key; new = new_of key } in pair) (range_with_len old n) ++ pairs_of olds news
pairs_run new_of old new zero olds news h = refl
pairs_run new_of old new (suc n) olds news h =
    let first : new_of old ≡ new = let here : old ≡ old + 0 = omega arith in let there : new + 0 ≡ new = omega arith in ap new_of here ∙ h 0 (omega arith) ∙ there in
    ap (λ k. let pair : KeyPair = record { old = old; new = k } in pair ∷ pairs_of (range_with_len (old + 1) n ++ olds) (range_with_len (new + 1) n ++ news)) (sym first)
    ∙ ap (λ rest. let pair : KeyPair = record { old = old; new = new_of old } in pair ∷ rest)
    (pairs_run new_of (old + 1) (new + 1) n olds news (λ i lt.
    let next : old + 1 + i ≡ old + (i + 1) = omega arith in
    let on : new + (i + 1) ≡ new + 1 + i = omega arith in
    ap new_of next ∙ h (i + 1) (omega arith) ∙ on))

run_spans : (first n : ℕ) → Spans first (first + n) (range_with_len first (suc n))
run_spans first zero = (refl, omega arith)
run_spans first (suc n) =
    let there : first + 1 + n ≡ first + suc n = omega arith in
    (refl, subst (λ last. Spans (first + 1) last (range_with_len (first + 1) (suc n))) there (run_spans (first + 1) n))

pub pairs_step : (old new count : ℕ) (olds news : List ℕ) → 1 ≤ count → stretches (pairs_of (range_with_len old count ++ olds) (range_with_len new count ++ news)) ≡ joined (range_by old (old + (count - 1)) (pos new -ℤ pos old)) (stretches (pairs_of olds news))
pairs_step old new zero olds news some = absurd (omega arith)
pairs_step old new (suc n) olds news some =
    let new_of : ℕ → ℕ = λ key. new + (key - old) in
    let last : old + n ≡ old + (suc n - 1) = omega arith in
    ap stretches (pairs_run new_of old new (suc n) olds news (λ i lt. omega arith))
    ∙ stretched (λ key. let pair : KeyPair = record { old = key; new = new_of key } in pair) (λ key. refl) (pos new -ℤ pos old) old (old + n) (range_with_len old (suc n)) (pairs_of olds news) (run_spans old n)
    (each_from (λ key. pos (new + (key - old)) -ℤ pos key ≡ pos new -ℤ pos old) old (suc n) (λ key above below. omega (arith, ints, above)))
    ∙ ap (λ k. joined (range_by old k (pos new -ℤ pos old)) (stretches (pairs_of olds news))) last

pub pairs_end : (news : List ℕ) (olds : List ℕ) → news ≡ [] → pairs_of olds news ≡ []
pairs_end news [] e = refl
pairs_end news (old ∷ olds) e = ap (pairs_of (old ∷ olds)) e

-- their ranges are those of a shift
olds_every : (P : ℕ → Type 0) (old new : List ℕ) → AllByRecursion P old → AllByRecursion P (map (λ pair. pair.old) (pairs_of old new))
olds_every P [] new h = tt
olds_every P (key ∷ old) [] h = tt
olds_every P (key ∷ old) (other ∷ new) h = (h.0, olds_every P old new h.1)

olds_rise : (old new : List ℕ) → IsRising old → IsRising (map (λ pair. pair.old) (pairs_of old new))
olds_rise [] new h = tt
olds_rise (key ∷ old) [] h = tt
olds_rise (key ∷ old) (other ∷ new) h = (olds_every (λ next. key < next) old new h.0, olds_rise old new h.1)

pairs_small : (old new : List ℕ) → AllByRecursion (λ key. key < 2 ^ 62) old → AllByRecursion (λ key. key < 2 ^ 62) new → AllByRecursion IsSmall (pairs_of old new)
pairs_small [] new h k = tt
pairs_small (key ∷ old) [] h k = tt
pairs_small (key ∷ old) (other ∷ new) h k = ((h.0, k.0), pairs_small old new h.1 k.1)

pub pairs_shift : (old new : List ℕ) → IsKeySet old → IsKeySet new → IsShiftList (shifted (pairs_of old new))
pairs_shift old new h k = shift_of (pairs_of old new) (olds_rise old new h.rising) (pairs_small old new h.small k.small)
