-- Where the ranges that are passed end.
use Rattle.std.proofs.Common.{◌≡◌, ap, ◌∙◌, subst, ℕ, zero, suc, ◌-◌, ◌<◌, ◌≤◌, arith, List, length, take, get_or, get_or-take, take_all, length-take-le}
use Rattle.std.specs.List.{AllByRecursion}
use Rattle.row_set.{specs.declared.ranges.Range.Range, specs.Ranges.AreApart, proofs.Apart.apart-take, proofs.Counts.blank, proofs.Places.all_ended}

-- where the last of the first ranges ends before a key, all of them do
pub ended_up_to : (key index : ℕ) (ranges : List Range) → AreApart 0 ranges → index ≤ length ranges → (0 < index → (get_or ranges (index - 1) blank).last < key) → AllByRecursion (λ range. range.last < key) (take index ranges)
ended_up_to key zero ranges h within last = tt
ended_up_to key (suc i) ranges h within last =
    let front = take (suc i) ranges in
    let size : length front ≡ suc i = length-take-le (suc i) ranges within in
    let end : length front - 1 ≡ i = omega (arith, size) in
    let there : suc i - 1 ≡ i = omega arith in
    let at : get_or front (length front - 1) blank ≡ get_or ranges i blank = ap (λ n. get_or front n blank) end ∙ get_or-take (suc i) ranges i blank (omega arith) in
    subst (AllByRecursion (λ range. range.last < key)) (take_all (length front) front (omega arith))
    (all_ended key blank front (apart-take 0 (suc i) ranges h) (omega (arith, size)) (omega (arith, ap (λ (range : Range). range.last) at, ap (λ n. (get_or ranges n blank).last) there, last (omega arith))))
