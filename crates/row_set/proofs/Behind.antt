-- Keys put behind all others.
use Rattle.std.proofs.Common.{◌≡◌, refl, ap, ap₂, sym, ◌∙◌, subst, true, false, ℕ, ◌+◌, ◌-◌, ◌^◌, ◌<◌, ◌≤◌, min, max, arith, List, [], ◌∷◌, ◌++◌, length, take, drop, get_or, take_all, ltb, ltb-true}
use Rattle.std.{specs.Bool.OnTrue, specs.List.AllByRecursion, proofs.lemmas.List.{drop_all, drop_more}}
use Rattle.key_lists.{proofs.Every.every_weaker, proofs.Parts.every-take}
use Rattle.row_set.{specs.declared.ranges.Range.Range, specs.Ranges.{keys_from, keys_of, AreApart, Meets}, specs.Sets.united, proofs.Counts.blank, proofs.Middles.{alone_apart, alone_keys, before_head, joined_apart, joined_keys, span}, proofs.Places.{all_ended, range_at}}

-- all ranges end before a key, where the last one does
all_before : (key : ℕ) (ranges : List Range) → AreApart 0 ranges → 0 < length ranges → (get_or ranges (length ranges - 1) blank).last < key → AllByRecursion (λ range. range.last < key) ranges
all_before key ranges h some lt = subst (λ those. AllByRecursion (λ range. range.last < key) those) (take_all (length ranges) ranges (omega arith)) (all_ended key blank ranges h some lt)

pub ends_test : (key : ℕ) (ranges : List Range) → AreApart 0 ranges → 0 < length ranges → OnTrue (ltb (get_or ranges (length ranges - 1) blank).last key) (AllByRecursion (λ range. range.last < key) ranges)
ends_test key ranges h some =
    let end = (get_or ranges (length ranges - 1) blank).last in
    (elim (ltb end key) as (λ b. ltb end key ≡ b → OnTrue b (AllByRecursion (λ range. range.last < key) ranges)) [
      | true ↦ λ e. all_before key ranges h some (ltb-true end key e)
      | false ↦ λ e. tt
    ]) refl

-- a range of its own
pub pushed : (first last : ℕ) (ranges : List Range) → AreApart 0 ranges → AllByRecursion (λ range. range.last < first - 1) ranges → first ≤ last → last < 2 ^ 62 → AreApart 0 (ranges ++ span first last ∷ []) × (keys_of (ranges ++ span first last ∷ []) ≡ united (keys_from first last) (keys_of ranges))
pushed first last ranges h behind le small =
    let n = length ranges in
    let front : take n ranges ≡ ranges = take_all n ranges (omega arith) in
    let back : drop n ranges ≡ [] = drop_all n ranges (omega arith) in
    let none : n - n ≡ 0 = omega arith in
    let is : Meets (first - 1) (last + 1) ranges n n = record {
      order = omega arith;
      within = omega arith;
      before = subst (λ those. AllByRecursion (λ range. range.last < first - 1) those) (sym front) behind;
      lows = subst (λ k. AllByRecursion (λ range. first - 1 ≤ range.last) (take k (drop n ranges))) (sym none) tt;
      highs = subst (λ k. AllByRecursion (λ range. range.first ≤ last + 1) (take k (drop n ranges))) (sym none) tt;
      after = subst (λ those. AllByRecursion (λ range. last + 1 < range.first) those) (sym back) tt;
    } in
    let whole : ranges ++ span first last ∷ [] ≡ take n ranges ++ span first last ∷ drop n ranges = ap₂ (λ xs ys. xs ++ span first last ∷ ys) (sym front) (sym back) in (
      subst (λ those. AreApart 0 those) (sym whole) (alone_apart first last n n ranges h le small is),
      alone_keys first last n n ranges (ranges ++ span first last ∷ []) h le small is (omega arith) whole,
    )

-- the last range stretched over the keys behind it
pub stretched_last : (first last i : ℕ) (ranges new : List Range) → AreApart 0 ranges → i + 1 ≡ length ranges → (get_or ranges i blank).last + 1 ≡ first → first ≤ last → last < 2 ^ 62 → new ≡ take i ranges ++ span (get_or ranges i blank).first last ∷ drop (i + 1) ranges → AreApart 0 new × (keys_of new ≡ united (keys_from first last) (keys_of ranges))
stretched_last first last i ranges new h end touch le small same =
    let n = i + 1 in
    let lt : i < length ranges = omega (arith, end) in
    let head = get_or ranges i blank in
    let order : head.first ≤ head.last = (range_at 0 ranges h i blank lt).ascends in
    let none : drop n ranges ≡ [] = drop_all n ranges (omega (arith, end)) in
    let parts : drop i ranges ≡ head ∷ [] = drop_more ranges i blank lt ∙ ap (λ rest. head ∷ rest) none in
    let is : Meets (first - 1) (last + 1) ranges i n = record {
      order = omega arith;
      within = omega (arith, end);
      before = every_weaker (λ range. range.last + 2 ≤ head.first) (λ range. range.last < first - 1) (take i ranges) (λ range below. omega (arith, below, order, touch)) (before_head i ranges lt h);
      lows = every-take (λ range. first - 1 ≤ range.last) (n - i) (drop i ranges) (subst (λ those. AllByRecursion (λ range. first - 1 ≤ range.last) those) (sym parts) (omega (arith, touch), tt));
      highs = every-take (λ range. range.first ≤ last + 1) (n - i) (drop i ranges) (subst (λ those. AllByRecursion (λ range. range.first ≤ last + 1) those) (sym parts) (omega (arith, touch, order, le), tt));
      after = subst (λ those. AllByRecursion (λ range. last + 1 < range.first) those) (sym none) tt;
    } in
    let place : i ≡ n - 1 = omega arith in
    let low : head.first ≡ min first head.first = omega (arith, order, touch) in
    let high : last ≡ max last head.last = omega (arith, touch, le) in
    let whole : new ≡ take i ranges ++ span (min first head.first) (max last (get_or ranges (n - 1) blank).last) ∷ drop n ranges =
    same ∙ ap₂ (λ a b. take i ranges ++ span a b ∷ drop n ranges) low (high ∙ ap (λ k. max last (get_or ranges k blank).last) place) in (
      subst (λ those. AreApart 0 those) (sym whole) (joined_apart first last i n ranges h le small is (omega arith)),
      joined_keys first last i n ranges new h le small is (omega arith) whole,
    )
