-- Ranges that are edited at a gap.
use Rattle.std.proofs.Common.{◌≡◌, ap, ap₂, sym, ◌∙◌, subst, ℕ, ◌+◌, ◌-◌, ◌^◌, ◌<◌, ◌≤◌, min, max, cond, lt-ltb, le-ltb, arith, List, [], ◌∷◌, ◌++◌, length, take, drop, slice_range, get_or, length-append, length-drop, length-take-le, append_assoc, get_or-drop, take-take, inl, inr}
use Rattle.std.{specs.List.AllByRecursion, proofs.Math.Seq.{take-append-add, drop-append-add}, proofs.lemmas.Bool.cases_lt, proofs.lemmas.List.{get_or_default, get_or-take, drop_at}}
use Rattle.key_lists.{specs.Keys.without, proofs.Every.{every_weaker, every-append}}
use Rattle.row_set.{specs.declared.ranges.Range.Range, specs.Gaps.ArePassed, specs.Ranges.{AreApart, Meets, keys_from, keys_of, left_edge, right_edge, stretched}, specs.Sets.united, proofs.Counts.blank, proofs.Edges.removed, proofs.Lookups.apart_at, proofs.Middles.{alone_apart, alone_keys, joined_apart, joined_keys, middle_first, span}, proofs.Opened.{back_of, front_of}}

stretched_first : (first last : ℕ) (ranges rest : List Range) (head : Range) → ranges ≡ head ∷ rest → stretched first last ranges ≡ span (min first head.first) (max last (get_or (head ∷ rest) (length rest) head).last)
stretched_first first last ranges rest head is = ap (stretched first last) is

-- the range over some ranges reaches from their first to their last
pub stretched_over : (first last from to : ℕ) (ranges : List Range) → from < to → to ≤ length ranges → stretched first last (slice_range ranges from to) ≡ span (min first (get_or ranges from blank).first) (max last (get_or ranges (to - 1) blank).last)
stretched_over first last from to ranges lt within =
    let head = get_or ranges from blank in
    let rest = take (to - from - 1) (drop (from + 1) ranges) in
    let parts : slice_range ranges from to ≡ head ∷ rest = middle_first from to ranges lt within in
    let size : length rest ≡ to - from - 1 = length-take-le (to - from - 1) (drop (from + 1) ranges) (omega (arith, length-drop (from + 1) ranges)) in
    let place : from + (to - from - 1) ≡ to - 1 = omega arith in
    let end : get_or (head ∷ rest) (length rest) head ≡ get_or ranges (to - 1) blank =
    ap (λ n. get_or (head ∷ rest) n head) size
    ∙ ap (λ those. get_or those (to - from - 1) head) (sym parts)
    ∙ get_or-take (to - from) (drop from ranges) (to - from - 1) head (omega arith)
    ∙ get_or-drop from ranges (to - from - 1) head
    ∙ ap (λ n. get_or ranges n head) place
    ∙ get_or_default ranges (to - 1) head blank (omega arith) in
    stretched_first first last (slice_range ranges from to) rest head parts ∙ ap (λ (range : Range). span (min first head.first) (max last range.last)) end

stretched_alone : (first last from to : ℕ) (ranges : List Range) → to ≤ from → stretched first last (slice_range ranges from to) ≡ span first last
stretched_alone first last from to ranges le =
    let none : to - from ≡ 0 = omega arith in
    ap (λ n. stretched first last (take n (drop from ranges))) none

-- the range and those that it meets are made one
pub stretched_whole : (first last from to : ℕ) (ranges new : List Range) → AreApart 0 ranges → first ≤ last → last < 2 ^ 62 → Meets (first - 1) (last + 1) ranges from to → new ≡ take from ranges ++ (stretched first last (slice_range ranges from to) ∷ drop to ranges) → AreApart 0 new × (keys_of new ≡ united (keys_from first last) (keys_of ranges))
stretched_whole first last from to ranges new h le small is same =
    elim (cases_lt from to) [
      | inl lt ↦
          let whole : new ≡ take from ranges ++ (span (min first (get_or ranges from blank).first) (max last (get_or ranges (to - 1) blank).last) ∷ drop to ranges) =
          same ∙ ap (λ range. take from ranges ++ (range ∷ drop to ranges)) (stretched_over first last from to ranges lt is.within) in
          (subst (λ those. AreApart 0 those) (sym whole) (joined_apart first last from to ranges h le small is lt), joined_keys first last from to ranges new h le small is lt whole)
      | inr none ↦
          let whole : new ≡ take from ranges ++ (span first last ∷ drop to ranges) = same ∙ ap (λ range. take from ranges ++ (range ∷ drop to ranges)) (stretched_alone first last from to ranges none) in
          (subst (λ those. AreApart 0 those) (sym whole) (alone_apart first last from to ranges h le small is), alone_keys first last from to ranges new h le small is none whole)
    ]

-- what is met after a gap
pub meets_after : (low high from to start end : ℕ) (ranges : List Range) → start ≤ end → end ≤ length ranges → AllByRecursion (λ range. range.last < low) (take start ranges) → Meets low high (drop end ranges) from to → Meets low high (take start ranges ++ drop end ranges) (start + from) (start + to)
meets_after low high from to start end ranges le within before is =
    let front = take start ranges in
    let rest = drop end ranges in
    let size : length front ≡ start = length-take-le start ranges (omega (arith, le, within)) in
    let begin : take (start + from) (front ++ rest) ≡ front ++ take from rest = ap (λ n. take (n + from) (front ++ rest)) (sym size) ∙ take-append-add front rest from in
    let back_from : drop (start + from) (front ++ rest) ≡ drop from rest = ap (λ k. drop (k + from) (front ++ rest)) (sym size) ∙ drop-append-add front rest from in
    let back_to : drop (start + to) (front ++ rest) ≡ drop to rest = ap (λ k. drop (k + to) (front ++ rest)) (sym size) ∙ drop-append-add front rest to in
    let count : start + to - (start + from) ≡ to - from = omega arith in
    let part : slice_range (front ++ rest) (start + from) (start + to) ≡ slice_range rest from to = ap (λ those. take (start + to - (start + from)) those) back_from ∙ ap (λ n. take n (drop from rest)) count in
    record {
      order = omega (arith, is.order);
      within = omega (arith, is.within, length-append front rest, size);
      before = subst (λ those. AllByRecursion (λ range. range.last < low) those) (sym begin) (every-append (λ range. range.last < low) front (take from rest) before is.before);
      lows = subst (λ those. AllByRecursion (λ range. low ≤ range.last) those) (sym part) is.lows;
      highs = subst (λ those. AllByRecursion (λ range. range.first ≤ high) those) (sym part) is.highs;
      after = subst (λ those. AllByRecursion (λ range. high < range.first) those) (sym back_to) is.after;
    }

-- what stands on both sides of a gap, in the words of the list round it
pub record AreAround (start end : ℕ) (ranges all : List Range) : Type 0 where
  pub within : start ≤ length ranges
  pub same : take start ranges ++ drop end ranges ≡ all

pub front_same : (start end : ℕ) (ranges all : List Range) → AreAround start end ranges all → take start ranges ≡ take start all
front_same start end ranges all is = sym (front_of start end ranges is.within) ∙ ap (take start) is.same

pub back_same : (start end count : ℕ) (ranges all : List Range) → AreAround start end ranges all → drop (end + count) ranges ≡ drop (start + count) all
back_same start end count ranges all is = sym (back_of start end count ranges is.within) ∙ ap (drop (start + count)) is.same

pub read_same : (start end count : ℕ) (ranges all : List Range) (d : Range) → AreAround start end ranges all → get_or ranges (end + count) d ≡ get_or all (start + count) d
read_same start end count ranges all d is =
    let one : end + count + 0 ≡ end + count = omega arith in
    let other : start + count + 0 ≡ start + count = omega arith in
    ap (λ n. get_or ranges n d) (sym one)
    ∙ sym (get_or-drop (end + count) ranges 0 d)
    ∙ ap (λ rest. get_or rest 0 d) (back_same start end count ranges all is)
    ∙ get_or-drop (start + count) all 0 d
    ∙ ap (λ n. get_or all n d) other

pub part_same : (start end from to : ℕ) (ranges all : List Range) → AreAround start end ranges all → slice_range ranges (end + from) (end + to) ≡ slice_range all (start + from) (start + to)
part_same start end from to ranges all is =
    let count : end + to - (end + from) ≡ start + to - (start + from) = omega arith in
    ap (λ those. take (end + to - (end + from)) those) (back_same start end from ranges all is) ∙ ap (λ n. take n (drop (start + from) all)) count

-- a range is put after the gap, in the place of those that it meets
pub put_in : (first last from to start end : ℕ) (moved all new : List Range) (joined : Range) → AreApart 0 all → first ≤ last → last < 2 ^ 62 → Meets (first - 1) (last + 1) all from to → AreAround start end moved all → start ≡ from → joined ≡ stretched first last (slice_range all from to) → new ≡ take start moved ++ (joined ∷ drop (end + (to - from)) moved) → AreApart 0 new × (keys_of new ≡ united (keys_from first last) (keys_of all))
put_in first last from to start end moved all new joined h le small is around here one same =
    let whole : start + (to - from) ≡ to = omega (arith, is.order) in
    stretched_whole first last from to all new h le small is
    (same
    ∙ ap₂ (λ xs ys. xs ++ (joined ∷ ys)) (front_same start end moved all around ∙ ap (λ n. take n all) here) (back_same start end (to - from) moved all around ∙ ap (λ n. drop n all) whole)
    ∙ ap (λ range. take from all ++ (range ∷ drop to all)) one)

-- the edges of the ranges that are met are put round the gap
pub put_out : (first last from to start end : ℕ) (moved all new : List Range) (head tail : Range) (left right : List Range) → AreApart 0 all → first ≤ last → last < 2 ^ 62 → Meets first last all from to → (from ≡ to → ⊥) → AreAround start end moved all → start ≡ from → head ≡ get_or moved end head → tail ≡ get_or moved (end + (to - from) - 1) tail → left ≡ left_edge first head → right ≡ right_edge last tail → new ≡ (take start moved ++ left) ++ (right ++ drop (end + (to - from)) moved) → AreApart 0 new × (keys_of new ≡ without (keys_from first last) (keys_of all))
put_out first last from to start end moved all new head tail left right h le small is some around here at_head at_tail left_is right_is same =
    let whole : start + (to - from) ≡ to = omega (arith, is.order) in
    let lt : from < to = omega (arith, is.order, some) in
    let at_end : end + 0 ≡ end = omega arith in
    let at_from : start + 0 ≡ from = omega arith in
    let before_end : end + (to - from - 1) ≡ end + (to - from) - 1 = omega arith in
    let before_to : start + (to - from - 1) ≡ to - 1 = omega arith in
    removed first last from to all new head tail left right h le small is some
    (at_head ∙ ap (λ n. get_or moved n head) (sym at_end) ∙ read_same start end 0 moved all head around ∙ ap (λ n. get_or all n head) at_from)
    (at_tail ∙ ap (λ n. get_or moved n tail) (sym before_end) ∙ read_same start end (to - from - 1) moved all tail around ∙ ap (λ n. get_or all n tail) before_to)
    (sym left_is)
    (sym right_is)
    (same
    ∙ append_assoc (take start moved) left (right ++ drop (end + (to - from)) moved)
    ∙ ap (λ rest. take start moved ++ rest) (sym (append_assoc left right (drop (end + (to - from)) moved)))
    ∙ ap₂ (λ xs ys. xs ++ ((left ++ right) ++ ys)) (front_same start end moved all around ∙ ap (λ n. take n all) here) (back_same start end (to - from) moved all around ∙ ap (λ n. drop n all) whole))

-- what stands behind a gap, of what stands around it
pub rest_of : (start end : ℕ) (placed front rest : List Range) → start ≤ length placed → take start placed ≡ front → take start placed ++ drop end placed ≡ front ++ rest → drop end placed ≡ rest
rest_of start end placed front rest within here whole =
    sym (drop_at (take start placed) (drop end placed) start (length-take-le start placed within)) ∙ ap (drop start) whole ∙ drop_at front rest start (ap length (sym here) ∙ length-take-le start placed within)

-- the edge that is left ends before the keys that go
pub left_ends_before : (first : ℕ) (range : Range) → AllByRecursion (λ edge. edge.last < first) (left_edge first range)
left_ends_before first range =
    elim (cases_lt range.first first) [
      | inl lt ↦ subst (λ b. AllByRecursion (λ edge. edge.last < first) (cond b (span range.first (first - 1) ∷ []) [])) (sym (lt-ltb range.first first lt)) (omega arith, tt)
      | inr le ↦ subst (λ b. AllByRecursion (λ edge. edge.last < first) (cond b (span range.first (first - 1) ∷ []) [])) (sym (le-ltb range.first first le)) tt
    ]

pub ended_before : (first : ℕ) (ranges : List Range) → AllByRecursion (λ range. range.last < first - 1) ranges → AllByRecursion (λ range. range.last + 2 ≤ first) ranges
ended_before first ranges h = every_weaker (λ range. range.last < first - 1) (λ range. range.last + 2 ≤ first) ranges (λ range ends. omega (arith, ends)) h

pub ends_before : (first : ℕ) (ranges : List Range) → AllByRecursion (λ range. range.last + 2 ≤ first) ranges → AllByRecursion (λ range. range.last < first - 1) ranges
ends_before first ranges h = every_weaker (λ range. range.last + 2 ≤ first) (λ range. range.last < first - 1) ranges (λ range ends. omega (arith, ends)) h

pub ends_below : (first : ℕ) (ranges : List Range) → AllByRecursion (λ range. range.last + 2 ≤ first) ranges → AllByRecursion (λ range. range.last < first) ranges
ends_below first ranges h = every_weaker (λ range. range.last + 2 ≤ first) (λ range. range.last < first) ranges (λ range ends. omega (arith, ends)) h

-- the ranges that end before one of the others are passed at the next
pub passed_rest : (first last : ℕ) (front rest : List Range) → first ≤ last → AreApart (last + 2) rest → AllByRecursion (λ range. range.last < first) front → ArePassed front rest
passed_rest first last front [] le h below = tt
passed_rest first last front (other ∷ rest) le h below = every_weaker (λ range. range.last < first) (λ range. range.last + 2 ≤ other.first) front (λ range ends. omega (arith, ends, le, h.0.above)) below

pub passed_next : (i : ℕ) (front others : List Range) → AreApart 0 others → i < length others → AllByRecursion (λ range. range.last < (get_or others i blank).first) front → ArePassed front (drop (i + 1) others)
passed_next i front others h lt below =
    let parts : AreApart 0 (get_or others i blank ∷ drop (i + 1) others) = apart_at i others lt h in
    passed_rest (get_or others i blank).first (get_or others i blank).last front (drop (i + 1) others) parts.0.ascends parts.1 below

-- what stands before a gap stays when it stays before a later one
pub same_front : (start place : ℕ) (new moved old : List Range) → start ≤ place → take place new ≡ take place moved → take start moved ≡ take start old → take start new ≡ take start old
same_front start place new moved old le here there =
    sym (take-take start place new le) ∙ ap (take start) here ∙ take-take start place moved le ∙ there
