-- Ranges of which the keys from one to another move.
use Rattle.std.proofs.Common.{◌≡◌, refl, ap, ap₂, sym, ◌∙◌, subst, cond, ℕ, zero, suc, ◌+◌, ◌-◌, ◌*◌, ◌<◌, ◌≤◌, arith, List, [], ◌∷◌, ◌++◌, length, map, take, drop, slice_range, leb, le-leb, length-append, take-append-drop, ℤ, pos, ◌+ℤ◌}
use Rattle.std.{specs.List.AllByRecursion, proofs.lemmas.Bool.and_from, proofs.lemmas.Int.ints, proofs.lemmas.List.{length-map, map-append}}
use Rattle.key_lists.{proofs.Every.{every_both, every_weaker, every-append, map_own}, proofs.Among.of_among, proofs.Parts.{every_back, every_front, every-take, every-drop}}
use Rattle.row_set.{specs.declared.ranges.Range.Range, specs.Ranges.{keys_before, keys_in, keys_of, AreApart, AreRanges, IsPart, IsRangeFrom}, specs.Runs.AreCounted, specs.Moves.{moved_key, moved_keys, IsKey, Shifts, shift}, proofs.Apart.{apart-append, apart_weaker, each_above, each_range}, proofs.Counts.keys_before_all, proofs.Held.{among-in, each_key, holds-true, keys_of-append, length-keys_in}, proofs.Lying.lying_spliced, proofs.Middles.three_parts, proofs.Shifted.{after, before, length-slice, moved_together, placed, pos-as_key, shifted_apart}, proofs.Starts.part_of}
use Rattle.tick_model.specs.Shifts.{as_key}

abbrev move : ℕ → ℕ → ℤ → ℕ → ℕ
move first last delta key = as_key (moved_key first last delta key)

own_before : (first last : ℕ) (delta : ℤ) (ranges : List Range) → AllByRecursion (λ range. range.last < first) ranges → moved_keys first last delta (keys_of ranges) ≡ keys_of ranges
own_before first last delta ranges h =
    map_own (move first last delta) (keys_of ranges)
    (each_key (λ key. move first last delta key ≡ key) ranges (every_weaker (λ range. range.last < first) (λ range. (key : ℕ) → range.first ≤ key → key ≤ range.last → move first last delta key ≡ key) ranges (λ range lt key above below. before first last key delta (omega (arith, lt, below))) h))

own_after : (first last : ℕ) (delta : ℤ) (ranges : List Range) → AllByRecursion (λ range. last + 1 ≤ range.first) ranges → moved_keys first last delta (keys_of ranges) ≡ keys_of ranges
own_after first last delta ranges h =
    map_own (move first last delta) (keys_of ranges)
    (each_key (λ key. move first last delta key ≡ key) ranges (every_weaker (λ range. last + 1 ≤ range.first) (λ range. (key : ℕ) → range.first ≤ key → key ≤ range.last → move first last delta key ≡ key) ranges (λ range le key above below. after first last key delta (omega (arith, le, above))) h))

-- as many keys come before each of ranges of the same sizes
same_counts : (xs ys : List Range) → map (λ range. length (keys_in range)) xs ≡ map (λ range. length (keys_in range)) ys → (index : ℕ) → keys_before index xs ≡ keys_before index ys
same_counts xs ys e zero = refl
same_counts [] [] e (suc index) = refl
same_counts [] (y ∷ ys) e (suc index) = cc
same_counts (x ∷ xs) [] e (suc index) = cc
same_counts (x ∷ xs) (y ∷ ys) e (suc index) =
    let here : length (keys_in x) ≡ length (keys_in y) = cc in
    let rest : map (λ range. length (keys_in range)) xs ≡ map (λ range. length (keys_in range)) ys = cc in
    omega (arith, here, same_counts xs ys rest index, length-append (keys_in x) (keys_of (take index xs)), length-append (keys_in y) (keys_of (take index ys)))

same_sizes : (delta : ℤ) (ranges : List Range) → AllByRecursion (IsRangeFrom 0) ranges → AllByRecursion (Shifts delta) ranges → map (λ range. length (keys_in range)) (map (shift delta) ranges) ≡ map (λ range. length (keys_in range)) ranges
same_sizes delta [] h k = refl
same_sizes delta (range ∷ ranges) h k =
    let order = h.0.ascends in
    let first_is : pos (shift delta range).first ≡ pos range.first +ℤ delta = pos-as_key (pos range.first +ℤ delta) k.0.first_key.whole in
    let last_is : pos (shift delta range).last ≡ pos range.last +ℤ delta = pos-as_key (pos range.last +ℤ delta) k.0.last_key.whole in
    let size : (shift delta range).last + 1 - (shift delta range).first ≡ range.last + 1 - range.first = omega (arith, ints, first_is, last_is, order) in
    ap₂ (λ n ns. n ∷ ns) (length-keys_in (shift delta range) ∙ size ∙ sym (length-keys_in range)) (same_sizes delta ranges h.1 k.1)

-- some of the ranges are moved
abbrev pub with_moved : ℤ → ℕ → ℕ → List Range → List Range
with_moved delta from to ranges = take from ranges ++ (map (shift delta) (slice_range ranges from to) ++ drop to ranges)

counts_stay : (delta : ℤ) (from to : ℕ) (ranges : List Range) → from ≤ to → AllByRecursion (IsRangeFrom 0) (slice_range ranges from to) → AllByRecursion (Shifts delta) (slice_range ranges from to) → (index : ℕ) → keys_before index (with_moved delta from to ranges) ≡ keys_before index ranges
counts_stay delta from to ranges order h k =
    let sizes : List Range → List ℕ = map (λ range. length (keys_in range)) in
    let middle = slice_range ranges from to in
    same_counts (with_moved delta from to ranges) ranges
    (map-append (λ (range : Range). length (keys_in range)) (take from ranges) (map (shift delta) middle ++ drop to ranges)
    ∙ ap (λ those. sizes (take from ranges) ++ those) (map-append (λ (range : Range). length (keys_in range)) (map (shift delta) middle) (drop to ranges) ∙ ap (λ those. those ++ sizes (drop to ranges)) (same_sizes delta middle h k) ∙ sym (map-append (λ (range : Range). length (keys_in range)) middle (drop to ranges)))
    ∙ sym (map-append (λ (range : Range). length (keys_in range)) (take from ranges) (middle ++ drop to ranges))
    ∙ ap sizes (three_parts from to ranges order))

length-with_moved : (delta : ℤ) (from to : ℕ) (ranges : List Range) → from ≤ to → length (with_moved delta from to ranges) ≡ length ranges
length-with_moved delta from to ranges order =
    let middle = slice_range ranges from to in
    omega (
      arith,
      length-append (take from ranges) (map (shift delta) middle ++ drop to ranges),
      length-append (map (shift delta) middle) (drop to ranges),
      length-map middle (shift delta),
      length-append (take from ranges) (middle ++ drop to ranges),
      length-append middle (drop to ranges),
      ap length (three_parts from to ranges order),
    )

pub moved_ranges : (delta : ℤ) (from to : ℕ) (ranges : List Range) → from ≤ to → AreRanges ranges → AreApart 0 (slice_range ranges from to) → AllByRecursion (Shifts delta) (slice_range ranges from to) → AreRanges (with_moved delta from to ranges)
moved_ranges delta from to ranges order h apart k =
    let middle = slice_range ranges from to in
    let new = with_moved delta from to ranges in
    let n = length ranges in
    record {
      each = every-append (IsRangeFrom 0) (take from ranges) (map (shift delta) middle ++ drop to ranges)
          (every-take (IsRangeFrom 0) from ranges h.each)
          (every-append (IsRangeFrom 0) (map (shift delta) middle) (drop to ranges) (each_range 0 (map (shift delta) middle) (shifted_apart delta middle apart k)) (every-drop (IsRangeFrom 0) to ranges h.each));
      few = omega (arith, h.few, counts_stay delta from to ranges order (each_range 0 middle apart) k n, keys_before_all n new (omega (arith, length-with_moved delta from to ranges order)), keys_before_all n ranges (omega arith));
    }

-- the same as they lie
pub lying_moved : (delta : ℤ) (front from to : ℕ) (all new : List Range) → front + from ≤ length all → new ≡ with_moved delta (front + from) (front + to) all → drop front new ≡ with_moved delta from to (drop front all)
lying_moved delta front from to all new within is =
    ap (drop front) is
    ∙ ap (λ middle. drop front (take (front + from) all ++ (map (shift delta) middle ++ drop (front + to) all))) (part_of front from to all)
    ∙ lying_spliced front from to all (map (shift delta) (slice_range (drop front all) from to)) within

pub moved_counted : (delta : ℤ) (front from to : ℕ) (all new : List Range) (starts : List ℕ) → AreCounted front all starts → from ≤ to → front + to ≤ length all → AreApart 0 (slice_range (drop front all) from to) → AllByRecursion (Shifts delta) (slice_range (drop front all) from to) → new ≡ with_moved delta (front + from) (front + to) all → AreCounted front new starts
moved_counted delta front from to all new starts h order within apart k is =
    let long : length new ≡ length all = ap length is ∙ length-with_moved delta (front + from) (front + to) all (omega (arith, order)) in
    record {
      free = omega (arith, h.free, long);
      counts = record {
        counted = λ block few.
            h.counts.counted block few
            ∙ sym (counts_stay delta from to (drop front all) order (each_range 0 (slice_range (drop front all) from to) apart) k (16 * block - front))
            ∙ ap (keys_before (16 * block - front)) (sym (lying_moved delta front from to all new (omega (arith, order, within)) is));
        within = omega (arith, h.counts.within, long);
      };
      full = omega (arith, h.full, long);
    }

-- ranges that are parted before the first key that moves and behind the last one
pub record IsCut (first last from to : ℕ) (ranges : List Range) : Type 0 where
  pub order : from ≤ to
  pub within : to ≤ length ranges
  pub ends : AllByRecursion (λ range. range.last < first) (take from ranges)
  pub front : AreApart 0 (take from ranges)
  pub high : AllByRecursion (λ range. range.last < last + 1) (slice_range ranges from to)
  pub middle : AreApart first (slice_range ranges from to)
  pub back : AreApart (last + 1) (drop to ranges)

pub parted_twice : (first last from to : ℕ) (ranges once twice : List Range) → AreApart 0 ranges → IsPart 0 first ranges once from → IsPart from (last + 1) once twice to → IsCut first last from to twice
parted_twice first last from to ranges once twice h one two =
    let all : from - 0 ≡ from = omega arith in
    let fore : take (from - 0) once ≡ take from twice = ap (λ n. take n once) all ∙ sym two.front in
    record {
      order = two.order;
      within = two.within;
      ends = subst (λ those. AllByRecursion (λ range. range.last < first) those) fore one.ends;
      front = subst (λ those. AreApart 0 those) fore (one.apart 0 h);
      high = two.ends;
      middle = two.apart first one.begins;
      back = two.begins;
    }

ranges_have : (P : ℕ → Type 0) (ranges : List Range) → AllByRecursion P (keys_of ranges) → AllByRecursion (λ range. (key : ℕ) → range.first ≤ key → key ≤ range.last → P key) ranges
ranges_have P [] h = tt
ranges_have P (range ∷ ranges) h =
    (λ key above below. of_among P key (keys_in range) (every_front P (keys_in range) (keys_of ranges) h) (among-in key range ∙ holds-true key range above below), ranges_have P ranges (every_back P (keys_in range) (keys_of ranges) h))

inside_number : (first last key : ℕ) (delta : ℤ) → first ≤ key → key ≤ last → moved_key first last delta key ≡ pos key +ℤ delta
inside_number first last key delta above below = ap (λ b. cond b (pos key +ℤ delta) (pos key)) (and_from (leb first key) (leb key last) (le-leb first key above) (le-leb key last below))

-- those between move to keys
pub cut_shifts : (delta : ℤ) (first last from to : ℕ) (ranges : List Range) → IsCut first last from to ranges → AllByRecursion (λ key. IsKey (moved_key first last delta key)) (keys_of ranges) → AllByRecursion (Shifts delta) (slice_range ranges from to)
cut_shifts delta first last from to ranges h keys =
    let middle = slice_range ranges from to in
    each middle
    (every-take (λ range. (key : ℕ) → range.first ≤ key → key ≤ range.last → IsKey (moved_key first last delta key)) (to - from) (drop from ranges)
    (every-drop (λ range. (key : ℕ) → range.first ≤ key → key ≤ range.last → IsKey (moved_key first last delta key)) from ranges (ranges_have (λ key. IsKey (moved_key first last delta key)) ranges keys)))
    (each_range first middle h.middle) h.high
  where
    each : (those : List Range) → AllByRecursion (λ range. (key : ℕ) → range.first ≤ key → key ≤ range.last → IsKey (moved_key first last delta key)) those → AllByRecursion (IsRangeFrom first) those → AllByRecursion (λ range. range.last < last + 1) those → AllByRecursion (Shifts delta) those
    each [] a b c = tt
    each (range ∷ those) a b c =
        let low = b.0.above in
        let order = b.0.ascends in
        let high = c.0 in (
          record {
            first_key = subst IsKey (inside_number first last range.first delta low (omega (arith, order, high))) (a.0 range.first (omega arith) order);
            last_key = subst IsKey (inside_number first last range.last delta (omega (arith, low, order)) (omega (arith, high))) (a.0 range.last order (omega arith));
          },
          each those a.1 b.1 c.1,
        )

pub cut_moved : (delta : ℤ) (first last from to : ℕ) (ranges : List Range) → IsCut first last from to ranges → AllByRecursion (Shifts delta) (slice_range ranges from to) → keys_of (with_moved delta from to ranges) ≡ moved_keys first last delta (keys_of ranges)
cut_moved delta first last from to ranges h k =
    let m = move first last delta in
    let front = take from ranges in
    let middle = slice_range ranges from to in
    let back = drop to ranges in
    let inside : AllByRecursion (λ range. (key : ℕ) → range.first ≤ key → key ≤ range.last → (first ≤ key) × (key ≤ last)) middle =
    every_both (λ range. first ≤ range.first) (λ range. range.last < last + 1) (λ range. (key : ℕ) → range.first ≤ key → key ≤ range.last → (first ≤ key) × (key ≤ last)) middle (λ range low high key above below. (omega (arith, low, above), omega (arith, high, below))) (each_above first middle h.middle) h.high in
    sym (
    ap (λ those. map m (keys_of those)) (sym (three_parts from to ranges h.order))
    ∙ ap (map m) (keys_of-append front (middle ++ back) ∙ ap (λ those. keys_of front ++ those) (keys_of-append middle back))
    ∙ map-append m (keys_of front) (keys_of middle ++ keys_of back)
    ∙ ap₂ ◌++◌ (own_before first last delta front h.ends)
    (map-append m (keys_of middle) (keys_of back)
    ∙ ap₂ ◌++◌ (moved_together delta first last middle inside (each_range 0 middle (apart_weaker 0 first middle (omega arith) h.middle)) k) (own_after first last delta back (each_above (last + 1) back h.back))
    ∙ sym (keys_of-append (map (shift delta) middle) back))
    ∙ sym (keys_of-append front (map (shift delta) middle ++ back)))

-- nothing stands between
pub cut_nothing : (delta : ℤ) (first last from to : ℕ) (ranges : List Range) → first ≤ last → IsCut first last from to ranges → to ≤ from → AreApart 0 ranges × (keys_of ranges ≡ moved_keys first last delta (keys_of ranges))
cut_nothing delta first last from to ranges le h none =
    let nothing : to - from ≡ 0 = omega arith in
    let empty : slice_range ranges from to ≡ [] = ap (λ n. take n (drop from ranges)) nothing in
    let same : to ≡ from = omega (arith, h.order, none) in
    let whole : take from ranges ++ drop to ranges ≡ ranges = ap (λ n. take from ranges ++ drop n ranges) same ∙ take-append-drop from ranges in
    let moved : with_moved delta from to ranges ≡ ranges = ap (λ those. take from ranges ++ (map (shift delta) those ++ drop to ranges)) empty ∙ whole in (
      subst (λ those. AreApart 0 those) whole
          (apart-append 0 (last + 1) (take from ranges) (drop to ranges) (omega arith) (every_weaker (λ range. range.last < first) (λ range. range.last + 2 ≤ last + 1) (take from ranges) (λ range lt. omega (arith, lt, le)) h.ends) h.front h.back),
      sym (ap keys_of moved) ∙ cut_moved delta first last from to ranges h (subst (λ those. AllByRecursion (Shifts delta) those) (sym empty) tt),
    )

-- what stands on the sides of those that have moved
pub record AreMoved (first last from to : ℕ) (delta : ℤ) (ranges new : List Range) : Type 0 where
  pub front : take from new ≡ take from ranges
  pub middle : AreApart 0 (slice_range new from to)
  pub back : AreApart 0 (drop to new)
  pub within : to ≤ length new
  pub keys : keys_of new ≡ moved_keys first last delta (keys_of ranges)

pub cut_parts : (delta : ℤ) (first last from to : ℕ) (ranges new : List Range) → IsCut first last from to ranges → AllByRecursion (Shifts delta) (slice_range ranges from to) → new ≡ with_moved delta from to ranges → AreMoved first last from to delta ranges new
cut_parts delta first last from to ranges new h k is =
    let middle = slice_range ranges from to in
    let parts = placed from to ranges (map (shift delta) middle) new h.order h.within (length-map middle (shift delta) ∙ length-slice from to ranges h.order h.within) is in
    record {
      front = parts.0;
      middle = subst (λ those. AreApart 0 those) (sym parts.1.0) (shifted_apart delta middle (apart_weaker 0 first middle (omega arith) h.middle) k);
      back = subst (λ those. AreApart 0 those) (sym parts.1.1) (apart_weaker 0 (last + 1) (drop to ranges) (omega arith) h.back);
      within = omega (arith, h.within, ap length is, length-with_moved delta from to ranges h.order);
      keys = ap keys_of is ∙ cut_moved delta first last from to ranges h k;
    }
