-- Keys and ranges that move by one difference.
use Rattle.std.proofs.Common.{◌≡◌, refl, ap, ap₂, sym, ◌∙◌, subst, cond, ℕ, zero, suc, ◌+◌, ◌-◌, ◌<◌, ◌≤◌, arith, List, [], ◌∷◌, ◌++◌, length, map, take, take_at, drop, slice_range, get_or, leb, le-leb, get_or-drop, get_or-take, length-drop, length-take-le, ℤ, pos, negsuc, ◌+ℤ◌, ◌≤ℤ◌}
use Rattle.std.{specs.List.{AllByRecursion, range_with_len}, proofs.lemmas.Bool.{and_from, and_left, and_right, lt-leb}, proofs.lemmas.Int.ints, proofs.lemmas.List.{drop_at, drop-drop, get_or-map, get_or_default, length-map, map-append}}
use Rattle.key_lists.proofs.Every.{all_from, map_same}
use Rattle.row_set.{specs.declared.ranges.Range.Range, specs.Ranges.{keys_in, keys_of, IsRangeFrom, AreApart}, specs.Moves.{moved_key, Shifts, shift}, proofs.Apart.apart_weaker, proofs.Counts.blank, proofs.Held.each_between, proofs.Places.range_at, proofs.Spliced.{IsSplicing, length-splicing, splicing_read}}
use Rattle.tick_model.specs.Shifts.{as_key}

pub pos-as_key : (number : ℤ) → pos 0 ≤ℤ number → pos (as_key number) ≡ number
pos-as_key (pos n) h = refl
pos-as_key (negsuc n) h = absurd (omega (arith, ints))

-- what a move does to a key
inside : (first last key : ℕ) (delta : ℤ) → first ≤ key → key ≤ last → as_key (moved_key first last delta key) ≡ as_key (pos key +ℤ delta)
inside first last key delta above below = ap (λ b. as_key (cond b (pos key +ℤ delta) (pos key))) (and_from (leb first key) (leb key last) (le-leb first key above) (le-leb key last below))

pub before : (first last key : ℕ) (delta : ℤ) → key < first → as_key (moved_key first last delta key) ≡ key
before first last key delta lt = ap (λ b. as_key (cond b (pos key +ℤ delta) (pos key))) (and_left (leb first key) (leb key last) (lt-leb first key lt))

pub after : (first last key : ℕ) (delta : ℤ) → last < key → as_key (moved_key first last delta key) ≡ key
after first last key delta lt = ap (λ b. as_key (cond b (pos key +ℤ delta) (pos key))) (and_right (leb first key) (leb key last) (lt-leb key last lt))

-- numbers in a row move together
moved_row : (delta : ℤ) (first count there : ℕ) → pos there ≡ pos first +ℤ delta → map (λ key. as_key (pos key +ℤ delta)) (range_with_len first count) ≡ range_with_len there count
moved_row delta first zero there e = refl
moved_row delta first (suc count) there e =
    let next : pos (there + 1) ≡ pos (first + 1) +ℤ delta = omega (arith, ints, e) in
    ap₂ (λ key keys. key ∷ keys) (ap as_key (sym e)) (moved_row delta (first + 1) count (there + 1) next)

shifted_keys : (delta : ℤ) (range : Range) → Shifts delta range → range.first ≤ range.last → map (λ key. as_key (pos key +ℤ delta)) (keys_in range) ≡ keys_in (shift delta range)
shifted_keys delta range h le =
    let first_is : pos (as_key (pos range.first +ℤ delta)) ≡ pos range.first +ℤ delta = pos-as_key (pos range.first +ℤ delta) h.first_key.whole in
    let last_is : pos (as_key (pos range.last +ℤ delta)) ≡ pos range.last +ℤ delta = pos-as_key (pos range.last +ℤ delta) h.last_key.whole in
    let size : range.last + 1 - range.first ≡ (shift delta range).last + 1 - (shift delta range).first = omega (arith, ints, first_is, last_is, le) in
    moved_row delta range.first (range.last + 1 - range.first) (shift delta range).first first_is ∙ ap (range_with_len (shift delta range).first) size

-- ranges that are apart stay so
shift_apart : (delta : ℤ) (low there : ℕ) (ranges : List Range) → pos there ≤ℤ (pos low +ℤ delta) → AreApart low ranges → AllByRecursion (Shifts delta) ranges → AreApart there (map (shift delta) ranges)
shift_apart delta low there [] le h k = tt
shift_apart delta low there (range ∷ ranges) le h k =
    let first_is : pos (as_key (pos range.first +ℤ delta)) ≡ pos range.first +ℤ delta = pos-as_key (pos range.first +ℤ delta) k.0.first_key.whole in
    let last_is : pos (as_key (pos range.last +ℤ delta)) ≡ pos range.last +ℤ delta = pos-as_key (pos range.last +ℤ delta) k.0.last_key.whole in
    let next : pos (as_key (pos range.last +ℤ delta) + 2) ≤ℤ (pos (range.last + 2) +ℤ delta) = omega (arith, ints, last_is) in
    let above = h.0.above in
    let ascends = h.0.ascends in
    let small = k.0.last_key.small in (
      record { above = omega (arith, ints, first_is, le, above); ascends = omega (arith, ints, first_is, last_is, ascends); small = omega (arith, ints, last_is, small) },
      shift_apart delta (range.last + 2) (as_key (pos range.last +ℤ delta) + 2) ranges next h.1 k.1,
    )

pub shifted_apart : (delta : ℤ) (ranges : List Range) → AreApart 0 ranges → AllByRecursion (Shifts delta) ranges → AreApart 0 (map (shift delta) ranges)
shifted_apart delta [] a k = tt
shifted_apart delta (range ∷ those) a k =
    let first_is : pos (as_key (pos range.first +ℤ delta)) ≡ pos range.first +ℤ delta = pos-as_key (pos range.first +ℤ delta) k.0.first_key.whole in
    let here : pos (as_key (pos range.first +ℤ delta)) ≤ℤ (pos range.first +ℤ delta) = omega (arith, ints, first_is) in
    let raised : AreApart range.first (range ∷ those) = (record { above = omega arith; ascends = a.0.ascends; small = a.0.small }, a.1) in
    apart_weaker 0 (as_key (pos range.first +ℤ delta)) (map (shift delta) (range ∷ those)) (omega arith) (shift_apart delta range.first (as_key (pos range.first +ℤ delta)) (range ∷ those) here raised k)

-- the keys that move
pub moved_together : (delta : ℤ) (first last : ℕ) (ranges : List Range) → AllByRecursion (λ range. (key : ℕ) → range.first ≤ key → key ≤ range.last → (first ≤ key) × (key ≤ last)) ranges → AllByRecursion (IsRangeFrom 0) ranges → AllByRecursion (Shifts delta) ranges → map (λ key. as_key (moved_key first last delta key)) (keys_of ranges) ≡ keys_of (map (shift delta) ranges)
moved_together delta first last [] w r k = refl
moved_together delta first last (range ∷ ranges) w r k =
    map-append (λ key. as_key (moved_key first last delta key)) (keys_in range) (keys_of ranges)
    ∙ ap₂ ◌++◌
    (map_same (λ key. as_key (moved_key first last delta key)) (λ key. as_key (pos key +ℤ delta)) (keys_in range)
    (each_between (λ key. as_key (moved_key first last delta key) ≡ as_key (pos key +ℤ delta)) range.first range.last (λ key above below. inside first last key delta (w.0 key above below).0 (w.0 key above below).1))
    ∙ shifted_keys delta range k.0 r.0.ascends)
    (moved_together delta first last ranges w.1 r.1 k.1)

-- one of the ranges that are met
pub slice_at : (from to index : ℕ) (ranges : List Range) → from ≤ index → index < to → get_or (slice_range ranges from to) (index - from) blank ≡ get_or ranges index blank
slice_at from to index ranges le lt =
    let place : from + (index - from) ≡ index = omega arith in
    get_or-take (to - from) (drop from ranges) (index - from) blank (omega arith) ∙ get_or-drop from ranges (index - from) blank ∙ ap (λ n. get_or ranges n blank) place

pub length-slice : (from to : ℕ) (ranges : List Range) → from ≤ to → to ≤ length ranges → length (slice_range ranges from to) ≡ to - from
length-slice from to ranges le within = length-take-le (to - from) (drop from ranges) (omega (arith, length-drop from ranges))

pub shifts_at : (delta : ℤ) (from to index : ℕ) (ranges : List Range) → AllByRecursion (Shifts delta) (slice_range ranges from to) → from ≤ index → index < to → to ≤ length ranges → Shifts delta (get_or ranges index blank)
shifts_at delta from to index ranges h le lt within =
    subst (λ (range : Range). Shifts delta range) (slice_at from to index ranges le lt)
    (all_from (Shifts delta) (slice_range ranges from to) h (index - from) blank (omega (arith, length-slice from to ranges (omega arith) within)))

pub shifted_at : (delta : ℤ) (from to index : ℕ) (ranges : List Range) → from ≤ index → index < to → to ≤ length ranges → get_or (map (shift delta) (slice_range ranges from to)) (index - from) blank ≡ shift delta (get_or ranges index blank)
shifted_at delta from to index ranges le lt within =
    get_or-map (shift delta) (slice_range ranges from to) (index - from) blank blank (omega (arith, length-slice from to ranges (omega arith) within))
    ∙ ap (shift delta) (slice_at from to index ranges le lt)

-- the parts of a list in which some elements have been replaced
pub placed : (from to : ℕ) (old parts new : List Range) → from ≤ to → to ≤ length old → length parts ≡ to - from → new ≡ take from old ++ (parts ++ drop to old) → (take from new ≡ take from old) × ((slice_range new from to ≡ parts) × (drop to new ≡ drop to old))
placed from to old parts new order within size is =
    let fore : length (take from old) ≡ from = length-take-le from old (omega (arith, order, within)) in
    let whole : to ≡ from + (to - from) = omega (arith, order) in
    let after : drop from new ≡ parts ++ drop to old = ap (drop from) is ∙ drop_at (take from old) (parts ++ drop to old) from fore in (
      ap (take from) is ∙ take_at (take from old) (parts ++ drop to old) from fore,
      (
        ap (take (to - from)) after ∙ take_at parts (drop to old) (to - from) size,
        ap (λ n. drop n new) whole ∙ sym (drop-drop (to - from) from new) ∙ ap (drop (to - from)) after ∙ drop_at parts (drop to old) (to - from) size,
      ),
    )

-- the range at an index to which a move of ranges, one after another, has come
pub record IsNext (delta : ℤ) (old new : List Range) (index : ℕ) (range : Range) : Type 0 where
  pub within : index < length new
  pub same : range ≡ get_or old index blank
  pub is : IsRangeFrom 0 range
  pub moves : Shifts delta range

pub next_is : (delta : ℤ) (from to index : ℕ) (old new : List Range) → from ≤ to → to ≤ length old → from ≤ index → index < to → AreApart 0 (slice_range old from to) → AllByRecursion (Shifts delta) (slice_range old from to) → IsSplicing old from to (map (shift delta) (slice_range old from to)) (index - from) index new → IsNext delta old new index (get_or new index blank)
next_is delta from to index old new order within after lt apart lands found =
    let others = map (shift delta) (slice_range old from to) in
    let begins : from ≤ length old = omega (arith, order, within) in
    let many : length others ≡ to - from = length-map (slice_range old from to) (shift delta) ∙ length-slice from to old order within in
    let size : length new ≡ length old = omega (arith, length-splicing old from to others (index - from) index new found begins (omega (arith, many, lt)), after, lt, within) in
    let same : get_or new index blank ≡ get_or old index blank =
    splicing_read old from to others (index - from) index new blank found begins (omega (arith, many, lt)) lt in
    record {
      within = omega (arith, size, lt, within);
      same = same;
      is = subst (λ (range : Range). IsRangeFrom 0 range) (slice_at from to index old after lt ∙ sym same) (range_at 0 (slice_range old from to) apart (index - from) blank (omega (arith, length-slice from to old order within, after, lt)));
      moves = subst (λ (range : Range). Shifts delta range) (sym same) (shifts_at delta from to index old lands after lt within);
    }
