-- Ranges that are parted at a key.
use Rattle.std.proofs.Common.{◌≡◌, refl, ap, ap₂, sym, ◌∙◌, subst, ℕ, ◌+◌, ◌-◌, ◌<◌, ◌≤◌, arith, List, [], ◌∷◌, ◌++◌, length, take, drop, slice_range, get_or, length-append, length-drop, length-take-le, append_assoc, take_at, take-take, take-append-drop}
use Rattle.std.{specs.List.AllByRecursion, proofs.lemmas.List.{drop_at, drop-drop, drop_more, take-append-le}}
use Rattle.key_lists.{proofs.Every.every-append, proofs.Parts.{every-take, every-drop}}
use Rattle.row_set.{specs.declared.ranges.Range.Range, specs.Ranges.{keys_of, AreApart, AreRanges, IsPart, IsRangeFrom}, proofs.Apart.{apart-append, apart-drop, apart-take, apart_back, apart_front, apart_seam}, proofs.Counts.blank, proofs.Held.keys_of-append, proofs.Joined.touching_keys, proofs.Lookups.{every_at, split_at}, proofs.Lying.lying_spliced, proofs.Middles.span, proofs.Places.range_at}

-- no range stands across the key
pub unsplit : (start key count : ℕ) (ranges : List Range) → start ≤ length ranges → count ≤ length (drop start ranges) → AllByRecursion (λ range. range.last < key) (take count (drop start ranges)) → AreApart key (drop count (drop start ranges)) → IsPart start key ranges ranges (start + count)
unsplit start key count ranges within few ended begins =
    let size : count ≡ start + count - start = omega arith in record {
      order = omega arith;
      within = omega (arith, within, few, length-drop start ranges);
      front = refl;
      keys = refl;
      ends = subst (λ n. AllByRecursion (λ range. range.last < key) (take n (drop start ranges))) size ended;
      apart = λ low h. apart-take low (start + count - start) (drop start ranges) h;
      begins = subst (λ those. AreApart key those) (drop-drop count start ranges) begins;
    }

-- the range across the key is made two
pub split : (start key count : ℕ) (ranges new : List Range) → AreApart 0 (drop start ranges) → count < length (drop start ranges) → AllByRecursion (λ range. range.last < key) (take count (drop start ranges)) → (get_or (drop start ranges) count blank).first < key → key ≤ (get_or (drop start ranges) count blank).last → new ≡ take (start + count) ranges ++ ((span (get_or (drop start ranges) count blank).first (key - 1) ∷ span key (get_or (drop start ranges) count blank).last ∷ []) ++ drop (start + (count + 1)) ranges) → IsPart start key ranges new (start + count + 1)
split start key count ranges new h lt ended below above is =
    let rest = drop start ranges in
    let fore = take count rest in
    let range = get_or rest count blank in
    let left = span range.first (key - 1) in
    let right = span key range.last in
    let past = drop (count + 1) rest in
    let there : start + count < length ranges = omega (arith, lt, length-drop start ranges) in
    let whole : fore ++ (range ∷ past) ≡ rest = split_at count rest lt in
    let parts : (low : ℕ) → AreApart low rest → AreApart low (fore ++ (range ∷ past)) = λ low k. subst (λ those. AreApart low those) (sym whole) k in
    let own : AreApart 0 (range ∷ past) = apart_back 0 fore (range ∷ past) (parts 0 h) in
    let lies : drop start new ≡ (fore ++ left ∷ []) ++ (right ∷ past) =
    ap (drop start) is ∙ lying_spliced start count (count + 1) ranges (left ∷ right ∷ []) (omega (arith, there)) ∙ sym (append_assoc fore (left ∷ []) (right ∷ past)) in
    let size : length (fore ++ left ∷ []) ≡ count + 1 = length-append fore (left ∷ []) ∙ omega (arith, length-take-le count rest (omega (arith, lt))) in
    let many : start + count + 1 - start ≡ count + 1 = omega arith in
    let slice : slice_range new start (start + count + 1) ≡ fore ++ left ∷ [] =
    ap₂ take many lies ∙ take_at (fore ++ left ∷ []) (right ∷ past) (count + 1) size in
    let place : start + (count + 1) ≡ start + count + 1 = omega arith in
    let back : drop (start + count + 1) new ≡ right ∷ past =
    ap (λ n. drop n new) (sym place) ∙ sym (drop-drop (count + 1) start new) ∙ ap (drop (count + 1)) lies ∙ drop_at (fore ++ left ∷ []) (right ∷ past) (count + 1) size in
    let begin : left.first ≤ left.last = omega (arith, below) in
    let touch : left.last + 1 ≡ right.first = omega (arith, below) in
    record {
      order = omega arith;
      within = omega (arith, ap length lies, length-append (fore ++ left ∷ []) (right ∷ past), size, length-drop start new);
      front = ap (take start) is ∙ take-append-le start (take (start + count) ranges) _ (omega (arith, length-take-le (start + count) ranges (omega (arith, there)))) ∙ take-take start (start + count) ranges (omega arith);
      keys =
          ap keys_of (lies ∙ append_assoc fore (left ∷ []) (right ∷ past))
          ∙ keys_of-append fore (left ∷ right ∷ past)
          ∙ ap (λ those. keys_of fore ++ those) (touching_keys left right (keys_of past) begin above touch)
          ∙ sym (keys_of-append fore (range ∷ past))
          ∙ ap keys_of whole;
      ends = subst (λ those. AllByRecursion (λ range. range.last < key) those) (sym slice) (every-append (λ range. range.last < key) fore (left ∷ []) ended (omega (arith, below), tt));
      apart = λ low k.
          let split = parts low k in
          subst (λ those. AreApart low those) (sym slice)
          (apart-append low range.first fore (left ∷ []) (apart_back low fore (range ∷ past) split).0.above (apart_seam low fore range past split) (apart_front low fore (range ∷ past) split)
          (record { above = omega arith; ascends = begin; small = omega (arith, above, own.0.small) }, tt));
      begins = subst (λ those. AreApart key those) (sym back) (record { above = omega arith; ascends = above; small = own.0.small }, own.1);
    }

-- the keys stay
pub part_keys : (start key index : ℕ) (old new : List Range) → IsPart start key old new index → keys_of new ≡ keys_of old
part_keys start key index old new h =
    ap keys_of (sym (take-append-drop start new))
    ∙ keys_of-append (take start new) (drop start new)
    ∙ ap₂ ◌++◌ (ap keys_of h.front) h.keys
    ∙ sym (keys_of-append (take start old) (drop start old))
    ∙ ap keys_of (take-append-drop start old)

split_ranges : (index key : ℕ) (ranges : List Range) (range : Range) → AreRanges ranges → IsRangeFrom 0 range → range.first < key → key ≤ range.last → keys_of (take index ranges ++ (span range.first (key - 1) ∷ span key range.last ∷ drop (index + 1) ranges)) ≡ keys_of ranges → AreRanges (take index ranges ++ (span range.first (key - 1) ∷ span key range.last ∷ drop (index + 1) ranges))
split_ranges index key ranges range h is below above keys = record {
  each = every-append (IsRangeFrom 0) (take index ranges) (span range.first (key - 1) ∷ span key range.last ∷ drop (index + 1) ranges)
      (every-take (IsRangeFrom 0) index ranges h.each)
      (record { above = omega arith; ascends = omega (arith, below); small = omega (arith, above, is.small) }, (record { above = omega arith; ascends = above; small = is.small }, every-drop (IsRangeFrom 0) (index + 1) ranges h.each));
  few = omega (arith, h.few, ap length keys);
}

-- the same as the range is found in the ranges from start on
pub unsplit_at : (start key count : ℕ) (ranges rest : List Range) → rest ≡ drop start ranges → start ≤ length ranges → AreApart 0 (drop start ranges) → count ≤ length rest → (count ≡ length rest → ⊥) → AllByRecursion (λ range. range.last < key) (take count rest) → key ≤ (get_or rest count blank).first → IsPart start key ranges ranges (start + count)
unsplit_at start key count ranges rest is within h few some ended above =
    let back = drop start ranges in
    let lt : count < length back = omega (arith, few, some, ap length is) in
    let parts : drop count back ≡ get_or back count blank ∷ drop (count + 1) back = drop_more back count blank lt in
    let apart : AreApart 0 (get_or back count blank ∷ drop (count + 1) back) = subst (λ those. AreApart 0 those) parts (apart-drop 0 count back h) in
    let least : key ≤ (get_or back count blank).first = subst (λ those. key ≤ (get_or those count blank).first) is above in
    unsplit start key count ranges within (omega (arith, lt)) (subst (λ those. AllByRecursion (λ range. range.last < key) (take count those)) is ended)
    (subst (λ those. AreApart key those) (sym parts) (record { above = least; ascends = apart.0.ascends; small = apart.0.small }, apart.1))

pub record IsSplit (start key : ℕ) (old new : List Range) (index : ℕ) : Type 0 where
  pub part : IsPart start key old new index
  pub ranges : AreRanges new

abbrev pub two_for : ℕ → ℕ → List Range → Range → List Range
two_for index key ranges range = take index ranges ++ (span range.first (key - 1) ∷ span key range.last ∷ drop (index + 1) ranges)

pub split_at_key : (start key count : ℕ) (ranges rest new : List Range) → AreRanges ranges → rest ≡ drop start ranges → AreApart 0 (drop start ranges) → count ≤ length rest → (count ≡ length rest → ⊥) → AllByRecursion (λ range. range.last < key) (take count rest) → AllByRecursion (λ range. key ≤ range.last) (drop count rest) → (get_or rest count blank).first < key → new ≡ two_for (start + count) key ranges (get_or rest count blank) → IsSplit start key ranges new (start + count + 1)
split_at_key start key count ranges rest new h is apart few some ended others below same =
    let back = drop start ranges in
    let range = get_or back count blank in
    let lt : count < length back = omega (arith, few, some, ap length is) in
    let begins : range.first < key = subst (λ those. (get_or those count blank).first < key) is below in
    let ends : key ≤ range.last = every_at (λ range. key ≤ range.last) count back lt (subst (λ those. AllByRecursion (λ range. key ≤ range.last) (drop count those)) is others) in
    let whole : new ≡ two_for (start + count) key ranges range = same ∙ ap (λ those. two_for (start + count) key ranges (get_or those count blank)) is in
    let place : start + count + 1 ≡ start + (count + 1) = omega arith in
    let part : IsPart start key ranges new (start + count + 1) =
    split start key count ranges new apart lt (subst (λ those. AllByRecursion (λ range. range.last < key) (take count those)) is ended) begins ends (whole ∙ ap (λ n. take (start + count) ranges ++ (span range.first (key - 1) ∷ span key range.last ∷ drop n ranges)) place) in
    record {
      part = part;
      ranges = subst AreRanges (sym whole) (split_ranges (start + count) key ranges range h (range_at 0 back apart count blank lt) begins ends (ap keys_of (sym whole) ∙ part_keys start key (start + count + 1) ranges new part));
    }
