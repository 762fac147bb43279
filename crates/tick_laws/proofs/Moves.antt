-- The ranges of kept pairs move each old key to its new one.
use Rattle.std.proofs.Common.{◌≡◌, refl, ap, sym, ◌∙◌, Bool, true, false, cond, not, ◌&&◌, ℕ, suc, ◌<◌, ◌≤◌, arith, List, [], ◌∷◌, pos, ◌+ℤ◌, ◌-ℤ◌, leb, Some, unwrap_or}
use Rattle.std.{specs.Prelude.{filter, find, option_map}, specs.List.AllByRecursion, specs.Ordering.int_eq, specs.Cmp.signed_Decides, proofs.lemmas.Bool.{le-leb, lt-leb, leb-true, and_right, and_left, and_from, and_parts}, proofs.lemmas.Int.ints}
use Rattle.tick_model.{specs.declared.update.ShiftRange.ShiftRange, specs.declared.update.KeyPair.KeyPair, specs.Shifts.{holds, delta_at, moved, as_key, delta, one, extend, stretches, shifted}, specs.Updates.old_keys}
use Rattle.key_lists.{specs.Keys.IsRising, proofs.Every.{every, every_weaker, every_both, every_unmapped}}

-- the ranges lie apart, from a first key on
abbrev pub IsApart : ℕ → List ShiftRange → Type 0
IsApart low [] = Unit {0}
IsApart low (range ∷ ranges) = (low ≤ range.begin) × (range.begin ≤ range.end) × IsApart (suc range.end) ranges

abbrev is_moving : ShiftRange → Bool
is_moving range = not (int_eq range.delta (pos 0))

apart_lower : (low lower : ℕ) (ranges : List ShiftRange) → lower ≤ low → IsApart low ranges → IsApart lower ranges
apart_lower low lower [] h a = tt
apart_lower low lower (range ∷ ranges) h a = (omega arith, a.1, a.2)

-- a range holds no key before it, and none after it
pub not_before : (range : ShiftRange) (key : ℕ) → key < range.begin → holds range key ≡ false
not_before range key h = and_left _ _ (lt-leb range.begin key h)

pub not_after : (range : ShiftRange) (key : ℕ) → range.end < key → holds range key ≡ false
not_after range key h = and_right _ _ (lt-leb key range.end h)

-- what a key's range says, behind a range that does not hold it
pub delta_other : (range : ShiftRange) (ranges : List ShiftRange) (key : ℕ) → holds range key ≡ false → delta_at (range ∷ ranges) key ≡ delta_at ranges key
delta_other range ranges key h = ap (λ b. unwrap_or (option_map (λ range. range.delta) (cond b (Some range) (find (λ range. holds range key) ranges))) (pos 0)) h

in_first : (range : ShiftRange) (ranges : List ShiftRange) (key : ℕ) → holds range key ≡ true → delta_at (range ∷ ranges) key ≡ range.delta
in_first range ranges key h = ap (λ b. unwrap_or (option_map (λ range. range.delta) (cond b (Some range) (find (λ range. holds range key) ranges))) (pos 0)) h

-- a key before all ranges stays
before_all : (low key : ℕ) (ranges : List ShiftRange) → IsApart low ranges → key < low → delta_at (filter is_moving ranges) key ≡ pos 0
before_all low key [] a h = refl
before_all low key (range ∷ ranges) a h =
    elim (is_moving range) as (λ b. delta_at (cond b (range ∷ filter is_moving ranges) (filter is_moving ranges)) key ≡ pos 0) [
      | true ↦ delta_other range (filter is_moving ranges) key (not_before range key (omega (arith, a.0))) ∙ before_all (suc range.end) key ranges a.2 (omega (arith, a.0, a.1))
      | false ↦ before_all (suc range.end) key ranges a.2 (omega (arith, a.0, a.1))
    ]

-- ranges that move nothing need not stand
pub delta_at-moving : (low key : ℕ) (ranges : List ShiftRange) → IsApart low ranges → delta_at (filter is_moving ranges) key ≡ delta_at ranges key
delta_at-moving low key [] a = refl
delta_at-moving low key (range ∷ ranges) a =
    (elim (holds range key) as (λ held. holds range key ≡ held → delta_at (filter is_moving (range ∷ ranges)) key ≡ delta_at (range ∷ ranges) key) [
      | true ↦ λ held. inside held ∙ sym (in_first range ranges key held)
      | false ↦ λ held. outside held ∙ delta_at-moving (suc range.end) key ranges a.2 ∙ sym (delta_other range ranges key held)
    ]) refl
  where
    inside : holds range key ≡ true → delta_at (filter is_moving (range ∷ ranges)) key ≡ range.delta
    inside held =
        (elim (int_eq range.delta (pos 0)) as (λ b. int_eq range.delta (pos 0) ≡ b → delta_at (cond (not b) (range ∷ filter is_moving ranges) (filter is_moving ranges)) key ≡ range.delta) [
          | true ↦ λ e. before_all (suc range.end) key ranges a.2 (omega (arith, leb-true key range.end (and_parts _ _ held).1)) ∙ sym ((signed_Decides range.delta (pos 0)).0 e)
          | false ↦ λ e. in_first range (filter is_moving ranges) key held
        ]) refl

    outside : holds range key ≡ false → delta_at (filter is_moving (range ∷ ranges)) key ≡ delta_at (filter is_moving ranges) key
    outside held =
        elim (is_moving range) as (λ b. delta_at (cond b (range ∷ filter is_moving ranges) (filter is_moving ranges)) key ≡ delta_at (filter is_moving ranges) key) [
          | true ↦ delta_other range (filter is_moving ranges) key held
          | false ↦ refl
        ]

-- a stretch that a pair begins or goes on
extend_apart : (pair : KeyPair) (ranges : List ShiftRange) → IsApart (suc pair.old) ranges → IsApart pair.old (extend pair ranges)
extend_apart pair [] a = (omega arith, omega arith, tt)
extend_apart pair (range ∷ ranges) a =
    elim (int_eq (delta pair) range.delta) as (λ b. IsApart pair.old (cond b ((record range { begin = pair.old }) ∷ ranges) (one pair ∷ range ∷ ranges))) [
      | true ↦ (omega arith, omega (arith, a.0, a.1), a.2)
      | false ↦ (omega arith, omega arith, a)
    ]

-- the ranges of rising pairs lie apart
pub stretches_apart : (low : ℕ) (pairs : List KeyPair) → AllByRecursion (λ key. low ≤ key) (old_keys pairs) → IsRising (old_keys pairs) → IsApart low (stretches pairs)
stretches_apart low [] above rising = tt
stretches_apart low (pair ∷ pairs) above rising =
    apart_lower pair.old low (extend pair (stretches pairs)) above.0 (extend_apart pair (stretches pairs) (stretches_apart (suc pair.old) pairs rising.0 rising.1))

-- the first range begins at this key or before it
abbrev Starts : ℕ → List ShiftRange → Type 0
Starts key [] = Unit {0}
Starts key (range ∷ ranges) = range.begin ≤ key

starts_extend : (pair : KeyPair) (ranges : List ShiftRange) (key : ℕ) → pair.old ≤ key → Starts key (extend pair ranges)
starts_extend pair [] key h = h
starts_extend pair (range ∷ ranges) key h =
    elim (int_eq (delta pair) range.delta) as (λ b. Starts key (cond b ((record range { begin = pair.old }) ∷ ranges) (one pair ∷ range ∷ ranges))) [ true ↦ h | false ↦ h ]

each_starts : (pairs : List KeyPair) → IsRising (old_keys pairs) → AllByRecursion (λ pair. Starts pair.old (stretches pairs)) pairs
each_starts [] rising = tt
each_starts (pair ∷ pairs) rising = (
  starts_extend pair (stretches pairs) pair.old (omega arith),
  every_weaker (λ (other : KeyPair). pair.old < other.old) (λ other. Starts other.old (stretches (pair ∷ pairs))) pairs
      (λ other above. starts_extend pair (stretches pairs) other.old (omega (arith, above)))
      (every_unmapped (λ key. pair.old < key) (λ (other : KeyPair). other.old) pairs rising.0),
)

holds_from : (range : ShiftRange) (key : ℕ) → range.begin ≤ key → key ≤ range.end → holds range key ≡ true
holds_from range key h k = and_from _ _ (le-leb range.begin key h) (le-leb key range.end k)

-- the range that a pair begins or goes on says how far its row moves
at_extend : (pair : KeyPair) (ranges : List ShiftRange) → IsApart (suc pair.old) ranges → delta_at (extend pair ranges) pair.old ≡ delta pair
at_extend pair [] a = in_first (one pair) [] pair.old (holds_from (one pair) pair.old (omega arith) (omega arith))
at_extend pair (range ∷ ranges) a =
    (elim (int_eq (delta pair) range.delta) as (λ b. int_eq (delta pair) range.delta ≡ b → delta_at (cond b ((record range { begin = pair.old }) ∷ ranges) (one pair ∷ range ∷ ranges)) pair.old ≡ delta pair) [
      | true ↦ λ e. in_first (record range { begin = pair.old }) ranges pair.old (holds_from (record range { begin = pair.old }) pair.old (omega arith) (omega (arith, a.0, a.1))) ∙ sym ((signed_Decides (delta pair) range.delta).0 e)
      | false ↦ λ e. in_first (one pair) (range ∷ ranges) pair.old (holds_from (one pair) pair.old (omega arith) (omega arith))
    ]) refl

-- and leaves what the others say of greater keys
past_extend : (pair : KeyPair) (ranges : List ShiftRange) (key : ℕ) → pair.old < key → Starts key ranges → delta_at (extend pair ranges) key ≡ delta_at ranges key
past_extend pair [] key h k = delta_other (one pair) [] key (not_after (one pair) key h)
past_extend pair (range ∷ ranges) key h k =
    elim (int_eq (delta pair) range.delta) as (λ b. delta_at (cond b ((record range { begin = pair.old }) ∷ ranges) (one pair ∷ range ∷ ranges)) key ≡ delta_at (range ∷ ranges) key) [
      | true ↦ ap (λ b. unwrap_or (option_map (λ (range : ShiftRange). range.delta) (cond (b && leb key range.end) (Some (record range { begin = pair.old })) (find (λ range. holds range key) ranges))) (pos 0)) (le-leb pair.old key (omega (arith, h)) ∙ sym (le-leb range.begin key k)) ∙ same_delta
      | false ↦ delta_other (one pair) (range ∷ ranges) key (not_after (one pair) key h)
    ]
  where
    same_delta : unwrap_or (option_map (λ (range : ShiftRange). range.delta) (cond (holds range key) (Some (record range { begin = pair.old })) (find (λ range. holds range key) ranges))) (pos 0) ≡ delta_at (range ∷ ranges) key
    same_delta = elim (holds range key) as (λ b. unwrap_or (option_map (λ (range : ShiftRange). range.delta) (cond b (Some (record range { begin = pair.old })) (find (λ range. holds range key) ranges))) (pos 0) ≡ unwrap_or (option_map (λ (range : ShiftRange). range.delta) (cond b (Some range) (find (λ range. holds range key) ranges))) (pos 0)) [ true ↦ refl | false ↦ refl ]

each_delta : (pairs : List KeyPair) → IsRising (old_keys pairs) → AllByRecursion (λ pair. delta_at (stretches pairs) pair.old ≡ delta pair) pairs
each_delta [] rising = tt
each_delta (pair ∷ pairs) rising =
    let above = every_unmapped (λ key. pair.old < key) (λ (other : KeyPair). other.old) pairs rising.0 in (
      at_extend pair (stretches pairs) (stretches_apart (suc pair.old) pairs rising.0 rising.1),
      every_both (λ (other : KeyPair). (pair.old < other.old) × Starts other.old (stretches pairs)) (λ other. delta_at (stretches pairs) other.old ≡ delta other) (λ other. delta_at (stretches (pair ∷ pairs)) other.old ≡ delta other) pairs
          (λ other h e. past_extend pair (stretches pairs) other.old h.0 h.1 ∙ e)
          (every_both (λ (other : KeyPair). pair.old < other.old) (λ other. Starts other.old (stretches pairs)) (λ (other : KeyPair). (pair.old < other.old) × Starts other.old (stretches pairs)) pairs (λ other h k. (h, k)) above (each_starts pairs rising.1))
          (each_delta pairs rising.1),
    )

there_and_back : (old new : ℕ) → pos old +ℤ (pos new -ℤ pos old) ≡ pos new
there_and_back old new = omega (arith, ints)

-- each old key of rising pairs moves to the new key, and not to a number below all keys
pub each_lands : (pairs : List KeyPair) → IsRising (old_keys pairs) → AllByRecursion (λ pair. moved (shifted pairs) pair.old ≡ pos pair.new) pairs
each_lands pairs rising =
    every_weaker (λ pair. delta_at (stretches pairs) pair.old ≡ delta pair) (λ pair. moved (shifted pairs) pair.old ≡ pos pair.new) pairs
    (λ pair e. ap (λ d. pos pair.old +ℤ d) (delta_at-moving 0 pair.old (stretches pairs) (stretches_apart 0 pairs (every (λ key. 0 ≤ key) (old_keys pairs) (λ key. omega arith)) rising) ∙ e) ∙ there_and_back pair.old pair.new)
    (each_delta pairs rising)

pub each_moved : (pairs : List KeyPair) → IsRising (old_keys pairs) → AllByRecursion (λ pair. as_key (moved (shifted pairs) pair.old) ≡ pair.new) pairs
each_moved pairs rising =
    every_weaker (λ pair. moved (shifted pairs) pair.old ≡ pos pair.new) (λ pair. as_key (moved (shifted pairs) pair.old) ≡ pair.new) pairs (λ pair e. ap as_key e) (each_lands pairs rising)
