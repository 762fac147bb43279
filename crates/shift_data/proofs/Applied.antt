-- Runs of neighbouring keys, and where they move.
use Rattle.std.proofs.Common.{◌≡◌, refl, ap, sym, ◌∙◌, subst, false, cond, ◌==◌, ℕ, zero, suc, ◌+◌, ◌-◌, ◌^◌, ◌<◌, ◌≤◌, arith, List, [], ◌∷◌, ◌++◌, map, length, take, drop, get_or, pos, ℤ, ◌+ℤ◌, append_assoc, w64, SFits, to_z, of_z}
use Rattle.std.{specs.List.{AllByRecursion, range_with_len}, proofs.lemmas.Bool.{lt-ltb, le-ltb, ne_eqb}, proofs.lemmas.Int.{ints, to_z-of_z}, proofs.lemmas.List.{map-append, take_more, append-nil}, proofs.lemmas.Grind.flat_map-append}
use Rattle.key_lists.{specs.Keys.IsRising, proofs.Every.all_from, proofs.Among.of_among, proofs.Parts.{every_front, every_back}, proofs.Ranges.range-append}
use Rattle.row_set.{specs.declared.ranges.Range.Range, specs.Ranges.{keys_from, keys_in, keys_of, AreApart, IsRangeFrom}, specs.Sets.{united, with_key}, proofs.Apart.each_range, proofs.Held.{among-in, holds-true}, proofs.Windows.{rising_front, rising_left_out}}
use Rattle.tick_model.{specs.declared.update.ShiftRange.ShiftRange, specs.Rules.{is_past, landed}, specs.Shifts.{moved, as_key, delta_at}}
use Rattle.shift_data.{specs.Moves.IsLawful, proofs.Lawful.{lawful, not_past, place}}

key_past : (old : List ℕ) (key : ℕ) (keys : List ℕ) → IsRising (old ++ key ∷ keys) → with_key key (old ++ keys) ≡ old ++ key ∷ keys
key_past [] key [] h = refl
key_past [] key (next ∷ keys) h = ap (λ t. cond t (key ∷ next ∷ keys) (cond (key == next) (next ∷ keys) (next ∷ with_key key keys))) (lt-ltb key next h.0.0)
key_past (other ∷ old) key keys h =
    let less : other < key = (every_back (λ z. other < z) old (key ∷ keys) h.0).0 in
    ap (λ t. cond t (key ∷ other ∷ (old ++ keys)) (cond (key == other) (other ∷ (old ++ keys)) (other ∷ with_key key (old ++ keys)))) (le-ltb key other (omega arith))
    ∙ ap (λ t. cond t (other ∷ (old ++ keys)) (other ∷ with_key key (old ++ keys))) (ne_eqb key other (λ e. omega arith))
    ∙ ap (λ rest. other ∷ rest) (key_past old key keys h.1)

pub united_past : (keys old : List ℕ) → IsRising (old ++ keys) → united keys old ≡ old ++ keys
united_past [] old h = sym (append-nil old)
united_past (key ∷ keys) old h = ap (with_key key) (united_past keys old (rising_left_out old key keys h)) ∙ key_past old key keys h

-- neighbouring keys, cut in two
pub keys_cut : (first middle last : ℕ) → first ≤ middle + 1 → middle ≤ last → keys_from first last ≡ keys_from first middle ++ keys_from (middle + 1) last
keys_cut first middle last order below =
    let whole : last + 1 - first ≡ (middle + 1 - first) + (last + 1 - (middle + 1)) = omega arith in
    let there : first + (middle + 1 - first) ≡ middle + 1 = omega arith in
    ap (range_with_len first) whole
    ∙ range-append first (middle + 1 - first) (last + 1 - (middle + 1))
    ∙ ap (λ k. range_with_len first (middle + 1 - first) ++ range_with_len k (last + 1 - (middle + 1))) there

-- neighbouring keys that move by one delta land on neighbouring keys
map_with_len : (f : ℕ → ℕ) (first start n : ℕ) → ((i : ℕ) → i < n → f (first + i) ≡ start + i) → map f (range_with_len first n) ≡ range_with_len start n
map_with_len f first start zero h = refl
map_with_len f first start (suc n) h =
    let here : first ≡ first + 0 = omega arith in
    let there : start + 0 ≡ start = omega arith in
    ap (λ k. k ∷ map f (range_with_len (first + 1) n)) (ap f here ∙ h 0 (omega arith) ∙ there)
    ∙ ap (λ rest. start ∷ rest) (map_with_len f (first + 1) (start + 1) n (λ i lt.
    let next : first + 1 + i ≡ first + (i + 1) = omega arith in
    let on : start + (i + 1) ≡ start + 1 + i = omega arith in
    ap f next ∙ h (i + 1) (omega arith) ∙ on))

pub lands_at : (shifts : List ShiftRange) (delta : ℤ) (first key start : ℕ) → delta_at shifts key ≡ delta → pos first +ℤ delta ≡ pos start → first ≤ key → place shifts key ≡ start + (key - first)
lands_at shifts delta first key start is at le =
    let there : pos key +ℤ delta ≡ pos (start + (key - first)) = omega (arith, ints, at) in
    ap (λ d. as_key (pos key +ℤ d)) is ∙ ap as_key there

pub run_lands : (shifts : List ShiftRange) (delta : ℤ) (first last start end : ℕ) → first ≤ last → ((key : ℕ) → first ≤ key → key ≤ last → delta_at shifts key ≡ delta) → pos first +ℤ delta ≡ pos start → pos last +ℤ delta ≡ pos end → landed shifts (keys_from first last) ≡ keys_from start end
run_lands shifts delta first last start end order same at until =
    let long : last + 1 - first ≡ end + 1 - start = omega (arith, ints, at, until) in
    map_with_len (place shifts) first start (last + 1 - first)
    (λ i lt.
    let on : start + (first + i - first) ≡ start + i = omega arith in
    lands_at shifts delta first (first + i) start (same (first + i) (omega arith) (omega arith)) at (omega arith) ∙ on)
    ∙ ap (range_with_len start) long

-- one step along a run
pub run_step : (shifts : List ShiftRange) (delta : ℤ) (from middle last start end : ℕ) (places whole : List ℕ) → from ≤ middle → middle ≤ last → ((key : ℕ) → from ≤ key → key ≤ middle → delta_at shifts key ≡ delta) → pos from +ℤ delta ≡ pos start → pos middle +ℤ delta ≡ pos end → IsRising whole → places ++ landed shifts (keys_from from last) ≡ whole → united (keys_from start end) places ++ landed shifts (keys_from (middle + 1) last) ≡ whole
run_step shifts delta from middle last start end places whole order below same at until rising is =
    let parts : landed shifts (keys_from from last) ≡ keys_from start end ++ landed shifts (keys_from (middle + 1) last) =
    ap (landed shifts) (keys_cut from middle last (omega arith) below)
    ∙ map-append (place shifts) (keys_from from middle) (keys_from (middle + 1) last)
    ∙ ap (λ keys. keys ++ landed shifts (keys_from (middle + 1) last)) (run_lands shifts delta from middle start end order same at until) in
    let all : (places ++ keys_from start end) ++ landed shifts (keys_from (middle + 1) last) ≡ whole =
    append_assoc places (keys_from start end) (landed shifts (keys_from (middle + 1) last)) ∙ ap (λ keys. places ++ keys) (sym parts) ∙ is in
    ap (λ keys. keys ++ landed shifts (keys_from (middle + 1) last)) (united_past (keys_from start end) places (rising_front (places ++ keys_from start end) (landed shifts (keys_from (middle + 1) last)) (subst IsRising (sym all) rising)))
    ∙ all

-- run by run
pub range_of_set : (ranges : List Range) (i : ℕ) (range : Range) → AreApart 0 ranges → i < length ranges → range ≡ get_or ranges i range → IsRangeFrom 0 range
range_of_set ranges i range apart lt is = subst (IsRangeFrom 0) (sym is) (all_from (IsRangeFrom 0) ranges (each_range 0 ranges apart) i range lt)

pub keys_taken : (ranges : List Range) (i : ℕ) (range : Range) → i < length ranges → range ≡ get_or ranges i range → keys_of (take (i + 1) ranges) ≡ keys_of (take i ranges) ++ keys_in range
keys_taken ranges i range lt is =
    ap keys_of (take_more ranges i range lt ∙ ap (λ r. take i ranges ++ r ∷ []) (sym is))
    ∙ flat_map-append keys_in (take i ranges) (range ∷ [])
    ∙ ap (λ keys. keys_of (take i ranges) ++ keys) (append-nil (keys_in range))

keys_split : (ranges : List Range) (n : ℕ) → keys_of ranges ≡ keys_of (take n ranges) ++ keys_of (drop n ranges)
keys_split ranges zero = refl
keys_split [] (suc n) = refl
keys_split (range ∷ ranges) (suc n) = ap (λ keys. keys_in range ++ keys) (keys_split ranges n) ∙ sym (append_assoc (keys_in range) (keys_of (take n ranges)) (keys_of (drop n ranges)))

pub taken_parts : (keys : List ℕ) (ranges : List Range) (i : ℕ) (range : Range) → keys_of ranges ≡ keys → i < length ranges → range ≡ get_or ranges i range → keys ≡ (keys_of (take i ranges) ++ keys_in range) ++ keys_of (drop (i + 1) ranges)
taken_parts keys ranges i range held lt is = sym held ∙ keys_split ranges (i + 1) ∙ ap (λ front. front ++ keys_of (drop (i + 1) ranges)) (keys_taken ranges i range lt is)

pub run_inside : (shifts : List ShiftRange) (keys : List ℕ) (ranges : List Range) (i : ℕ) (range : Range) → IsLawful shifts keys → keys_of ranges ≡ keys → i < length ranges → range ≡ get_or ranges i range → AllByRecursion (λ key. is_past (2 ^ 62) (moved shifts key) ≡ false) (keys_in range)
run_inside shifts keys ranges i range h held lt is =
    every_back (λ key. is_past (2 ^ 62) (moved shifts key) ≡ false) (keys_of (take i ranges)) (keys_in range)
    (every_front (λ key. is_past (2 ^ 62) (moved shifts key) ≡ false) (keys_of (take i ranges) ++ keys_in range) (keys_of (drop (i + 1) ranges))
    (subst (AllByRecursion (λ key. is_past (2 ^ 62) (moved shifts key) ≡ false)) (taken_parts keys ranges i range held lt is) (lawful shifts keys h).inside))

pub run_rises : (shifts : List ShiftRange) (keys : List ℕ) (ranges : List Range) (i : ℕ) (range : Range) → IsLawful shifts keys → keys_of ranges ≡ keys → i < length ranges → range ≡ get_or ranges i range → IsRising (landed shifts (keys_of (take i ranges)) ++ landed shifts (keys_in range))
run_rises shifts keys ranges i range h held lt is =
    rising_front (landed shifts (keys_of (take i ranges)) ++ landed shifts (keys_in range)) (landed shifts (keys_of (drop (i + 1) ranges)))
    (subst IsRising
    (ap (landed shifts) (taken_parts keys ranges i range held lt is)
    ∙ map-append (place shifts) (keys_of (take i ranges) ++ keys_in range) (keys_of (drop (i + 1) ranges))
    ∙ ap (λ front. front ++ landed shifts (keys_of (drop (i + 1) ranges))) (map-append (place shifts) (keys_of (take i ranges)) (keys_in range)))
    (lawful shifts keys h).rising)

pub landed_taken : (shifts : List ShiftRange) (ranges : List Range) (i : ℕ) (range : Range) → i < length ranges → range ≡ get_or ranges i range → landed shifts (keys_of (take i ranges)) ++ landed shifts (keys_in range) ≡ landed shifts (keys_of (take (i + 1) ranges))
landed_taken shifts ranges i range lt is = sym (ap (landed shifts) (keys_taken ranges i range lt is) ∙ map-append (place shifts) (keys_of (take i ranges)) (keys_in range))

-- a key of a run lands on a key
pub run_key : (P : ℕ → Type 0) (run : Range) (key : ℕ) → AllByRecursion P (keys_in run) → run.first ≤ key → key ≤ run.last → P key
run_key P run key h above below = of_among P key (keys_in run) h (among-in key run ∙ holds-true key run above below)

pub key_inside : (shifts : List ShiftRange) (run : Range) (key : ℕ) (delta : ℤ) → AllByRecursion (λ key. is_past (2 ^ 62) (moved shifts key) ≡ false) (keys_in run) → run.first ≤ key → key ≤ run.last → delta_at shifts key ≡ delta → is_past (2 ^ 62) (pos key +ℤ delta) ≡ false
key_inside shifts run key delta h above below is = subst (λ d. is_past (2 ^ 62) (pos key +ℤ d) ≡ false) is (run_key (λ key. is_past (2 ^ 62) (moved shifts key) ≡ false) run key h above below)

pub landing_is : (key : ℕ) (delta : ℤ) (place : ℕ) → SFits w64 delta → is_past (2 ^ 62) (pos key +ℤ delta) ≡ false → place ≡ as_key (pos key +ℤ to_z w64 (of_z w64 delta)) → pos key +ℤ delta ≡ pos place
landing_is key delta place fits inside is = (not_past (2 ^ 62) (pos key +ℤ delta) inside).0 ∙ ap pos (sym (is ∙ ap (λ d. as_key (pos key +ℤ d)) (to_z-of_z w64 delta fits)))
