-- Positions below a number, and the keys that are kept of positions.
use Rattle.std.proofs.Common.{◌≡◌, refl, ap, ◌∙◌, Bool, true, false, cond, ℕ, ◌+◌, ◌-◌, ◌<◌, arith, List, [], length, get_or, Some, Ok, Err}
use Rattle.std.{specs.Prelude.{option_map, slice_get}, specs.List.range_with_len, proofs.lemmas.Option.{slice_get-get_or, slice_get-map, slice_get_within}}
use Rattle.key_lists.{specs.Keys.{IsRising, is_among}, proofs.Rising.rising_same, proofs.Booleans.or_false}
use Rattle.row_set.{specs.Ranges.keys_from, specs.Sets.{count_below, found, united}, proofs.Held.range_rises, proofs.United.{among-united, united_rises}, proofs.Lookups.count_at}
use Rattle.sort_op.{specs.declared.entry.Entry.Entry, specs.Places.{key_at, keys_at}}

-- the positions below a number
pub all_below : (count : ℕ) (all : List ℕ) → 0 < count → all ≡ united (keys_from 0 (count - 1)) [] → all ≡ range_with_len 0 count
all_below count all some is =
    is
    ∙ ap (λ n. united (range_with_len 0 n) []) (let same : count - 1 + 1 - 0 ≡ count = omega (arith, some) in same)
    ∙ rising_same (united (range_with_len 0 count) []) (range_with_len 0 count) (united_rises (range_with_len 0 count) [] tt) (range_rises 0 count)
    (λ key. among-united key (range_with_len 0 count) [] ∙ or_false (is_among key (range_with_len 0 count)))

-- the key that is kept of a position
pub kept_key : (entries : List Entry) (positions kept : List ℕ) (n position : ℕ) → kept ≡ keys_at entries positions → slice_get positions n ≡ Some position → slice_get kept n ≡ Some (key_at entries position)
kept_key entries positions kept n position are here =
    ap (λ ks. slice_get ks n) are ∙ slice_get-map (key_at entries) positions n ∙ ap (option_map (key_at entries)) here

-- what a search for a key says
pub found_key : (key place : ℕ) (keys : List ℕ) → Ok place ≡ found key keys → (is_among key keys ≡ true) × (place ≡ count_below key keys)
found_key key place keys e = go (is_among key keys) e
  where
    go : (b : Bool) → Ok place ≡ cond b (Ok (count_below key keys)) (Err (count_below key keys)) → (b ≡ true) × (place ≡ count_below key keys)
    go true e = (refl, cc)
    go false e = absurd (cc)

-- the key at the place that a search finds
pub key_found : (entries : List Entry) (positions kept : List ℕ) (n position d : ℕ) → IsRising positions → Ok n ≡ found position positions → kept ≡ keys_at entries positions → (n < length kept) × (get_or kept n d ≡ key_at entries position)
key_found entries positions kept n position d rising is are =
    let search = found_key position n positions is in
    let here = kept_key entries positions kept n position are (ap (slice_get positions) search.1 ∙ count_at position positions rising search.0) in
    let within = slice_get_within kept n (key_at entries position) here in
    let read = slice_get-get_or kept n d within in
    let same : get_or kept n d ≡ key_at entries position = cc in
    (within, same)
