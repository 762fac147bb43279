-- Where rows move.
--     moved shifts key      the number that a key moves to
--     shifted kept      the ranges of the pairs whose keys differ
--     composed kept next      the pairs of two changes, one after the other
use Rattle.std.{specs.Prelude.{ℕ, ◌==◌, ◌&&◌, Bool, not, List, [], ◌∷◌, Option, filter, find, filter_map, ℤ, pos, negsuc, ◌+ℤ◌, ◌-ℤ◌, nat_le, if◌then◌else◌, option_map, unwrap_or}, specs.Ordering.int_eq}
use Rattle.tick_model.{specs.declared.update.KeyPair.KeyPair, specs.declared.update.ShiftRange.ShiftRange}

abbrev pub holds : ShiftRange → ℕ → Bool
holds range key = nat_le range.begin key && nat_le key range.end

-- the range that holds a key says how far its row moves
abbrev pub delta_at : List ShiftRange → ℕ → ℤ
delta_at shifts key = unwrap_or (option_map (λ range. range.delta) (find (λ range. holds range key) shifts)) (pos 0)

abbrev pub moved : List ShiftRange → ℕ → ℤ
moved shifts key = pos key +ℤ delta_at shifts key

-- the key that a number is, or 0
abbrev pub as_key : ℤ → ℕ
as_key (pos n) = n
as_key (negsuc n) = 0

-- how far the row of a pair moves
abbrev pub delta : KeyPair → ℤ
delta pair = pos pair.new -ℤ pos pair.old

-- the range of one pair
abbrev pub one : KeyPair → ShiftRange
one pair = record { begin = pair.old; end = pair.old; delta = delta pair }

-- the longest stretches of neighbouring pairs that move by one difference, each from its first old key to its last
abbrev pub extend : KeyPair → List ShiftRange → List ShiftRange
extend pair [] = one pair ∷ []
extend pair (range ∷ ranges) =
    if int_eq (delta pair) range.delta
    then (record range { begin = pair.old }) ∷ ranges
    else one pair ∷ range ∷ ranges

abbrev pub stretches : List KeyPair → List ShiftRange
stretches [] = []
stretches (pair ∷ pairs) = extend pair (stretches pairs)

-- those that move at all
abbrev pub shifted : List KeyPair → List ShiftRange
shifted kept = filter (λ range. not (int_eq range.delta (pos 0))) (stretches kept)

-- where the pairs lead from the old key through the one between
abbrev pub onward : List KeyPair → KeyPair → Option KeyPair
onward next pair = option_map (λ further. record { old = pair.old; new = further.new }) (find (λ further. further.old == pair.new) next)

abbrev pub composed : List KeyPair → List KeyPair → List KeyPair
composed kept next = filter_map (onward next) kept
