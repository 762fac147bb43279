-- Items that are taken out side by side.
use Rattle.std.proofs.Common.{◌≡◌, ap, ap₂, sym, ◌∙◌, Bool, true, ℕ, zero, suc, ◌+◌, ◌-◌, ◌<◌, ◌≤◌, arith, List, [], ◌∷◌, ◌++◌, length, take, drop, get_or, set, append_assoc, length-append, length-drop, length-take, take_all, slice_range}
use Rattle.std.{specs.Prelude.{remove, if◌then◌else◌}, specs.List.remove_range, proofs.Math.Seq.{drop-append-add, take-add, take-append-add}, proofs.lemmas.List.{drop-drop, drop_all, get_or-drop, length-take-le, take-append-le, take_more}}
use Rattle.key_lists.proofs.Parts.{drop_among}
use Rattle.chunk_list.{specs.declared.counts.ChunkPosition.ChunkPosition, specs.Chunked.{IsPlace, joined, list_at}, proofs.Edits.joined_left, proofs.Joined.{joined_around, joined_set}}

-- some of the items between others
left_among : {X : Type 0} (xs ys zs : List X) (n m k : ℕ) → length xs + m ≡ n → m + k ≤ length ys → xs ++ (remove_range ys m (m + k) ++ zs) ≡ remove_range (xs ++ (ys ++ zs)) n (n + k)
left_among xs ys zs n m k e le =
    ap (λ rest. xs ++ rest) (append_assoc (take m ys) (drop (m + k) ys) zs)
    ∙ sym (append_assoc xs (take m ys) (drop (m + k) ys ++ zs))
    ∙ ap₂ (λ front back. front ++ back)
    (sym (ap (λ i. take i (xs ++ (ys ++ zs))) (sym e) ∙ take-append-add xs (ys ++ zs) m ∙ ap (λ rest. xs ++ rest) (take-append-le m ys zs (omega (arith, le)))))
    (sym (drop_among xs ys zs (n + k) (m + k) (omega (arith, e)) le))

run_among : {X : Type 0} (xs ys zs : List X) (n m k : ℕ) → length xs + m ≡ n → m + k ≤ length ys → slice_range (xs ++ (ys ++ zs)) n (n + k) ≡ slice_range ys m (m + k)
run_among xs ys zs n m k e le =
    let many : n + k - n ≡ m + k - m = omega arith in
    ap₂ (λ i rest. take i rest) many (drop_among xs ys zs n m e (omega (arith, le)))
    ∙ take-append-le (m + k - m) (drop m ys) zs (omega (arith, le, length-drop m ys))

pub run_out : {X : Type 0} (ls : List (List X)) (place : ChunkPosition) (n k : ℕ) → IsPlace ls n place → place.offset + k ≤ length (list_at place.index ls)
    → joined (set ls place.index (remove_range (list_at place.index ls) place.offset (place.offset + k))) ≡ remove_range (joined ls) n (n + k)
run_out ls place n k at le =
    joined_set ls place.index (remove_range (list_at place.index ls) place.offset (place.offset + k)) at.index
    ∙ left_among (joined (take place.index ls)) (list_at place.index ls) (joined (drop (suc place.index) ls)) n place.offset k at.position_is le
    ∙ ap (λ xs. remove_range xs n (n + k)) (sym (joined_around ls place.index at.index))

pub run_is : {X : Type 0} (ls : List (List X)) (place : ChunkPosition) (n k : ℕ) → IsPlace ls n place → place.offset + k ≤ length (list_at place.index ls)
    → slice_range (list_at place.index ls) place.offset (place.offset + k) ≡ slice_range (joined ls) n (n + k)
run_is ls place n k at le =
    sym
    (ap (λ xs. slice_range xs n (n + k)) (joined_around ls place.index at.index)
    ∙ run_among (joined (take place.index ls)) (list_at place.index ls) (joined (drop (suc place.index) ls)) n place.offset k at.position_is le)

-- all items of a chunk
none_left : {X : Type 0} (xs : List X) (n k : ℕ) → k ≡ length xs → n + k ≤ length xs → remove_range xs n (n + k) ≡ []
none_left xs zero k e le = drop_all (0 + k) xs (omega (arith, e))
none_left xs (suc n) k e le = absurd (omega (arith, e, le))

pub chunk_out : {X : Type 0} (ls : List (List X)) (place : ChunkPosition) (n k : ℕ) → IsPlace ls n place → k ≡ length (list_at place.index ls) → place.offset + k ≤ length (list_at place.index ls) → joined (remove ls place.index) ≡ remove_range (joined ls) n (n + k)
chunk_out ls place n k at e le =
    sym (joined_left ls place.index at.index)
    ∙ ap (λ l. joined (set ls place.index l)) (sym (none_left (list_at place.index ls) place.offset k e le))
    ∙ run_out ls place n k at le

-- how many items go, and how many are left
pub length-left : {X : Type 0} (xs : List X) (n k : ℕ) → n + k ≤ length xs → length (remove_range xs n (n + k)) + k ≡ length xs
length-left xs n k le = omega (arith, le, length-append (take n xs) (drop (n + k) xs), length-take n xs, length-drop (n + k) xs)

pub length-run : {X : Type 0} (xs : List X) (n k : ℕ) → n + k ≤ length xs → length (slice_range xs n (n + k)) ≡ k
length-run xs n k le = omega (arith, le, length-take (n + k - n) (drop n xs), length-drop n xs)

-- one, and more after some
pub one_is : {X : Type 0} (xs : List X) (n : ℕ) (d : X) → n < length xs → slice_range xs n (n + 1) ≡ get_or xs n d ∷ []
one_is xs n d lt =
    let one : n + 1 - n ≡ 0 + 1 = omega arith in
    let here : n + 0 ≡ n = omega arith in
    ap (λ i. take i (drop n xs)) one
    ∙ take_more (drop n xs) 0 d (omega (arith, lt, length-drop n xs))
    ∙ ap (λ x. x ∷ []) (get_or-drop n xs 0 d ∙ ap (λ i. get_or xs i d) here)

left_from : {X : Type 0} (xs ys : List X) (n m : ℕ) → n ≤ length xs → drop (n + m) (take n xs ++ ys) ≡ drop m ys
left_from xs ys n m le = ap (λ i. drop (i + m) (take n xs ++ ys)) (sym (length-take-le n xs le)) ∙ drop-append-add (take n xs) ys m

pub more_out : {X : Type 0} (xs : List X) (n k m : ℕ) → n + k ≤ length xs → remove_range (remove_range xs n (n + k)) n (n + m) ≡ remove_range xs n (n + (k + m))
more_out xs n k m le =
    let within : n ≤ length xs = omega (arith, le) in
    let front = length-take-le n xs within in
    let far : n + k + m ≡ n + (k + m) = omega arith in
    ap₂ (λ those rest. those ++ rest)
    (take-append-le n (take n xs) (drop (n + k) xs) (omega (arith, front)) ∙ take_all n (take n xs) (omega (arith, front)))
    (left_from xs (drop (n + k) xs) n m within ∙ drop-drop m (n + k) xs ∙ ap (λ i. drop i xs) far)

pub more_is : {X : Type 0} (xs : List X) (n k m : ℕ) → n + k ≤ length xs → slice_range xs n (n + k) ++ slice_range (remove_range xs n (n + k)) n (n + m) ≡ slice_range xs n (n + (k + m))
more_is xs n k m le =
    let here : n + 0 ≡ n = omega arith in
    let first : n + k - n ≡ k = omega arith in
    let next : n + m - n ≡ m = omega arith in
    let all : k + m ≡ n + (k + m) - n = omega arith in
    ap₂ (λ i those. take i (drop n xs) ++ those) first
    (ap₂ (λ i those. take i those) next (ap (λ i. drop i (remove_range xs n (n + k))) (sym here) ∙ left_from xs (drop (n + k) xs) n 0 (omega (arith, le)) ∙ sym (drop-drop k n xs)))
    ∙ sym (take-add k m (drop n xs))
    ∙ ap (λ i. take i (drop n xs)) all

-- the next part of a run
pub next_out : {X : Type 0} (xs left : List X) (n k m all : ℕ) → n + k ≤ length xs → k + m ≡ all → left ≡ remove_range xs n (n + k) → remove_range left n (n + m) ≡ remove_range xs n (n + all)
next_out xs left n k m all le e is = ap (λ those. remove_range those n (n + m)) is ∙ more_out xs n k m le ∙ ap (λ i. remove_range xs n (n + i)) e

pub next_is : {X : Type 0} (xs left ys out : List X) (n k m all : ℕ) → n + k ≤ length xs → k + m ≡ all → left ≡ remove_range xs n (n + k) → out ≡ ys ++ slice_range xs n (n + k) → out ++ slice_range left n (n + m) ≡ ys ++ slice_range xs n (n + all)
next_is xs left ys out n k m all le e is so =
    ap₂ (λ those rest. those ++ slice_range rest n (n + m)) so is
    ∙ append_assoc ys (slice_range xs n (n + k)) (slice_range (remove_range xs n (n + k)) n (n + m))
    ∙ ap (λ those. ys ++ those) (more_is xs n k m le)
    ∙ ap (λ i. ys ++ slice_range xs n (n + i)) e

-- a run that goes over the end of another list: all from its start on is put there, what lies behind it comes back
pub grown : {X : Type 0} (ok : Bool) (xs ys now : List X) → ok ≡ true → now ≡ (if ok then xs ++ ys else xs) → now ≡ xs ++ ys
grown ok xs ys now is e = e ∙ ap (λ b. if b then xs ++ ys else xs) is

pub all_behind : {X : Type 0} (own ys seen first : List X) (n : ℕ) → seen ≡ own → first ≡ ys ++ take (length seen - n) (drop n seen) → first ≡ ys ++ drop n own
all_behind own ys seen first n is e =
    e
    ∙ ap (λ rest. ys ++ rest) (take_all (length seen - n) (drop n seen) (omega (arith, length-drop n seen)) ∙ ap (drop n) is)

pub run_left : {X : Type 0} (own ys first seen front left : List X) (n k end : ℕ) → end ≡ length ys + k → first ≡ ys ++ drop n own → seen ≡ first → front ≡ take n own → left ≡ front ++ take (length seen - end) (drop end seen) → left ≡ remove_range own n (n + k)
run_left own ys first seen front left n k end at all is e back =
    back
    ∙ ap₂ (λ those rest. those ++ rest) e
    (take_all (length seen - end) (drop end seen) (omega (arith, length-drop end seen))
    ∙ ap₂ (λ i those. drop i those) at (is ∙ all)
    ∙ drop-append-add ys (drop n own) k
    ∙ drop-drop k n own)

pub run_put : {X : Type 0} (own ys first now : List X) (n k end : ℕ) → end ≡ length ys + k → first ≡ ys ++ drop n own → now ≡ take end first → now ≡ ys ++ slice_range own n (n + k)
run_put own ys first now n k end at all e =
    let many : k ≡ n + k - n = omega arith in
    e
    ∙ ap₂ (λ i those. take i those) at all
    ∙ take-append-add ys (drop n own) k
    ∙ ap (λ i. ys ++ take i (drop n own)) many
