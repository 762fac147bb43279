-- Lists joined to one, and what stands at a place there.
use Rattle.std.proofs.Common.{◌≡◌, refl, ap, sym, ◌∙◌, ℕ, zero, suc, ◌+◌, ◌-◌, ◌<◌, arith, List, [], ◌∷◌, ◌++◌, length, map, take, drop, get_or, set, sum, append_assoc, append-nil, length-append, Some}
use Rattle.std.{specs.Prelude.slice_get, specs.Global.Vec, proofs.lemmas.List.take-map, proofs.lemmas.Option.slice_get_read}
use Rattle.key_lists.proofs.Parts.{drop_among, get-append, got_among, some_at, take_front}
use Rattle.chunk_list.{specs.declared.counts.ChunkPosition.ChunkPosition, specs.Chunked.{AreFilled, IsPlace, contents, joined, list_at, position_in}, proofs.Sums.sum-cons}

pub length-joined : {X : Type 0} (ls : List (List X)) → length (joined ls) ≡ sum (map length ls)
length-joined [] = refl
length-joined (l ∷ ls) = length-append l (joined ls) ∙ ap (λ n. length l + n) (length-joined ls) ∙ sym (sum-cons (length l) (map length ls))

pub length-counts : {X : Type 0} (ls : List (List X)) → length (map length ls) ≡ length ls
length-counts [] = refl
length-counts (l ∷ ls) = ap suc (length-counts ls)

pub count_at : {X : Type 0} (ls : List (List X)) (i : ℕ) → get_or (map length ls) i 0 ≡ length (list_at i ls)
count_at [] i = refl
count_at (l ∷ ls) zero = refl
count_at (l ∷ ls) (suc i) = count_at ls i

-- where a chunk begins
pub start_summed : {X : Type 0} (ls : List (List X)) (counts : List ℕ) (i : ℕ) → counts ≡ map length ls → sum (take i counts) ≡ length (joined (take i ls))
start_summed ls counts i e = ap (λ ns. sum (take i ns)) e ∙ ap sum (take-map length i ls) ∙ sym (length-joined (take i ls))

pub joined_around : {X : Type 0} (ls : List (List X)) (i : ℕ) → i < length ls → joined ls ≡ joined (take i ls) ++ (list_at i ls ++ joined (drop (suc i) ls))
joined_around [] i lt = absurd (omega arith)
joined_around (l ∷ ls) zero lt = refl
joined_around (l ∷ ls) (suc i) lt = ap (λ xs. l ++ xs) (joined_around ls i (omega arith)) ∙ sym (append_assoc l (joined (take i ls)) (list_at i ls ++ joined (drop (suc i) ls)))

pub joined_set : {X : Type 0} (ls : List (List X)) (i : ℕ) (l : List X) → i < length ls → joined (set ls i l) ≡ joined (take i ls) ++ (l ++ joined (drop (suc i) ls))
joined_set [] i l lt = absurd (omega arith)
joined_set (k ∷ ls) zero l lt = refl
joined_set (k ∷ ls) (suc i) l lt = ap (λ xs. k ++ xs) (joined_set ls i l (omega arith)) ∙ sym (append_assoc k (joined (take i ls)) (l ++ joined (drop (suc i) ls)))

pub list_at-items : {X : Type 0} (chunks : List (Vec X)) (i : ℕ) (chunk : Vec X) → i < length chunks → list_at i (contents chunks) ≡ (get_or chunks i chunk).items
list_at-items [] i chunk lt = absurd (omega arith)
list_at-items (c ∷ chunks) zero chunk lt = refl
list_at-items (c ∷ chunks) (suc i) chunk lt = list_at-items chunks i chunk (omega arith)

pub length-lists : {X : Type 0} (chunks : List (Vec X)) → length (contents chunks) ≡ length chunks
length-lists [] = refl
length-lists (c ∷ chunks) = ap suc (length-lists chunks)

pub own_list : {X : Type 0} (chunks : List (Vec X)) (ls : List (List X)) (i : ℕ) (chunk : Vec X) → contents chunks ≡ ls → i < length ls → chunk ≡ get_or chunks i chunk → list_at i ls ≡ chunk.items
own_list chunks ls i chunk e lt is =
    ap (list_at i) (sym e)
    ∙ list_at-items chunks i chunk (omega (arith, lt, ap length e, length-lists chunks))
    ∙ ap (λ c. c.items) (sym is)

pub item_got : {X : Type 0} (ls : List (List X)) (place : ChunkPosition) → place.index < length ls → place.offset < length (list_at place.index ls) → slice_get (joined ls) (position_in ls place) ≡ slice_get (list_at place.index ls) place.offset
item_got ls place lt less =
    let x = some_at (list_at place.index ls) place.offset less in
    ap (λ xs. slice_get xs (position_in ls place)) (joined_around ls place.index lt)
    ∙ got_among (joined (take place.index ls)) (list_at place.index ls) (joined (drop (suc place.index) ls)) (position_in ls place) place.offset x.0 refl less x.1
    ∙ sym (slice_get_read (list_at place.index ls) (length (list_at place.index ls)) place.offset x.0 refl less x.1)

-- where a sum of counts stands, the item stands
pub placed : {X : Type 0} (ls : List (List X)) (counts : List ℕ) (position : ℕ) (place : ChunkPosition) → counts ≡ map length ls → place.index < length counts → place.offset < get_or counts place.index 0 → sum (take place.index counts) + place.offset ≡ position → IsPlace ls position place
placed ls counts position place e lt less at = record {
  index = omega (arith, ap length e, length-counts ls);
  offset = omega (arith, ap (λ ns. get_or ns place.index 0) e, count_at ls place.index);
  position_is = omega (arith, ap (λ ns. sum (take place.index ns)) e, ap sum (take-map length place.index ls), length-joined (take place.index ls));
}

pub run_got : {X : Type 0} (ls : List (List X)) (position : ℕ) (place : ChunkPosition) (run : List X) → IsPlace ls position place → run ≡ drop place.offset (list_at place.index ls) → take (length run) (drop position (joined ls)) ≡ run
run_got ls position place run at is =
    ap (λ xs. take (length run) (drop position xs)) (joined_around ls place.index at.index)
    ∙ ap (take (length run)) (drop_among (joined (take place.index ls)) (list_at place.index ls) (joined (drop (suc place.index) ls)) position place.offset at.position_is (omega (arith, at.offset)) ∙ ap (λ xs. xs ++ joined (drop (suc place.index) ls)) (sym is))
    ∙ take_front run (joined (drop (suc place.index) ls))

-- the last item is that of the last chunk
some_joined : {X : Type 0} (ls : List (List X)) → 0 < length ls → AreFilled ls → 0 < length (joined ls)
some_joined [] lt h = absurd (omega arith)
some_joined (l ∷ ls) lt h = omega (arith, h.0, length-append l (joined ls))

pub last_in : {X : Type 0} (ls : List (List X)) (i : ℕ) → i + 1 ≡ length ls → AreFilled ls → slice_get (list_at i ls) (length (list_at i ls) - 1) ≡ slice_get (joined ls) (length (joined ls) - 1)
last_in [] i e h = refl
last_in (l ∷ []) zero e h = ap (λ xs. slice_get xs (length xs - 1)) (sym (append-nil l))
last_in (l ∷ k ∷ ls) zero e h = absurd (omega arith)
last_in (l ∷ ls) (suc i) e h =
    let end : length (l ++ joined ls) - 1 ≡ length l + (length (joined ls) - 1) = omega (arith, length-append l (joined ls), some_joined ls (omega arith) h.1) in
    last_in ls i (omega arith) h.1
    ∙ sym (ap (slice_get (l ++ joined ls)) end ∙ get-append l (joined ls) (length (joined ls) - 1))

pub from_got : {X : Type 0} (xs : List X) (i : ℕ) (x : X) → slice_get xs i ≡ Some x → (i < length xs) × (x ≡ get_or xs i x)
from_got [] i x e = absurd (cc)
from_got (y ∷ xs) zero x e = (omega arith, cc)
from_got (y ∷ xs) (suc i) x e = let rest = from_got xs i x e in (omega (arith, rest.0), rest.1)

pub some_lists : {X : Type 0} (ls : List (List X)) → 0 < length (joined ls) → 0 < length ls
some_lists [] lt = absurd (omega arith)
some_lists (l ∷ ls) lt = omega arith
