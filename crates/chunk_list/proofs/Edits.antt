-- What edits of chunks do to the joined list and to the counts.
use Rattle.std.proofs.Common.{◌≡◌, refl, ap, ap₂, sym, ◌∙◌, ℕ, zero, suc, ◌+◌, ◌-◌, ◌^◌, ◌<◌, ◌≤◌, arith, List, [], ◌∷◌, ◌++◌, length, map, take, drop, get_or, set, append_assoc, length-append, Result, Ok, Err, OnErr, false, true≢false}
use Rattle.std.{specs.Prelude.{insert, remove, ◌==◌}, specs.List.AllByRecursion, proofs.lemmas.List.{append-nil, set-get_or}, specs.Global.Vec}
use Rattle.chunk_list.{specs.declared.counts.ChunkPosition.ChunkPosition, specs.Chunked.{AreChunks, IsChunk, contents, joined, list_at, position_in}, proofs.Joined.{count_at, joined_around, joined_set, own_list}}
use Rattle.key_lists.proofs.Parts.{every_at, every_set, every_remove, map_set, put_among, taken_among}

pub map_insert : {X Y : Type 0} (f : X → Y) (xs : List X) (i : ℕ) (x : X) → map f (insert xs i x) ≡ insert (map f xs) i (f x)
map_insert f xs zero x = refl
map_insert f [] (suc i) x = refl
map_insert f (y ∷ xs) (suc i) x = ap (λ ys. f y ∷ ys) (map_insert f xs i x)

pub map_remove : {X Y : Type 0} (f : X → Y) (xs : List X) (i : ℕ) → map f (remove xs i) ≡ remove (map f xs) i
map_remove f [] zero = refl
map_remove f [] (suc i) = refl
map_remove f (y ∷ xs) zero = refl
map_remove f (y ∷ xs) (suc i) = ap (λ ys. f y ∷ ys) (map_remove f xs i)

pub item_put : {X : Type 0} (ls : List (List X)) (place : ChunkPosition) (x : X) → place.index < length ls → place.offset ≤ length (list_at place.index ls) → joined (set ls place.index (insert (list_at place.index ls) place.offset x)) ≡ insert (joined ls) (position_in ls place) x
item_put ls place x lt le =
    joined_set ls place.index (insert (list_at place.index ls) place.offset x) lt
    ∙ put_among (joined (take place.index ls)) (list_at place.index ls) (joined (drop (suc place.index) ls)) (position_in ls place) place.offset x refl le
    ∙ ap (λ xs. insert xs (position_in ls place) x) (sym (joined_around ls place.index lt))

pub item_taken : {X : Type 0} (ls : List (List X)) (place : ChunkPosition) → place.index < length ls → place.offset < length (list_at place.index ls) → joined (set ls place.index (remove (list_at place.index ls) place.offset)) ≡ remove (joined ls) (position_in ls place)
item_taken ls place lt less =
    joined_set ls place.index (remove (list_at place.index ls) place.offset) lt
    ∙ taken_among (joined (take place.index ls)) (list_at place.index ls) (joined (drop (suc place.index) ls)) (position_in ls place) place.offset refl less
    ∙ ap (λ xs. remove xs (position_in ls place)) (sym (joined_around ls place.index lt))

-- an empty list goes
pub joined_left : {X : Type 0} (ls : List (List X)) (i : ℕ) → i < length ls → joined (set ls i []) ≡ joined (remove ls i)
joined_left [] i lt = absurd (omega arith)
joined_left (l ∷ ls) zero lt = refl
joined_left (l ∷ ls) (suc i) lt = ap (λ xs. l ++ xs) (joined_left ls i (omega arith))

remove_set : {X : Type 0} (xs : List X) (i : ℕ) (x : X) → remove (set xs i x) i ≡ remove xs i
remove_set [] zero x = refl
remove_set [] (suc i) x = refl
remove_set (y ∷ xs) zero x = refl
remove_set (y ∷ xs) (suc i) x = ap (λ ys. y ∷ ys) (remove_set xs i x)

-- how many items there are when a list becomes another
pub length_instead : {X : Type 0} (ls : List (List X)) (i : ℕ) (l : List X) → i < length ls → length (joined (set ls i l)) + length (list_at i ls) ≡ length (joined ls) + length l
length_instead ls i l lt = omega (arith, ap length (joined_set ls i l lt), ap length (joined_around ls i lt), length-append (joined (take i ls)) (l ++ joined (drop (suc i) ls)), length-append l (joined (drop (suc i) ls)), length-append (joined (take i ls)) (list_at i ls ++ joined (drop (suc i) ls)), length-append (list_at i ls) (joined (drop (suc i) ls)))

-- no more chunks than items
pub fewer_lists : {X : Type 0} (ls : List (List X)) → AllByRecursion IsChunk ls → length ls ≤ length (joined ls)
fewer_lists [] h = omega arith
fewer_lists (l ∷ ls) h = omega (arith, h.0.some, length-append l (joined ls), fewer_lists ls h.1)

-- chunks stay so when one has some items more
pub put_kept : {X : Type 0} (ls : List (List X)) (counts : List ℕ) (i n : ℕ) (l : List X) → AreChunks ls counts → i < length ls → length l ≡ length (list_at i ls) + n → length (list_at i ls) + n ≤ 512 → length (joined ls) + n ≤ 2 ^ 62 → AreChunks (set ls i l) (set counts i (get_or counts i 0 + n))
put_kept ls counts i n l are lt more few room = record {
  sizes = every_set IsChunk ls i l (record { some = omega (arith, (every_at IsChunk ls i [] lt are.sizes).some, more); few = omega (arith, more, few) }) are.sizes;
  counted = ap (λ ns. set ns i (get_or ns i 0 + n)) are.counted ∙ ap (λ m. set (map length ls) i (m + n)) (count_at ls i) ∙ ap (set (map length ls) i) (sym more) ∙ sym (map_set length ls i l);
  few = omega (arith, length_instead ls i l lt, more, room);
}

-- a chunk that becomes another
pub lists_set : {X : Type 0} (chunks : List (Vec X)) (ls : List (List X)) (i : ℕ) (new : Vec X) (l : List X) → contents chunks ≡ ls → new.items ≡ l → contents (set chunks i new) ≡ set ls i l
lists_set chunks ls i new l e f = map_set (λ c. c.items) chunks i new ∙ ap₂ (λ ks k. set ks i k) e f

pub lists_same : {X : Type 0} (chunks : List (Vec X)) (ls : List (List X)) (i : ℕ) (chunk new : Vec X) → contents chunks ≡ ls → i < length ls → chunk ≡ get_or chunks i chunk → new.items ≡ chunk.items → contents (set chunks i new) ≡ ls
lists_same chunks ls i chunk new e lt is f =
    lists_set chunks ls i new (list_at i ls) e (f ∙ sym (own_list chunks ls i chunk e lt is))
    ∙ set-get_or ls i []

pub inserted_last : {X : Type 0} (xs : List X) (n : ℕ) (x : X) → n ≡ length xs → insert xs n x ≡ xs ++ x ∷ []
inserted_last [] zero x e = refl
inserted_last [] (suc n) x e = refl
inserted_last (y ∷ xs) zero x e = absurd (omega arith)
inserted_last (y ∷ xs) (suc n) x e = ap (λ ys. y ∷ ys) (inserted_last xs n x (omega arith))

pub joined_last : {X : Type 0} (ls : List (List X)) (i : ℕ) (x : X) → i + 1 ≡ length ls → joined (set ls i (list_at i ls ++ x ∷ [])) ≡ joined ls ++ x ∷ []
joined_last [] i x e = absurd (omega arith)
joined_last (l ∷ []) zero x e = append-nil (l ++ x ∷ []) ∙ ap (λ ys. ys ++ x ∷ []) (sym (append-nil l))
joined_last (l ∷ k ∷ ls) zero x e = absurd (omega arith)
joined_last (l ∷ ls) (suc i) x e = ap (λ xs. l ++ xs) (joined_last ls i x (omega arith)) ∙ sym (append_assoc l (joined ls) (x ∷ []))

pub on_err : {A E : Type 0} (r : Result A E) (P : Type 0) → P → OnErr r P
on_err (Ok a) P p = tt
on_err (Err e) P p = p

-- when one has some items less, or goes as it was empty
pub taken_kept : {X : Type 0} (ls : List (List X)) (counts : List ℕ) (i n : ℕ) (l : List X) → AreChunks ls counts → i < length ls → length l + n ≡ length (list_at i ls) → 0 < length l → AreChunks (set ls i l) (set counts i (get_or counts i 0 - n))
taken_kept ls counts i n l are lt fewer some =
    let less : length (list_at i ls) - n ≡ length l = omega arith in
    record {
      sizes = every_set IsChunk ls i l (record { some = some; few = omega (arith, (every_at IsChunk ls i [] lt are.sizes).few) }) are.sizes;
      counted = ap (λ ns. set ns i (get_or ns i 0 - n)) are.counted ∙ ap (λ m. set (map length ls) i (m - n)) (count_at ls i) ∙ ap (set (map length ls) i) less ∙ sym (map_set length ls i l);
      few = omega (arith, are.few, length_instead ls i l lt);
    }

pub gone_kept : {X : Type 0} (ls : List (List X)) (counts : List ℕ) (i : ℕ) → AreChunks ls counts → i < length ls → AreChunks (remove ls i) (remove counts i)
gone_kept ls counts i are lt = record {
  sizes = every_remove IsChunk ls i are.sizes;
  counted = ap (λ ns. remove ns i) are.counted ∙ sym (map_remove length ls i);
  few = omega (arith, are.few, ap length (joined_left ls i lt), length_instead ls i [] lt);
}

pub some_items : {X : Type 0} (xs : List X) → false ≡ (length xs == 0) → 0 < length xs
some_items [] e = absurd (true≢false (sym e))
some_items (x ∷ xs) e = omega arith

-- chunks with one more
pub lists_put : {X : Type 0} (chunks after : List (Vec X)) (ls : List (List X)) (i : ℕ) (chunk : Vec X) → contents chunks ≡ ls → after ≡ insert chunks i chunk → contents after ≡ insert ls i chunk.items
lists_put {X = X} chunks after ls i chunk e put = ap contents put ∙ map_insert (λ (c : Vec X). c.items) chunks i chunk ∙ ap (λ ks. insert ks i chunk.items) e

-- chunks of which one goes
pub lists_gone : {X : Type 0} (chunks after : List (Vec X)) (ls : List (List X)) (i : ℕ) (rest : Vec X) → contents chunks ≡ ls → after ≡ remove (set chunks i rest) i → contents after ≡ remove ls i
lists_gone {X = X} chunks after ls i rest e put = ap contents (put ∙ remove_set chunks i rest) ∙ map_remove (λ (c : Vec X). c.items) chunks i ∙ ap (λ ks. remove ks i) e

-- the last item of a chunk goes with it
pub item_gone : {X : Type 0} (ls : List (List X)) (place : ChunkPosition) → place.index < length ls → place.offset < length (list_at place.index ls) → remove (list_at place.index ls) place.offset ≡ [] → joined (remove ls place.index) ≡ remove (joined ls) (position_in ls place)
item_gone ls place lt less none =
    sym (joined_left ls place.index lt)
    ∙ ap (λ l. joined (set ls place.index l)) (sym none)
    ∙ item_taken ls place lt less
