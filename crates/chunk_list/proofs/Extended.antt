-- Chunks that are put behind others or taken off again.
use Rattle.std.proofs.Common.{◌≡◌, refl, ap, sym, ◌∙◌, ℕ, zero, suc, ◌+◌, ◌^◌, ◌<◌, ◌≤◌, arith, List, [], ◌∷◌, ◌++◌, length, map, take, drop, get_or, set, append_assoc, append-nil, length-append, take-append-drop}
use Rattle.std.{specs.Prelude.{insert, remove}, specs.Global.Vec, proofs.lemmas.List.{drop-append-le, length-take, map-append, take-append-le, take-map, take_more}}
use Rattle.key_lists.{proofs.Every.every-append, proofs.Parts.every-take}
use Rattle.chunk_list.{specs.Chunked.{AreChunks, IsChunk, contents, joined, list_at}, proofs.Edits.inserted_last, proofs.Joined.{length-counts, length-lists, own_list}, proofs.Searches.start_within}

pub joined-append : {X : Type 0} (ls ks : List (List X)) → joined (ls ++ ks) ≡ joined ls ++ joined ks
joined-append [] ks = refl
joined-append (l ∷ ls) ks = ap (λ xs. l ++ xs) (joined-append ls ks) ∙ sym (append_assoc l (joined ls) (joined ks))

-- a chunk behind all others
pub joined_pushed : {X : Type 0} (ls : List (List X)) (l : List X) → joined (ls ++ l ∷ []) ≡ joined ls ++ l
joined_pushed ls l = joined-append ls (l ∷ []) ∙ ap (λ xs. joined ls ++ xs) (append-nil l)

pub pushed_kept : {X : Type 0} (ls : List (List X)) (counts : List ℕ) (n count : ℕ) (l : List X) → AreChunks ls counts → n ≡ length ls → count ≡ length l → IsChunk l → length (joined ls) + length l ≤ 2 ^ 62 → AreChunks (ls ++ l ∷ []) (insert counts n count)
pushed_kept ls counts n count l are end size chunk room = record {
  sizes = every-append IsChunk ls (l ∷ []) are.sizes (chunk, tt);
  counted =
      ap (λ ns. insert ns n count) are.counted
      ∙ inserted_last (map length ls) n count (end ∙ sym (length-counts ls))
      ∙ ap (λ m. map length ls ++ m ∷ []) size
      ∙ sym (map-append length ls (l ∷ []));
  few = omega (arith, ap length (joined_pushed ls l), length-append (joined ls) l, room);
}

-- some chunks stay the first ones, where one more is put behind all
pub first_ones : {X : Type 0} (ls now : List X) → take (length ls) now ≡ ls → length ls ≤ length now
first_ones ls now e = omega (arith, ap length e, length-take (length ls) now)

pub more_kept : {X : Type 0} (ls now : List X) (x : X) → take (length ls) now ≡ ls → take (length ls) (now ++ x ∷ []) ≡ ls
more_kept ls now x e = take-append-le (length ls) now (x ∷ []) (first_ones ls now e) ∙ e

pub more_put : {X : Type 0} (ls now : List (List X)) (l others rest all : List X) → take (length ls) now ≡ ls → l ++ others ≡ rest → joined (drop (length ls) now) ++ rest ≡ all → joined (drop (length ls) (now ++ l ∷ [])) ++ others ≡ all
more_put ls now l others rest all e parts so_far =
    let n = length ls in
    ap (λ ks. joined ks ++ others) (drop-append-le n now (l ∷ []) (first_ones ls now e))
    ∙ ap (λ xs. xs ++ others) (joined_pushed (drop n now) l)
    ∙ append_assoc (joined (drop n now)) l others
    ∙ ap (λ xs. joined (drop n now) ++ xs) parts
    ∙ so_far

-- the first chunks and those behind them
pub all_put : {X : Type 0} (ls now : List (List X)) → take (length ls) now ≡ ls → now ≡ ls ++ drop (length ls) now
all_put ls now e = sym (take-append-drop (length ls) now) ∙ ap (λ ks. ks ++ drop (length ls) now) e

-- items put into the last of the first chunks, with others behind these
end_filled : {X : Type 0} (ls more : List (List X)) (i : ℕ) (l : List X) → i + 1 ≡ length ls → joined (set (ls ++ more) i (list_at i (ls ++ more) ++ l)) ≡ joined ls ++ (l ++ joined more)
end_filled [] more i l e = absurd (omega arith)
end_filled (k ∷ []) more zero l e = append_assoc k l (joined more) ∙ ap (λ xs. xs ++ (l ++ joined more)) (sym (append-nil k))
end_filled (k ∷ m ∷ ls) more zero l e = absurd (omega arith)
end_filled (k ∷ ls) more (suc i) l e = ap (λ xs. k ++ xs) (end_filled ls more i l (omega arith)) ∙ sym (append_assoc k (joined ls) (l ++ joined more))

pub filled : {X : Type 0} (ls now : List (List X)) (i : ℕ) (l rest items : List X) → i + 1 ≡ length ls → take (length ls) now ≡ ls → joined (drop (length ls) now) ≡ rest → l ++ rest ≡ items → joined (set now i (list_at i now ++ l)) ≡ joined ls ++ items
filled ls now i l rest items end e put parts =
    ap (λ ks. joined (set ks i (list_at i ks ++ l))) (all_put ls now e)
    ∙ end_filled ls (drop (length ls) now) i l end
    ∙ ap (λ xs. joined ls ++ (l ++ xs)) put
    ∙ ap (λ xs. joined ls ++ xs) parts

pub none_filled : {X : Type 0} (ls now : List (List X)) (items : List X) → take (length ls) now ≡ ls → joined (drop (length ls) now) ≡ items → joined now ≡ joined ls ++ items
none_filled ls now items e put = ap joined (all_put ls now e) ∙ joined-append ls (drop (length ls) now) ∙ ap (λ xs. joined ls ++ xs) put

-- the first chunks stay where they are
front_at : {X : Type 0} (ls ks : List (List X)) (i : ℕ) → i < length ls → list_at i (ls ++ ks) ≡ list_at i ls
front_at [] ks i lt = absurd (omega arith)
front_at (l ∷ ls) ks zero lt = refl
front_at (l ∷ ls) ks (suc i) lt = front_at ls ks i (omega arith)

pub still_at : {X : Type 0} (ls now : List (List X)) (i : ℕ) → i < length ls → take (length ls) now ≡ ls → list_at i now ≡ list_at i ls
still_at ls now i lt e = ap (list_at i) (all_put ls now e) ∙ front_at ls (drop (length ls) now) i lt

-- a list without one of its elements has the same ones before it
front_stays : {X : Type 0} (xs : List X) (n i : ℕ) → n ≤ i → take n (remove xs i) ≡ take n xs
front_stays xs zero i le = refl
front_stays [] (suc n) zero le = refl
front_stays [] (suc n) (suc i) le = refl
front_stays (x ∷ xs) (suc n) zero le = absurd (omega arith)
front_stays (x ∷ xs) (suc n) (suc i) le = ap (λ ys. x ∷ ys) (front_stays xs n i (omega arith))

pub last_gone : {X : Type 0} (xs all : List X) (n i : ℕ) → n ≤ i → take n xs ≡ take n all → take n (remove xs i) ≡ take n all
last_gone xs all n i le e = front_stays xs n i le ∙ e

-- copies of the first chunks, with one more
pub one_copied : {X : Type 0} (chunks copies : List (Vec X)) (i : ℕ) (chunk copied : Vec X) → i < length chunks → chunk ≡ get_or chunks i chunk → copied.items ≡ chunk.items → contents copies ≡ take i (contents chunks) → contents (copies ++ copied ∷ []) ≡ take (i + 1) (contents chunks)
one_copied {X = X} chunks copies i chunk copied lt is same so_far =
    let within : i < length (contents chunks) = omega (arith, length-lists chunks, lt) in
    map-append (λ (c : Vec X). c.items) copies (copied ∷ [])
    ∙ ap (λ ls. ls ++ copied.items ∷ []) so_far
    ∙ ap (λ l. take i (contents chunks) ++ l ∷ []) (same ∙ sym (own_list chunks (contents chunks) i chunk refl within is))
    ∙ sym (take_more (contents chunks) i [] within)

-- the first chunks, and their counts
pub front_kept : {X : Type 0} (ls : List (List X)) (counts : List ℕ) (n : ℕ) → AreChunks ls counts → AreChunks (take n ls) (take n counts)
front_kept ls counts n are = record {
  sizes = every-take IsChunk n ls are.sizes;
  counted = ap (take n) are.counted ∙ take-map length n ls;
  few = omega (arith, are.few, start_within ls n);
}
