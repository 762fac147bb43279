-- Items that are changed one by one.
use Rattle.std.proofs.Common.{◌≡◌, refl, ap, ap₂, sym, ◌∙◌, subst, ℕ, zero, suc, ◌+◌, ◌<◌, arith, List, [], ◌∷◌, ◌++◌, map, length, take, drop, get_or, set, length-append, length-drop}
use Rattle.std.{specs.List.AllByRecursion, proofs.lemmas.List.{get_or_default, length-take-le, length-map, map-append}, proofs.lemmas.List.Edits.map_over_more}
use Rattle.chunk_list.specs.Chunked.{AreChunks, AreFilled, IsChunk, joined}

-- one more that is changed
pub map_more : {X : Type 0} (f : X → X) (xs ys : List X) (i : ℕ) (d : X) → i < length xs → ys ≡ map f (take i xs) ++ drop i xs → set ys i (f (get_or ys i d)) ≡ map f (take (i + 1) xs) ++ drop (i + 1) xs
map_more f xs ys i d lt so =
    let len : length ys ≡ length xs = ap length so ∙ long in
    map_over_more f xs ys i (get_or ys i d) lt so (get_or_default ys i d (get_or ys i d) (omega (arith, len)))
  where
    long : length (map f (take i xs) ++ drop i xs) ≡ length xs
    long = omega (arith, length-append (map f (take i xs)) (drop i xs), length-map (take i xs) f, length-take-le i xs (omega arith), length-drop i xs)

-- what holds of all holds of one that is not changed yet
pub later_has : {X : Type 0} (P : X → Type 0) (f : X → X) (xs ys : List X) (i : ℕ) (d : X) → i < length xs → ys ≡ map f (take i xs) ++ drop i xs → AllByRecursion P xs → P (get_or ys i d)
later_has {X} P f xs ys i d lt so h = subst (λ zs. P (get_or zs i d)) (sym so) (go xs i lt h)
  where
    go : (xs : List X) (i : ℕ) → i < length xs → AllByRecursion P xs → P (get_or (map f (take i xs) ++ drop i xs) i d)
    go [] i lt h = absurd (omega arith)
    go (x ∷ xs) zero lt h = h.0
    go (x ∷ xs) (suc i) lt h = go xs i (omega arith) h.1

every_part : {X : Type 0} (P : X → Type 0) (xs ys : List X) → AllByRecursion P (xs ++ ys) → AllByRecursion P xs × AllByRecursion P ys
every_part P [] ys h = (tt, h)
every_part P (x ∷ xs) ys h = let rest = every_part P xs ys h.1 in ((h.0, rest.0), rest.1)

-- what holds of all items holds of those of each chunk
pub every_chunk : {X : Type 0} (P : X → Type 0) (ls : List (List X)) → AllByRecursion P (joined ls) → AllByRecursion (AllByRecursion P) ls
every_chunk P [] h = tt
every_chunk P (l ∷ ls) h = let parts = every_part P l (joined ls) h in (parts.0, every_chunk P ls parts.1)

pub joined-changed : {X : Type 0} (f : X → X) (ls : List (List X)) → joined (map (map f) ls) ≡ map f (joined ls)
joined-changed f [] = refl
joined-changed f (l ∷ ls) = ap (λ xs. map f l ++ xs) (joined-changed f ls) ∙ sym (map-append f l (joined ls))

sizes_changed : {X : Type 0} (f : X → X) (ls : List (List X)) → AllByRecursion IsChunk ls → AllByRecursion IsChunk (map (map f) ls)
sizes_changed f [] h = tt
sizes_changed f (l ∷ ls) h = (record { some = omega (arith, length-map l f, h.0.some); few = omega (arith, length-map l f, h.0.few) }, sizes_changed f ls h.1)

pub filled_changed : {X : Type 0} (f : X → X) (ls : List (List X)) → AreFilled ls → AreFilled (map (map f) ls)
filled_changed f [] h = tt
filled_changed f (l ∷ ls) h = (omega (arith, length-map l f, h.0), filled_changed f ls h.1)

counts_changed : {X : Type 0} (f : X → X) (ls : List (List X)) → map length (map (map f) ls) ≡ map length ls
counts_changed f [] = refl
counts_changed f (l ∷ ls) = ap₂ (λ n ns. n ∷ ns) (length-map l f) (counts_changed f ls)

pub changed_kept : {X : Type 0} (f : X → X) (ls : List (List X)) (counts : List ℕ) → AreChunks ls counts → AreChunks (map (map f) ls) counts
changed_kept f ls counts are = record {
  sizes = sizes_changed f ls are.sizes;
  counted = are.counted ∙ sym (counts_changed f ls);
  few = omega (arith, are.few, ap length (joined-changed f ls), length-map (joined ls) f);
}
