-- Lists of which a first part passes a test, and such lists in chunks.
use Rattle.std.proofs.Common.{◌≡◌, refl, ap, sym, ◌∙◌, subst, Bool, true, false, ℕ, zero, suc, ◌+◌, ◌<◌, ◌≤◌, arith, List, [], ◌∷◌, ◌++◌, length, take, drop, get_or, IsSome}
use Rattle.std.{specs.List.AllByRecursion, proofs.Math.Seq.drop-cons, proofs.lemmas.Bool.true_from_ne_false}
use Rattle.chunk_list.{specs.declared.counts.ChunkPosition.ChunkPosition, specs.Chunked.{joined, list_at, position_in}, proofs.Changing.every_chunk, proofs.Joined.joined_around}
use Rattle.row_handles.specs.Entries.{Entry, key_with}
use Rattle.key_lists.{proofs.Every.every-append, proofs.Parts.{every_front, every_back, every_at, drop_among}}
use Rattle.row_groups.{specs.declared.place.GroupRow.GroupRow, specs.Slots.{AreKnown, IsParted}}

pub unlike : (b : Bool) → b ≡ true → b ≡ false → ⊥
unlike b e f = cc

pub parted_before : {X : Type 0} (p : X → Bool) (xs : List X) (x : X) (ys : List X) → IsParted p (xs ++ x ∷ ys) → p x ≡ true → AllByRecursion (λ y. p y ≡ true) xs
parted_before p [] x ys h e = tt
parted_before p (y ∷ xs) x ys h e =
    (true_from_ne_false (p y) (λ f. unlike (p x) e (every_back (λ z. p z ≡ false) xs (x ∷ ys) (h.0 f)).0), parted_before p xs x ys h.1 e)

pub parted_after : {X : Type 0} (p : X → Bool) (xs : List X) (x : X) (ys : List X) → IsParted p (xs ++ x ∷ ys) → p x ≡ false → AllByRecursion (λ y. p y ≡ false) (x ∷ ys)
parted_after p [] x ys h e = (e, h.0 e)
parted_after p (y ∷ xs) x ys h e = parted_after p xs x ys h.1 e

pub parted_back : {X : Type 0} (p : X → Bool) (xs ys : List X) → IsParted p (xs ++ ys) → IsParted p ys
parted_back p [] ys h = h
parted_back p (x ∷ xs) ys h = parted_back p xs ys h.1

pub parted_front : {X : Type 0} (p : X → Bool) (xs ys : List X) → IsParted p (xs ++ ys) → IsParted p xs
parted_front p [] ys h = tt
parted_front p (x ∷ xs) ys h = (λ e. every_front (λ y. p y ≡ false) xs ys (h.0 e), parted_front p xs ys h.1)

-- an element that passes, and those before it
pub passed_to : {X : Type 0} (p : X → Bool) (xs : List X) (i : ℕ) (d : X) → i < length xs → IsParted p xs → p (get_or xs i d) ≡ true → AllByRecursion (λ y. p y ≡ true) (take (suc i) xs)
passed_to p [] i d lt h e = absurd (omega arith)
passed_to p (y ∷ xs) zero d lt h e = (e, tt)
passed_to p (y ∷ xs) (suc i) d lt h e =
    (true_from_ne_false (p y) (λ f. unlike (p (get_or xs i d)) e (every_at (λ z. p z ≡ false) xs i d (omega arith) (h.0 f))), passed_to p xs i d (omega arith) h.1 e)

-- an element that does not, and those after it
pub failed_from : {X : Type 0} (p : X → Bool) (xs : List X) (i : ℕ) (d : X) → i < length xs → IsParted p xs → p (get_or xs i d) ≡ false → AllByRecursion (λ y. p y ≡ false) (drop i xs)
failed_from p [] i d lt h e = absurd (omega arith)
failed_from p (y ∷ xs) zero d lt h e = (e, h.0 e)
failed_from p (y ∷ xs) (suc i) d lt h e = failed_from p xs i d (omega arith) h.1 e

-- an item with which a chunk begins
split_at_first : {X : Type 0} (ls : List (List X)) (i : ℕ) (d : X) → i < length ls → 0 < length (list_at i ls) → joined ls ≡ joined (take i ls) ++ get_or (list_at i ls) 0 d ∷ (drop 1 (list_at i ls) ++ joined (drop (suc i) ls))
split_at_first ls i d lt some = joined_around ls i lt ∙ ap (λ xs. joined (take i ls) ++ (xs ++ joined (drop (suc i) ls))) (drop-cons (list_at i ls) 0 d some)

pub chunks_passed : {X : Type 0} (p : X → Bool) (ls : List (List X)) (i : ℕ) (d : X) → i < length ls → 0 < length (list_at i ls) → IsParted p (joined ls) → p (get_or (list_at i ls) 0 d) ≡ true → AllByRecursion (λ y. p y ≡ true) (joined (take i ls))
chunks_passed p ls i d lt some h e =
    parted_before p (joined (take i ls)) (get_or (list_at i ls) 0 d) (drop 1 (list_at i ls) ++ joined (drop (suc i) ls)) (subst (IsParted p) (split_at_first ls i d lt some) h) e

pub chunks_failed : {X : Type 0} (p : X → Bool) (ls : List (List X)) (i : ℕ) (d : X) → i < length ls → 0 < length (list_at i ls) → IsParted p (joined ls) → p (get_or (list_at i ls) 0 d) ≡ false → AllByRecursion (λ y. p y ≡ false) (joined (drop i ls))
chunks_failed p ls i d lt some h e =
    subst (AllByRecursion (λ y. p y ≡ false)) (sym (ap joined (drop-cons ls i [] lt) ∙ ap (λ xs. xs ++ joined (drop (suc i) ls)) (drop-cons (list_at i ls) 0 d some)))
    (parted_after p (joined (take i ls)) (get_or (list_at i ls) 0 d) (drop 1 (list_at i ls) ++ joined (drop (suc i) ls)) (subst (IsParted p) (split_at_first ls i d lt some) h) e)

pub parted_in : {X : Type 0} (p : X → Bool) (ls : List (List X)) (i : ℕ) → i < length ls → IsParted p (joined ls) → IsParted p (list_at i ls)
parted_in p ls i lt h =
    parted_front p (list_at i ls) (joined (drop (suc i) ls)) (parted_back p (joined (take i ls)) (list_at i ls ++ joined (drop (suc i) ls)) (subst (IsParted p) (joined_around ls i lt) h))

-- the rows of each chunk are known
pub known_at : (entries : List Entry) (chunks : List (List GroupRow)) (i : ℕ) (rows : List GroupRow) → i < length chunks → AreKnown entries (joined chunks) → rows ≡ list_at i chunks → AreKnown entries rows
known_at entries chunks i rows lt known e =
    subst (AreKnown entries) (sym e) (every_at (AreKnown entries) chunks i [] lt (every_chunk (λ (slot : GroupRow). IsSome (key_with slot.handle entries)) chunks known))

pub row_known : (entries : List Entry) (chunks : List (List GroupRow)) (index i : ℕ) (rows : List GroupRow) (d : GroupRow) → index < length chunks → i < length rows → AreKnown entries (joined chunks) → rows ≡ list_at index chunks → IsSome (key_with (get_or rows i d).handle entries)
row_known entries chunks index i rows d lt within known e = every_at (λ slot. IsSome (key_with slot.handle entries)) rows i d within (known_at entries chunks index rows lt known e)

-- the parts of a list up to a place in its midst, and from there
pub take_among : {X : Type 0} (xs ys zs : List X) (n m : ℕ) → length xs + m ≡ n → m ≤ length ys → take n (xs ++ (ys ++ zs)) ≡ xs ++ take m ys
take_among [] ys zs n zero e le = ap (λ k. take k (ys ++ zs)) (sym e)
take_among [] [] zs n (suc m) e le = absurd (omega arith)
take_among [] (y ∷ ys) zs zero (suc m) e le = absurd (omega arith)
take_among [] (y ∷ ys) zs (suc n) (suc m) e le = ap (λ rs. y ∷ rs) (take_among [] ys zs n m (omega arith) (omega arith))
take_among (w ∷ xs) ys zs zero m e le = absurd (omega arith)
take_among (w ∷ xs) ys zs (suc n) m e le = ap (λ rs. w ∷ rs) (take_among xs ys zs n m (omega arith) le)

-- what holds of the items on either side of a place
pub before_in : {X : Type 0} (P : X → Type 0) (ls : List (List X)) (place : ChunkPosition) → place.index < length ls → place.offset ≤ length (list_at place.index ls) → AllByRecursion P (joined (take place.index ls)) → AllByRecursion P (take place.offset (list_at place.index ls)) → AllByRecursion P (take (position_in ls place) (joined ls))
before_in P ls place lt le h k =
    let i = place.index in
    subst (AllByRecursion P) (sym (ap (take (position_in ls place)) (joined_around ls i lt) ∙ take_among (joined (take i ls)) (list_at i ls) (joined (drop (suc i) ls)) (position_in ls place) place.offset refl le))
    (every-append P (joined (take i ls)) (take place.offset (list_at i ls)) h k)

pub others_in : {X : Type 0} (P : X → Type 0) (ls : List (List X)) (place : ChunkPosition) → place.index < length ls → place.offset ≤ length (list_at place.index ls) → AllByRecursion P (drop place.offset (list_at place.index ls)) → AllByRecursion P (joined (drop (suc place.index) ls)) → AllByRecursion P (drop (position_in ls place) (joined ls))
others_in P ls place lt le h k =
    let i = place.index in
    subst (AllByRecursion P) (sym (ap (drop (position_in ls place)) (joined_around ls i lt) ∙ drop_among (joined (take i ls)) (list_at i ls) (joined (drop (suc i) ls)) (position_in ls place) place.offset refl le))
    (every-append P (drop place.offset (list_at i ls)) (joined (drop (suc i) ls)) h k)
