-- Lists of any kind: their parts, and what holds of them.
use Rattle.std.proofs.Common.{◌≡◌, ◌≢◌, sym, ℕ, zero, suc, ◌<◌, arith, List, [], ◌∷◌, ◌++◌, length, take, drop, get_or, Option, Some, None}
use Rattle.std.specs.List.{AllByRecursion}
use Rattle.key_lists.{proofs.Every.{every-append, every_weaker}, proofs.Parts.{every_front, every_back}}
use Rattle.row_handles.specs.Entries.{AreDistinct}

-- numbers, no two of which are one
pub distinct_more : (n : ℕ) (xs ys : List ℕ) → AllByRecursion (λ x. x ≢ n) xs → AllByRecursion (λ y. y ≢ n) ys → AreDistinct (xs ++ ys) → AreDistinct (xs ++ n ∷ ys)
distinct_more n [] ys h k d = (every_weaker (λ y. y ≢ n) (λ y. n ≢ y) ys (λ y ne e. ne (sym e)) k, d)
distinct_more n (x ∷ xs) ys h k d =
    (every-append (λ y. x ≢ y) xs (n ∷ ys) (every_front (λ y. x ≢ y) xs ys d.0) (h.0, every_back (λ y. x ≢ y) xs ys d.0), distinct_more n xs ys h.1 k d.1)

pub distinct_less : (n : ℕ) (xs ys : List ℕ) → AreDistinct (xs ++ n ∷ ys) → AreDistinct (xs ++ ys)
distinct_less n [] ys d = d.1
distinct_less n (x ∷ xs) ys d =
    let rest = every_back (λ y. x ≢ y) xs (n ∷ ys) d.0 in
    (every-append (λ y. x ≢ y) xs ys (every_front (λ y. x ≢ y) xs (n ∷ ys) d.0) rest.1, distinct_less n xs ys d.1)

pub others_of : (n : ℕ) (xs ys : List ℕ) → AreDistinct (xs ++ n ∷ ys) → AllByRecursion (λ x. x ≢ n) xs × AllByRecursion (λ y. y ≢ n) ys
others_of n [] ys d = (tt, every_weaker (λ y. n ≢ y) (λ y. y ≢ n) ys (λ y ne e. ne (sym e)) d.0)
others_of n (x ∷ xs) ys d =
    let rest = others_of n xs ys d.1 in
    (((every_back (λ y. x ≢ y) xs (n ∷ ys) d.0).0, rest.0), rest.1)

-- options
pub none_some : {X : Type 0} (x : X) → ◌≡◌ {A = Option X} None (Some x) → ⊥
none_some x e = cc

pub held_before : {X : Type 0} (old : List X) (index : ℕ) (held right : X) → index < length old → held ≡ get_or (take (suc index) old ++ right ∷ drop (suc index) old) index held → held ≡ get_or old index held
held_before [] index held right lt at = absurd (omega arith)
held_before (x ∷ old) zero held right lt at = at
held_before (x ∷ old) (suc index) held right lt at = held_before old index held right (omega arith) at
