-- What a binary search for a partition point has found.
use Rattle.std.proofs.Common.{◌≡◌, refl, ap, sym, ◌∙◌, ℕ, zero, suc, ◌+◌, ◌-◌, ◌≤◌, ◌<◌, arith, List, [], ◌∷◌, ◌++◌, length, take, take_all, drop, get_or, Bool, true, false, true≢false, inl, inr, ◌⊎◌, Some, None, length-append}
use Rattle.std.{specs.Prelude.slice_get, specs.List.{AllWithin, HoldsAt}, specs.List.Sorted.{IsPartitionPoint, IsPartitionedBy}, specs.Fn.{AlwaysReturns, Called}, proofs.lemmas.Bool.{cases_lt, false_from_ne_true}}
use Rattle.key_lists.proofs.Parts.{get-append}
use denote.Param.Members.{Mut}
use Rattle.chunk_list.{specs.declared.counts.ChunkPosition.ChunkPosition, specs.Chunked.{joined, list_at, position_in}, proofs.Joined.joined_around}

pub holds_at : {X : Type 0} (P : X → Type 0) (xs : List X) (i : ℕ) (x : X) → slice_get xs i ≡ Some x → P x → HoldsAt P xs i
holds_at P [] i x e p d = absurd (cc)
holds_at P (y ∷ xs) zero x e p d = let same : x ≡ y = cc in rw (sym same) p
holds_at P (y ∷ xs) (suc i) x e p d = holds_at P xs i x e p d

pub answers_next : {F X R : Type 0} (g : Mut F X R) (P : X → R → Type 0) (f : F) (a : X) (r : R) (f' : F) → Called g f a r f' → AlwaysReturns g P f → P a r × AlwaysReturns g P f'
answers_next g P f a r f' c h = ((h.at (a ∷ []) r f' c).0, record { at = λ xs. (h.at (a ∷ xs) r f' c).1 })

-- the position of the first item of a chunk
abbrev pub start : {X : Type 0} → List (List X) → ℕ → ℕ
start ls i = length (joined (take i ls))

pub start_rises : {X : Type 0} (ls : List (List X)) (a b : ℕ) → a ≤ b → start ls a ≤ start ls b
start_rises ls zero b le = omega arith
start_rises [] (suc a) b le = omega arith
start_rises (l ∷ ls) (suc a) zero le = absurd (omega arith)
start_rises (l ∷ ls) (suc a) (suc b) le = omega (arith, length-append l (joined (take a ls)), length-append l (joined (take b ls)), start_rises ls a b (omega arith))

pub start_next : {X : Type 0} (ls : List (List X)) (i : ℕ) → start ls (suc i) ≡ start ls i + length (list_at i ls)
start_next [] zero = refl
start_next [] (suc i) = refl
start_next (l ∷ ls) zero = omega (arith, length-append l [])
start_next (l ∷ ls) (suc i) = omega (arith, length-append l (joined (take (suc i) ls)), length-append l (joined (take i ls)), start_next ls i)

pub start_all : {X : Type 0} (ls : List (List X)) → start ls (length ls) ≡ length (joined ls)
start_all [] = refl
start_all (l ∷ ls) = omega (arith, length-append l (joined (take (length ls) ls)), length-append l (joined ls), start_all ls)

pub start_within : {X : Type 0} (ls : List (List X)) (i : ℕ) → start ls i ≤ length (joined ls)
start_within ls zero = omega arith
start_within [] (suc i) = omega arith
start_within (l ∷ ls) (suc i) = omega (arith, length-append l (joined (take i ls)), length-append l (joined ls), start_within ls i)

pub next_within : {X : Type 0} (ls : List (List X)) (i n : ℕ) → start ls (suc i) ≤ n → n < length (joined ls) → suc i < length ls
next_within ls i n le lt =
    elim (cases_lt (suc i) (length ls)) [
      | inl less ↦ less
      | inr all ↦ absurd (omega (arith, le, lt, ap (λ ks. length (joined ks)) (take_all (suc i) ls all)))
    ]

pub position_within : {X : Type 0} (ls : List (List X)) (place : ChunkPosition) → place.offset ≤ length (list_at place.index ls) → position_in ls place ≤ length (joined ls)
position_within ls place le = omega (arith, le, start_next ls place.index, start_within ls (suc place.index))

-- where all items end
pub end_at : {X : Type 0} (ls : List (List X)) (i : ℕ) → i + 1 ≡ length ls → start ls i + length (list_at i ls) ≡ length (joined ls)
end_at ls i e =
    let all : suc i ≡ length ls = omega (arith, e) in
    omega (arith, start_next ls i, ap (start ls) all, start_all ls)

-- where the first item of a chunk stands
pub first_got : {X : Type 0} (ls : List (List X)) (i : ℕ) (x : X) → slice_get (list_at i ls) 0 ≡ Some x → slice_get (joined ls) (start ls i) ≡ Some x
first_got [] i x e = absurd (cc)
first_got ([] ∷ ls) zero x e = absurd (cc)
first_got ((y ∷ l) ∷ ls) zero x e = e
first_got (l ∷ ls) (suc i) x e = ap (slice_get (l ++ joined ls)) (length-append l (joined (take i ls))) ∙ get-append l (joined ls) (start ls i) ∙ first_got ls i x e

got_in : {X : Type 0} (xs ys zs : List X) (i : ℕ) (d : X) → i < length ys → get_or (xs ++ (ys ++ zs)) (length xs + i) d ≡ get_or ys i d
got_in [] [] zs i d lt = absurd (omega arith)
got_in [] (y ∷ ys) zs zero d lt = refl
got_in [] (y ∷ ys) zs (suc i) d lt = ap (λ n. get_or (y ∷ (ys ++ zs)) n d) (let e : 0 + suc i ≡ suc (0 + i) = omega arith in e) ∙ got_in [] ys zs i d (omega arith)
got_in (x ∷ xs) ys zs i d lt = ap (λ n. get_or (x ∷ (xs ++ (ys ++ zs))) n d) (let e : suc (length xs) + i ≡ suc (length xs + i) = omega arith in e) ∙ got_in xs ys zs i d lt

-- where the last one passes, all do
pub all_pass : {X : Type 0} (p : X → Bool) (xs : List X) (n : ℕ) → n ≡ length xs → 0 < n → HoldsAt (λ y. p y ≡ true) xs (n - 1) → IsPartitionedBy p xs → IsPartitionPoint (λ y. p y ≡ true) (λ y. p y ≡ false) xs n
all_pass p xs n e some q first = (λ k d a b. first k (n - 1) d (omega arith) (omega arith) (q d), λ k d a b. absurd (omega arith))

pub last_passes : {X : Type 0} (p : X → Bool) (xs : List X) (n : ℕ) (x : X) → n ≡ length xs → slice_get xs (length xs - 1) ≡ Some x → p x ≡ true → IsPartitionedBy p xs → IsPartitionPoint (λ y. p y ≡ true) (λ y. p y ≡ false) xs n
last_passes p [] n x e at t first = absurd (cc)
last_passes p (y ∷ ys) n x e at t first =
    let last : n - 1 ≡ length (y ∷ ys) - 1 = omega (arith, e) in
    all_pass p (y ∷ ys) n e (omega (arith, e)) (holds_at (λ y. p y ≡ true) (y ∷ ys) (n - 1) x (ap (slice_get (y ∷ ys)) last ∙ at) t) first

some_there : {X : Type 0} (xs : List X) (i : ℕ) → i < length xs → slice_get xs i ≡ None → ⊥
some_there [] i lt e = absurd (omega arith)
some_there (x ∷ xs) zero lt e = absurd (cc)
some_there (x ∷ xs) (suc i) lt e = some_there xs i (omega arith) e

-- where there is no last one, there is none
pub none_passes : {X : Type 0} (p : X → Bool) (xs : List X) → slice_get xs (length xs - 1) ≡ None → IsPartitionPoint (λ y. p y ≡ true) (λ y. p y ≡ false) xs 0
none_passes p [] e = (λ k d a b. absurd (omega arith), λ k d a b. absurd (omega arith))
none_passes p (x ∷ xs) e = absurd (some_there (x ∷ xs) (length (x ∷ xs) - 1) (omega arith) e)

-- the first of a run
pub run_first : {X : Type 0} (xs run : List X) (i : ℕ) → 0 < length run → take (length run) (drop i xs) ≡ run → slice_get run 0 ≡ slice_get xs i
run_first {X} xs run i some is = ap (λ ys. slice_get ys 0) (sym is) ∙ go xs i (length run) some
  where
    go : (xs : List X) (i n : ℕ) → 0 < n → slice_get (take n (drop i xs)) 0 ≡ slice_get xs i
    go xs i zero lt = absurd (omega arith)
    go [] zero (suc n) lt = refl
    go [] (suc i) (suc n) lt = refl
    go (x ∷ xs) zero (suc n) lt = refl
    go (x ∷ xs) (suc i) (suc n) lt = go xs i (suc n) lt

module _ {X : Type 0} (p : X → Bool) (ls : List (List X)) where
  pub record Halved (base size : ℕ) : Type 0 where
    pub low : (base ≡ 0) ⊎ HoldsAt (λ y. p y ≡ true) (joined ls) (start ls base)
    pub high : IsPartitionedBy p (joined ls) → AllWithin (λ y. p y ≡ false) (joined ls) (start ls (base + size)) (length (joined ls))

  pub begun : (size : ℕ) → size ≡ length ls → Halved 0 size
  begun size e = record { low = inl refl; high = λ first k d a b. absurd (omega (arith, a, b, start_all ls, ap (start ls) (let z : 0 + size ≡ length ls = omega arith in z))) }

  from_failing : (m low : ℕ) → m ≤ low → HoldsAt (λ y. p y ≡ false) (joined ls) m → IsPartitionedBy p (joined ls) → AllWithin (λ y. p y ≡ false) (joined ls) low (length (joined ls))
  from_failing m low h q first k d a b = false_from_ne_true (p (get_or (joined ls) k d)) (λ t. true≢false (sym (first m k d (omega arith) b t) ∙ q d))

  pub failed : (base size mid left : ℕ) → mid ≤ base + left → Halved base size → HoldsAt (λ y. p y ≡ false) (joined ls) (start ls mid) → Halved base left
  failed base size mid left h n q = record { low = n.low; high = from_failing (start ls mid) (start ls (base + left)) (start_rises ls mid (base + left) h) q }

  pub passed : (base size mid left : ℕ) → base + size ≤ mid + left → Halved base size → HoldsAt (λ y. p y ≡ true) (joined ls) (start ls mid) → Halved mid left
  passed base size mid left h n q = record { low = inr q; high = λ first k d a b. n.high first k d (omega (arith, a, start_rises ls (base + size) (mid + left) h)) b }

  module _ (base : ℕ) (lt : base < length ls) where
    abbrev own : List X
    own = list_at base ls

    all_length : length (joined ls) ≡ start ls base + (length own + length (joined (drop (suc base) ls)))
    all_length = ap length (joined_around ls base lt) ∙ length-append (joined (take base ls)) (own ++ joined (drop (suc base) ls)) ∙ ap (λ n. start ls base + n) (length-append own (joined (drop (suc base) ls)))

    own_at : (i : ℕ) (d : X) → i < length own → get_or (joined ls) (start ls base + i) d ≡ get_or own i d
    own_at i d less = ap (λ xs. get_or xs (start ls base + i) d) (joined_around ls base lt) ∙ got_in (joined (take base ls)) own (joined (drop (suc base) ls)) i d less

    pub own_parted : IsPartitionedBy p (joined ls) → IsPartitionedBy p own
    own_parted first i j d le less t =
        ap p (sym (own_at i d (omega arith)))
        ∙ first (start ls base + i) (start ls base + j) d (omega arith) (omega (arith, all_length)) (ap p (own_at j d less) ∙ t)

    pub within_all : (n : ℕ) → n ≤ length own → start ls base + n ≤ length (joined ls)
    within_all n le = omega (arith, le, all_length)

    pub found : (size n : ℕ) → size ≤ 1 → 0 < length own → n ≤ length own → Halved base size → IsPartitionedBy p (joined ls) → IsPartitionPoint (λ y. p y ≡ true) (λ y. p y ≡ false) own n
        → IsPartitionPoint (λ y. p y ≡ true) (λ y. p y ≡ false) (joined ls) (start ls base + n)
    found size n one some within h first point = (front, back)
      where
        inside : (k : ℕ) (d : X) → start ls base ≤ k → k < start ls base + length own → get_or (joined ls) k d ≡ get_or own (k - start ls base) d
        inside k d le less = ap (λ m. get_or (joined ls) m d) (let e : k ≡ start ls base + (k - start ls base) = omega arith in e) ∙ own_at (k - start ls base) d (omega arith)

        front : AllWithin (λ y. p y ≡ true) (joined ls) 0 (start ls base + n)
        front k d a b =
            elim (cases_lt k (start ls base)) [
              | inl less ↦ elim h.low [
                | inl e ↦ absurd (omega (arith, less, ap (start ls) e))
                | inr t ↦ first k (start ls base) d (omega (arith, less)) (omega (arith, all_length)) (t d)
              ]
              | inr le ↦ ap p (inside k d le (omega arith)) ∙ point.0 (k - start ls base) d (omega arith) (omega (arith, le))
            ]

        back : AllWithin (λ y. p y ≡ false) (joined ls) (start ls base + n) (length (joined ls))
        back k d a b =
            elim (cases_lt k (start ls base + length own)) [
              | inl less ↦ ap p (inside k d (omega arith) less) ∙ point.1 (k - start ls base) d (omega arith) (omega (arith, less))
              | inr le ↦ h.high first k d (omega (arith, le, start_next ls base, start_rises ls (base + size) (suc base) (omega arith))) b
            ]
