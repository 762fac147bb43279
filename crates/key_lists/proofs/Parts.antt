-- The parts of a list, the list around one of its elements, and what holds of them.
use Rattle.std.proofs.Common.{◌≡◌, ◌≢◌, refl, ap, sym, ◌∙◌, subst, Bool, true, false, ℕ, zero, suc, ◌+◌, ◌-◌, ◌<◌, ◌≤◌, arith, List, [], ◌∷◌, ◌++◌, length, map, take, drop, get_or, set, get_or-take, get_or-drop, length-drop, length-take-le, add-zero, Some, ◌==◌, true≢false}
use Rattle.std.{specs.Prelude.{insert, remove, slice_get}, specs.List.AllByRecursion, specs.List.Sorted.IsPartitionPoint, proofs.Math.Seq.split_at, proofs.lemmas.Bool.ne_eqb, proofs.lemmas.Option.{same_Some, none-some}, proofs.lemmas.List.take_more}
use Rattle.key_lists.proofs.Every.{every-append}

-- what holds of every element holds of those of a part
pub every-take : {X : Type 0} (P : X → Type 0) (n : ℕ) (xs : List X) → AllByRecursion P xs → AllByRecursion P (take n xs)
every-take P zero xs h = tt
every-take P (suc n) [] h = tt
every-take P (suc n) (x ∷ xs) h = (h.0, every-take P n xs h.1)

pub every-drop : {X : Type 0} (P : X → Type 0) (n : ℕ) (xs : List X) → AllByRecursion P xs → AllByRecursion P (drop n xs)
every-drop P zero xs h = h
every-drop P (suc n) [] h = tt
every-drop P (suc n) (x ∷ xs) h = every-drop P n xs h.1

pub every_front : {X : Type 0} (P : X → Type 0) (xs ys : List X) → AllByRecursion P (xs ++ ys) → AllByRecursion P xs
every_front P [] ys h = tt
every_front P (x ∷ xs) ys h = (h.0, every_front P xs ys h.1)

pub every_back : {X : Type 0} (P : X → Type 0) (xs ys : List X) → AllByRecursion P (xs ++ ys) → AllByRecursion P ys
every_back P [] ys h = h
every_back P (x ∷ xs) ys h = every_back P xs ys h.1

-- a part of which each place is known
pub every_before : {X : Type 0} (P : X → Type 0) (xs : List X) (i : ℕ) → ((k : ℕ) (d : X) → k < i → P (get_or xs k d)) → AllByRecursion P (take i xs)
every_before P xs zero h = tt
every_before P [] (suc i) h = tt
every_before P (x ∷ xs) (suc i) h = (h 0 x (omega arith), every_before P xs i (λ k d lt. h (suc k) d (omega arith)))

pub every_from : {X : Type 0} (P : X → Type 0) (xs : List X) (i : ℕ) → ((k : ℕ) (d : X) → i ≤ k → k < length xs → P (get_or xs k d)) → AllByRecursion P (drop i xs)
every_from P [] zero h = tt
every_from P (x ∷ xs) zero h = (h 0 x (omega arith) (omega arith), every_from P xs zero (λ k d le lt. h (suc k) d (omega arith) (omega arith)))
every_from P [] (suc i) h = tt
every_from P (x ∷ xs) (suc i) h = every_from P xs i (λ k d le lt. h (suc k) d (omega arith) (omega arith))

-- the two parts into which a search cuts a list
pub front_part : {X : Type 0} (p : X → Bool) (xs : List X) (i : ℕ) → IsPartitionPoint (λ x. p x ≡ true) (λ x. p x ≡ false) xs i → AllByRecursion (λ x. p x ≡ true) (take i xs)
front_part p xs i h = every_before (λ x. p x ≡ true) xs i (λ k d lt. h.0 k d (omega arith) lt)

pub back_part : {X : Type 0} (p : X → Bool) (xs : List X) (i : ℕ) → IsPartitionPoint (λ x. p x ≡ true) (λ x. p x ≡ false) xs i → AllByRecursion (λ x. p x ≡ false) (drop i xs)
back_part p xs i h = every_from (λ x. p x ≡ false) xs i (λ k d le lt. h.1 k d le lt)

-- an element at a place
pub every_at : {X : Type 0} (P : X → Type 0) (xs : List X) (i : ℕ) (d : X) → i < length xs → AllByRecursion P xs → P (get_or xs i d)
every_at P [] i d lt h = absurd (omega arith)
every_at P (x ∷ xs) zero d lt h = h.0
every_at P (x ∷ xs) (suc i) d lt h = every_at P xs i d (omega arith) h.1

pub some_at : {X : Type 0} (xs : List X) (i : ℕ) → i < length xs → (x : X) × (x ≡ get_or xs i x)
some_at [] i lt = absurd (omega arith)
some_at (x ∷ xs) zero lt = (x, refl)
some_at (x ∷ xs) (suc i) lt = some_at xs i (omega arith)

pub same_at : {X : Type 0} (xs : List X) (i : ℕ) (x y : X) → i < length xs → x ≡ get_or xs i x → y ≡ get_or xs i y → x ≡ y
same_at [] i x y lt p q = absurd (omega arith)
same_at (z ∷ xs) zero x y lt p q = p ∙ sym q
same_at (z ∷ xs) (suc i) x y lt p q = same_at xs i x y (omega arith) p q

pub last_taken : {X : Type 0} (P : X → Type 0) (xs : List X) (n : ℕ) (x : X) → n ≢ 0 → n ≤ length xs → x ≡ get_or xs (n - 1) x → AllByRecursion P (take n xs) → P x
last_taken P xs n x some le is h =
    subst P (get_or-take n xs (n - 1) x (omega arith) ∙ sym is) (every_at P (take n xs) (n - 1) x (omega (arith, length-take-le n xs le)) h)

pub first_left : {X : Type 0} (P : X → Type 0) (xs : List X) (n : ℕ) (x : X) → n < length xs → x ≡ get_or xs n x → AllByRecursion P (drop n xs) → P x
first_left P xs n x lt is h =
    subst P (get_or-drop n xs 0 x ∙ ap (λ i. get_or xs i x) (add-zero n) ∙ sym is) (every_at P (drop n xs) 0 x (omega (arith, length-drop n xs)) h)

-- a list around one of its elements, around another in its place, and around two
pub around : {X : Type 0} (xs : List X) (i : ℕ) (x : X) → i < length xs → x ≡ get_or xs i x → xs ≡ take i xs ++ x ∷ drop (suc i) xs
around xs i x lt is = split_at xs i x lt ∙ ap (λ y. take i xs ++ y ∷ drop (suc i) xs) (sym is)

pub set_around : {X : Type 0} (xs : List X) (i : ℕ) (x : X) → i < length xs → set xs i x ≡ take i xs ++ x ∷ drop (suc i) xs
set_around [] i x lt = absurd (omega arith)
set_around (y ∷ xs) zero x lt = refl
set_around (y ∷ xs) (suc i) x lt = ap (λ ys. y ∷ ys) (set_around xs i x (omega arith))

pub split_list : {X : Type 0} (old : List X) (index : ℕ) (left right : X) → index < length old → set (take (suc index) old ++ right ∷ drop (suc index) old) index left ≡ take index old ++ left ∷ right ∷ drop (suc index) old
split_list [] index left right lt = absurd (omega arith)
split_list (x ∷ old) zero left right lt = refl
split_list (x ∷ old) (suc index) left right lt = ap (λ xs. x ∷ xs) (split_list old index left right (omega arith))

-- lists with an element set, put in or taken out
pub every_set : {X : Type 0} (P : X → Type 0) (xs : List X) (i : ℕ) (x : X) → P x → AllByRecursion P xs → AllByRecursion P (set xs i x)
every_set P [] i x p h = tt
every_set P (y ∷ xs) zero x p h = (p, h.1)
every_set P (y ∷ xs) (suc i) x p h = (h.0, every_set P xs i x p h.1)

pub every_insert : {X : Type 0} (P : X → Type 0) (xs : List X) (i : ℕ) (x : X) → P x → AllByRecursion P xs → AllByRecursion P (insert xs i x)
every_insert P xs zero x p h = (p, h)
every_insert P [] (suc i) x p h = (p, tt)
every_insert P (y ∷ xs) (suc i) x p h = (h.0, every_insert P xs i x p h.1)

pub every_remove : {X : Type 0} (P : X → Type 0) (xs : List X) (i : ℕ) → AllByRecursion P xs → AllByRecursion P (remove xs i)
every_remove P [] zero h = tt
every_remove P [] (suc i) h = tt
every_remove P (y ∷ xs) zero h = h.1
every_remove P (y ∷ xs) (suc i) h = (h.0, every_remove P xs i h.1)

pub map_set : {X Y : Type 0} (f : X → Y) (xs : List X) (i : ℕ) (x : X) → map f (set xs i x) ≡ set (map f xs) i (f x)
map_set f [] i x = refl
map_set f (y ∷ xs) zero x = refl
map_set f (y ∷ xs) (suc i) x = ap (λ ys. f y ∷ ys) (map_set f xs i x)

-- an element put in the midst of three lists, taken from there, or found there
pub put_among : {X : Type 0} (xs ys zs : List X) (n m : ℕ) (x : X) → length xs + m ≡ n → m ≤ length ys → xs ++ ((take m ys ++ x ∷ drop m ys) ++ zs) ≡ take n (xs ++ (ys ++ zs)) ++ x ∷ drop n (xs ++ (ys ++ zs))
put_among [] [] zs n zero x e le = ap (λ k. take k zs ++ x ∷ drop k zs) e
put_among [] (y ∷ ys) zs n zero x e le = ap (λ k. take k (y ∷ (ys ++ zs)) ++ x ∷ drop k (y ∷ (ys ++ zs))) e
put_among [] [] zs n (suc m) x e le = absurd (omega arith)
put_among [] (y ∷ ys) zs zero (suc m) x e le = absurd (omega arith)
put_among [] (y ∷ ys) zs (suc n) (suc m) x e le = ap (λ rs. y ∷ rs) (put_among [] ys zs n m x (omega arith) (omega arith))
put_among (w ∷ xs) ys zs zero m x e le = absurd (omega arith)
put_among (w ∷ xs) ys zs (suc n) m x e le = ap (λ rs. w ∷ rs) (put_among xs ys zs n m x (omega arith) le)

pub taken_among : {X : Type 0} (xs ys zs : List X) (n m : ℕ) → length xs + m ≡ n → m < length ys → xs ++ ((take m ys ++ drop (suc m) ys) ++ zs) ≡ take n (xs ++ (ys ++ zs)) ++ drop (suc n) (xs ++ (ys ++ zs))
taken_among [] [] zs n m e lt = absurd (omega arith)
taken_among [] (y ∷ ys) zs n zero e lt = ap (λ k. take k (y ∷ (ys ++ zs)) ++ drop (suc k) (y ∷ (ys ++ zs))) e
taken_among [] (y ∷ ys) zs zero (suc m) e lt = absurd (omega arith)
taken_among [] (y ∷ ys) zs (suc n) (suc m) e lt = ap (λ rs. y ∷ rs) (taken_among [] ys zs n m (omega arith) (omega arith))
taken_among (w ∷ xs) ys zs zero m e lt = absurd (omega arith)
taken_among (w ∷ xs) ys zs (suc n) m e lt = ap (λ rs. w ∷ rs) (taken_among xs ys zs n m (omega arith) lt)

pub drop_among : {X : Type 0} (xs ys zs : List X) (n m : ℕ) → length xs + m ≡ n → m ≤ length ys → drop n (xs ++ (ys ++ zs)) ≡ drop m ys ++ zs
drop_among [] ys zs n zero e le = ap (λ k. drop k (ys ++ zs)) (sym e)
drop_among [] [] zs n (suc m) e le = absurd (omega arith)
drop_among [] (y ∷ ys) zs zero (suc m) e le = absurd (omega arith)
drop_among [] (y ∷ ys) zs (suc n) (suc m) e le = drop_among [] ys zs n m (omega arith) (omega arith)
drop_among (w ∷ xs) ys zs zero m e le = absurd (omega arith)
drop_among (w ∷ xs) ys zs (suc n) m e le = drop_among xs ys zs n m (omega arith) le

pub got_among : {X : Type 0} (xs ys zs : List X) (n m : ℕ) (x : X) → length xs + m ≡ n → m < length ys → x ≡ get_or ys m x → slice_get (xs ++ (ys ++ zs)) n ≡ Some x
got_among [] [] zs n m x e lt is = absurd (omega arith)
got_among [] (y ∷ ys) zs zero zero x e lt is = ap Some (sym is)
got_among [] (y ∷ ys) zs (suc n) zero x e lt is = absurd (omega arith)
got_among [] (y ∷ ys) zs zero (suc m) x e lt is = absurd (omega arith)
got_among [] (y ∷ ys) zs (suc n) (suc m) x e lt is = got_among [] ys zs n m x (omega arith) (omega arith) is
got_among (w ∷ xs) ys zs zero m x e lt is = absurd (omega arith)
got_among (w ∷ xs) ys zs (suc n) m x e lt is = got_among xs ys zs n m x (omega arith) lt is

pub drop_got : {X : Type 0} (xs : List X) (n : ℕ) (x : X) → slice_get xs n ≡ Some x → drop n xs ≡ x ∷ drop (suc n) xs
drop_got [] n x h = absurd (none-some x h)
drop_got (y ∷ xs) zero x h = ap (λ z. z ∷ xs) (same_Some y x h)
drop_got (y ∷ xs) (suc n) x h = drop_got xs n x h

-- a list of no length, the front of two lists, and no element of none
pub take_nil : {X : Type 0} (n : ℕ) → take {A = X} n [] ≡ []
take_nil zero = refl
take_nil (suc n) = refl

pub take_front : {X : Type 0} (xs ys : List X) → take (length xs) (xs ++ ys) ≡ xs
take_front [] ys = refl
take_front (x ∷ xs) ys = ap (λ zs. x ∷ zs) (take_front xs ys)

pub no_items : {X : Type 0} (xs : List X) → true ≡ (length xs == 0) → xs ≡ []
no_items [] e = refl
no_items (x ∷ xs) e = absurd (true≢false (e ∙ ne_eqb (suc (length xs)) 0 (λ f. omega arith)))

-- the first elements with one more, and what is left past the last
pub every_next : {X : Type 0} (P : X → Type 0) (xs : List X) (i : ℕ) (d : X) → i < length xs → P (get_or xs i d) → AllByRecursion P (take i xs) → AllByRecursion P (take (i + 1) xs)
every_next P xs i d lt own h = subst (AllByRecursion P) (sym (take_more xs i d lt)) (every-append P (take i xs) (get_or xs i d ∷ []) h (own, tt))

pub none_left : {X : Type 0} (P : X → Type 0) (xs : List X) (n : ℕ) → length xs ≤ n → AllByRecursion P (drop n xs)
none_left P [] zero le = tt
none_left P (x ∷ xs) zero le = absurd (omega arith)
none_left P [] (suc n) le = tt
none_left P (x ∷ xs) (suc n) le = none_left P xs n (omega arith)

pub every_got : {X : Type 0} (P : X → Type 0) (xs : List X) (i : ℕ) (x : X) → slice_get xs i ≡ Some x → AllByRecursion P xs → P x
every_got P [] i x at h = absurd (none-some x at)
every_got P (y ∷ xs) zero x at h = subst P (same_Some y x at) h.0
every_got P (y ∷ xs) (suc i) x at h = every_got P xs i x at h.1

pub get-append : {X : Type 0} (xs ys : List X) (n : ℕ) → slice_get (xs ++ ys) (length xs + n) ≡ slice_get ys n
get-append [] ys n = let same : 0 + n ≡ n = omega arith in ap (slice_get ys) same
get-append (x ∷ xs) ys n = let same : suc (length xs) + n ≡ suc (length xs + n) = omega arith in ap (slice_get (x ∷ (xs ++ ys))) same ∙ get-append xs ys n
