-- Cells by how often each is among them: cells in order are known by it, and so are those that are left of heaps.
use Rattle.std.proofs.Common.{◌≡◌, refl, ap, ap₂, sym, ◌∙◌, subst, Bool, true, false, cond, ℕ, zero, suc, ◌+◌, ◌<◌, ◌≤◌, arith, List, [], ◌∷◌, length, get_or, ◌++◌, Bor, Option, Some, None, ℤ, int_lt, is_ok, is_some, OnOk, Result, Ok, Err, true≢false, if◌then◌else◌}
use Rattle.std.{specs.BinaryHeap.{IsHeap, IsUpperBound, PopsGreatest}, specs.Cmp.{int_cmp_total, signed_Decides}, specs.List.AllByRecursion, specs.List.Sorted.{IsPermutation, IsSorted}, specs.Option.{option_copied, option_eq, option_to_list}, specs.Ordering.{int_cmp, int_eq, is_lt}, specs.declared.cmp.Ordering.TheVariants.{Less, Equal, Greater}, specs.Prelude.{IfSome, nat_lt, slice_get, unwrap_or}, proofs.lemmas.Bool.lt-ltb, proofs.HeapSift.{empty as heap_empty, greatest as heap_greatest}, proofs.lemmas.Int.ints, proofs.lemmas.List.Elements.recursion_from_All, proofs.lemmas.List.Sorted.{IsPermutation-to_front, ranks_by, sorted_far, sum_by-IsPermutation}, proofs.lemmas.List.Sums.sum_by-cons}
use Rattle.key_lists.proofs.Parts.{every_front}
use Rattle.row_groups.proofs.Order.{lt_from, lt_to, not_lt_from}
use Rattle.agg_by.{specs.Values.{Ascends, IsAmong, IsKept, IsSettled, count, in_order, last, left, placed, top, unplaced}, proofs.Ordered.{final, final_above, in_order_ascends, last_final, not_itself, placed_ascends, unplaced_ascends}}

-- whether two cells are the same, as a number
abbrev one : ℤ → ℤ → ℕ
one x y = cond (int_eq x y) 1 0

count_first : (v x : ℤ) (xs : List ℤ) → count v (x ∷ xs) ≡ one x v + count v xs
count_first v x xs = sum_by-cons (λ cell. cond (int_eq cell v) 1 0) x xs

count_permuted : (v : ℤ) (xs ys : List ℤ) → IsPermutation xs ys → count v ys ≡ count v xs
count_permuted v xs ys h = sum_by-IsPermutation (λ cell. cond (int_eq cell v) 1 0) xs ys h

count_pushed : (v x : ℤ) (xs ys : List ℤ) → IsPermutation (x ∷ xs) ys → count v ys ≡ one x v + count v xs
count_pushed v x xs ys h = count_permuted v (x ∷ xs) ys h ∙ count_first v x xs

count_popped : (v x : ℤ) (xs ys : List ℤ) → IsPermutation xs (x ∷ ys) → count v xs ≡ one x v + count v ys
count_popped v x xs ys h = sym (count_permuted v xs (x ∷ ys) h) ∙ count_first v x ys

one_own : (x : ℤ) → one x x ≡ 1
one_own x = ap (λ b. cond b 1 0) ((signed_Decides x x).1 refl)

one_same : (x y v : ℤ) → x ≡ y → one x v ≡ one y v
one_same x y v e = ap (λ z. one z v) e

one_less : (x y : ℤ) → int_lt x y ≡ true → one y x ≡ 0
one_less x y e = ap (λ b. cond b 1 0) (by (int_eq y x) refl)
  where
    by : (b : Bool) → int_eq y x ≡ b → b ≡ false
    by true f = absurd (omega (arith, ints, lt_from x y e, (signed_Decides y x).0 f))
    by false f = refl

same_by : (x y : ℤ) → int_lt x y ≡ false → int_lt y x ≡ false → x ≡ y
same_by x y e f = omega (arith, ints, not_lt_from x y e, not_lt_from y x f)

own_among : (x : ℤ) (xs : List ℤ) → IsAmong x (x ∷ xs)
own_among x xs = omega (arith, count_first x x xs, one_own x)

pub some_long : (v : ℤ) (xs : List ℤ) → IsAmong v xs → 0 < length xs
some_long v [] among = absurd (omega (arith, among))
some_long v (x ∷ xs) among = omega arith

-- what is said of the first cell and of the others is said of each that is among them
among_cases : (P : Type 0) (v x : ℤ) (xs : List ℤ) → IsAmong v (x ∷ xs) → (x ≡ v → P) → (IsAmong v xs → P) → P
among_cases P v x xs h first others = by (int_eq x v) refl
  where
    by : (b : Bool) → int_eq x v ≡ b → P
    by true e = first ((signed_Decides x v).0 e)
    by false e = let none : one x v ≡ 0 = ap (λ b. cond b 1 0) e in others (omega (arith, h, count_first v x xs, none))

-- one cell more
count-placed : (v x : ℤ) (ys : List ℤ) → count v (placed x ys) ≡ one x v + count v ys
count-placed v x [] = count_first v x []
count-placed v x (y ∷ ys) = by (int_lt y x) (count-placed v x ys)
  where
    by : (b : Bool) → count v (placed x ys) ≡ one x v + count v ys → count v (if b then y ∷ placed x ys else x ∷ y ∷ ys) ≡ one x v + count v (y ∷ ys)
    by true rest = omega (arith, count_first v y (placed x ys), rest, count_first v y ys)
    by false rest = count_first v x (y ∷ ys)

pub placed_among : (x : ℤ) (ys : List ℤ) → IsAmong x (placed x ys)
placed_among x ys = omega (arith, count-placed x x ys, one_own x)

count-in_order : (v : ℤ) (xs : List ℤ) → count v (in_order xs) ≡ count v xs
count-in_order v [] = refl
count-in_order v (x ∷ xs) = count-placed v x (in_order xs) ∙ ap (λ n. one x v + n) (count-in_order v xs) ∙ sym (count_first v x xs)

-- no cell is below the first
none_below : (x y : ℤ) (ys : List ℤ) → int_lt x y ≡ true → AllByRecursion (λ z. int_lt z y ≡ false) ys → count x ys ≡ 0
none_below x y [] e h = refl
none_below x y (z ∷ zs) e h = omega (arith, count_first x z zs, one_less x z (lt_to x z (omega (arith, ints, lt_from x y e, not_lt_from z y h.0))), none_below x y zs e h.1)

not_below : (x y : ℤ) (ys : List ℤ) → Ascends (y ∷ ys) → IsAmong x (y ∷ ys) → int_lt x y ≡ false
not_below x y ys h among = by (int_lt x y) refl
  where
    none : int_lt x y ≡ true → count x (y ∷ ys) ≡ 0
    none e = none_below x y (y ∷ ys) e (not_itself y, h.0)

    by : (b : Bool) → int_lt x y ≡ b → b ≡ false
    by true e = absurd (omega (arith, among, none e))
    by false e = refl

-- one cell less, that is there
count-unplaced : (v x : ℤ) (ys : List ℤ) → Ascends ys → IsAmong x ys → one x v + count v (unplaced x ys) ≡ count v ys
count-unplaced v x [] h among = absurd (omega (arith, among))
count-unplaced v x (y ∷ ys) h among = by (int_lt y x) refl (count-unplaced v x ys h.1)
  where
    by : (b : Bool) → int_lt y x ≡ b → (IsAmong x ys → one x v + count v (unplaced x ys) ≡ count v ys) → one x v + count v (if b then y ∷ unplaced x ys else ys) ≡ count v (y ∷ ys)
    by true e rest =
        let same = rest (among_cases (IsAmong x ys) x y ys among (λ same. absurd (omega (arith, ints, lt_from y x e, same))) (λ later. later)) in
        omega (arith, count_first v y (unplaced x ys), same, count_first v y ys)
    by false e rest = ap (λ n. n + count v ys) (one_same x y v (same_by x y (not_below x y ys h among) e)) ∙ sym (count_first v y ys)

-- cells in order are known by how often each is among them
same_counts : (xs ys : List ℤ) → Ascends xs → Ascends ys → ((v : ℤ) → count v xs ≡ count v ys) → xs ≡ ys
same_counts [] [] h k same = refl
same_counts [] (y ∷ ys) h k same = absurd (omega (arith, own_among y ys, same y))
same_counts (x ∷ xs) [] h k same = absurd (omega (arith, own_among x xs, same x))
same_counts (x ∷ xs) (y ∷ ys) h k same = ap₂ (λ z zs. z ∷ zs) first (same_counts xs ys h.1 k.1 others)
  where
    first : x ≡ y
    first = same_by x y (not_below x y ys k (subst (λ n. 0 < n) (same x) (own_among x xs))) (not_below y x xs h (subst (λ n. 0 < n) (sym (same y)) (own_among y ys)))

    others : (v : ℤ) → count v xs ≡ count v ys
    others v = omega (arith, one_same x y v first, count_first v x xs, same v, count_first v y ys)

-- what is left of the live cells
record IsLeft (live gone cells : List ℤ) : Type 0 where
  ascends : Ascends cells
  counts : (v : ℤ) → count v gone + count v cells ≡ count v live

left_counts : (live gone : List ℤ) → ((v : ℤ) → count v gone ≤ count v live) → IsLeft live gone (left live gone)
left_counts live [] h = record { ascends = in_order_ascends live; counts = λ v. omega (arith, count-in_order v live) }
left_counts live (g ∷ gone) h =
    let rest = left_counts live gone (λ v. omega (arith, count_first v g gone, h v)) in
    let there : IsAmong g (left live gone) = omega (arith, count_first g g gone, one_own g, h g, rest.counts g) in record {
      ascends = unplaced_ascends g (left live gone) rest.ascends;
      counts = λ v. omega (arith, count_first v g gone, count-unplaced v g (left live gone) rest.ascends there, rest.counts v);
    }

left_is : (live gone cells : List ℤ) → IsLeft live gone cells → left live gone ≡ cells
left_is live gone cells is =
    let all = left_counts live gone (λ v. omega (arith, is.counts v)) in
    same_counts (left live gone) cells all.ascends is.ascends (λ v. omega (arith, all.counts v, is.counts v))

-- what stands first in a heap is no less than the others
cmp_less : (x y : ℤ) → int_lt x y ≡ true → is_lt (int_cmp x y) ≡ true
cmp_less x y e = ap (λ b. is_lt (cond b Less (cond (int_lt y x) Greater Equal))) e

cmp_no_less : (x y : ℤ) → is_lt (int_cmp x y) ≡ false → int_lt x y ≡ false
cmp_no_less x y e = by (int_lt x y) refl
  where
    by : (b : Bool) → int_lt x y ≡ b → b ≡ false
    by true f = sym (cmp_less x y f) ∙ e
    by false f = refl

no_more : (x v : ℤ) (xs : List ℤ) → IsUpperBound int_cmp x xs → IsAmong v xs → int_lt x v ≡ false
no_more x v [] h among = absurd (omega (arith, among))
no_more x v (y ∷ ys) h among = among_cases (int_lt x v ≡ false) v y ys among (λ same. subst (λ z. int_lt x z ≡ false) same (cmp_no_less x y h.0)) (no_more x v ys h.1)

top_bounds : (xs : List ℤ) → IsHeap int_cmp xs → IsUpperBound int_cmp (top xs) xs
top_bounds xs h = heap_greatest int_cmp_total xs (top xs) (own xs) h
  where
    own : (xs : List ℤ) → top xs ≡ get_or xs 0 (top xs)
    own [] = refl
    own (x ∷ xs) = refl

no_greater : (xs : List ℤ) → IsHeap int_cmp xs → (v : ℤ) → IsAmong v xs → int_lt (top xs) v ≡ false
no_greater xs h v among = no_more (top xs) v xs (top_bounds xs h) among

top_among : (v : ℤ) (xs : List ℤ) → IsAmong v xs → IsAmong (top xs) xs
top_among v [] among = absurd (omega (arith, among))
top_among v (x ∷ xs) among = own_among x xs

-- where the greatest of the live cells has gone, it is the greatest of those that have
same_tops : (live gone : List ℤ) → IsKept live gone → IsAmong (top live) gone → top live ≡ top gone
same_tops live gone is among =
    let other = top_among (top live) gone among in
    same_by (top live) (top gone)
    (no_greater live is.live_heap (top gone) (omega (arith, other, is.among (top gone))))
    (no_greater gone is.gone_heap (top live) among)

-- a live cell comes, and the greatest has still not gone
stays_more : (live gone more : List ℤ) (x : ℤ) → IsSettled live gone → IsHeap int_cmp more → ((v : ℤ) → count v more ≡ one x v + count v live) → count (top more) gone ≡ 0
stays_more live gone more x is heap gains = by (count (top more) gone) refl
  where
    by : (n : ℕ) → count (top more) gone ≡ n → n ≡ 0
    by zero e = refl
    by (suc n) e = absurd (omega (arith, is.stays, ap (λ v. count v gone) same, e))
      where
        in_live : IsAmong (top more) live
        in_live = omega (arith, is.kept.among (top more), e)

        in_more : IsAmong (top live) more
        in_more = omega (arith, top_among (top more) live in_live, gains (top live))

        same : top live ≡ top more
        same = same_by (top live) (top more) (no_greater live is.kept.live_heap (top more) in_live) (no_greater more heap (top live) in_more)

pub settled_more : (live gone more : List ℤ) (x : ℤ) → IsSettled live gone → (IsHeap int_cmp live → IsHeap int_cmp more) → IsPermutation (x ∷ live) more → IsSettled more gone × (left more gone ≡ placed x (left live gone))
settled_more live gone more x is heap pushed =
    let was = left_counts live gone is.kept.among in (
      record {
        kept = record { live_heap = heap is.kept.live_heap; gone_heap = is.kept.gone_heap; among = λ v. omega (arith, is.kept.among v, gains v) };
        stays = stays_more live gone more x is (heap is.kept.live_heap) gains;
      },
      left_is more gone (placed x (left live gone)) (record {
        ascends = placed_ascends x (left live gone) was.ascends;
        counts = λ v. omega (arith, was.counts v, count-placed v x (left live gone), gains v);
      }),
    )
  where
    gains : (v : ℤ) → count v more ≡ one x v + count v live
    gains v = count_pushed v x live more pushed

-- whether what stands first in both is the same
pub has_gone : (live gone : List ℤ) (cell other : ℤ) → IsKept live gone → 0 < length live → 0 < length gone → cell ≡ get_or live 0 cell → other ≡ get_or gone 0 other → int_eq cell other ≡ nat_lt 0 (count (top live) gone)
has_gone [] gone cell other is some any first second = absurd (omega (arith, some))
has_gone (x ∷ xs) [] cell other is some any first second = absurd (omega (arith, any))
has_gone (x ∷ xs) (y ∷ ys) cell other is some any first second = ap₂ int_eq first second ∙ by (count x (y ∷ ys)) refl
  where
    differ : count x (y ∷ ys) ≡ 0 → (b : Bool) → int_eq x y ≡ b → b ≡ false
    differ none true e = absurd (omega (arith, own_among y ys, ap (λ v. count v (y ∷ ys)) ((signed_Decides x y).0 e), none))
    differ none false e = refl

    by : (n : ℕ) → count x (y ∷ ys) ≡ n → int_eq x y ≡ nat_lt 0 n
    by zero e = differ e (int_eq x y) refl
    by (suc n) e = (signed_Decides x y).1 (same_tops (x ∷ xs) (y ∷ ys) is (omega (arith, e))) ∙ sym (lt-ltb 0 (suc n) (omega arith))

pub none_gone : (v : ℤ) (live gone : List ℤ) → (0 < length live → ⊥) → count v gone ≤ count v live → false ≡ nat_lt 0 (count v gone)
none_gone v [] gone none among = by (count v gone) among
  where
    by : (n : ℕ) → n ≤ 0 → false ≡ nat_lt 0 n
    by zero h = refl
    by (suc n) h = absurd (omega (arith, h))
none_gone v (x ∷ xs) gone none among = absurd (none (omega arith))

-- the last of the cells in order
final_among : (x : ℤ) (xs : List ℤ) → IsAmong (final x xs) (x ∷ xs)
final_among x [] = own_among x []
final_among x (y ∷ ys) = omega (arith, final_among y ys, count_first (final y ys) x (y ∷ ys))

final_most : (x : ℤ) (xs : List ℤ) → Ascends (x ∷ xs) → (v : ℤ) → IsAmong v (x ∷ xs) → int_lt (final x xs) v ≡ false
final_most x [] h v among = among_cases (int_lt x v ≡ false) v x [] among (λ same. subst (λ z. int_lt x z ≡ false) same (not_itself x)) (λ none. absurd (omega (arith, none)))
final_most x (y ∷ ys) h v among = among_cases (int_lt (final y ys) v ≡ false) v x (y ∷ ys) among (λ same. subst (λ z. int_lt (final y ys) z ≡ false) same (final_above x (y ∷ ys) h)) (final_most y ys h.1 v)

last_by : (x : ℤ) (cells : List ℤ) → Ascends cells → IsAmong x cells → ((v : ℤ) → IsAmong v cells → int_lt x v ≡ false) → last cells ≡ Some x
last_by x [] h among most = absurd (omega (arith, among))
last_by x (y ∷ ys) h among most = last_final y ys ∙ ap Some (same_by (final y ys) x (final_most y ys h x among) (most (final y ys) (final_among y ys)))

none_left : (gone : List ℤ) → ((v : ℤ) → count v gone ≤ 0) → left [] gone ≡ []
none_left gone h = left_is [] gone [] (record { ascends = tt; counts = λ v. omega (arith, h v) })

-- the greatest cell that is left is what stands first
pub last_left : (live gone : List ℤ) → IsSettled live gone → last (left live gone) ≡ slice_get live 0
last_left [] gone is = ap last (none_left gone is.kept.among)
last_left (x ∷ xs) gone is =
    let all = left_counts (x ∷ xs) gone is.kept.among in
    last_by x (left (x ∷ xs) gone) all.ascends (omega (arith, own_among x xs, is.stays, all.counts x)) (λ v among. no_greater (x ∷ xs) is.kept.live_heap v (omega (arith, among, all.counts v)))

pub when_ok : {T E : Type 0} (r : Result T E) (P : Type 0) → is_ok r ≡ true → OnOk r P → P
when_ok (Err e) P ok h = absurd (true≢false (sym ok))
when_ok (Ok x) P ok h = h

-- what stands first is taken out of a heap
pub record IsPopped (xs ys : List ℤ) : Type 0 where
  pub counts : (v : ℤ) → count v xs ≡ one (top xs) v + count v ys
  pub heap : IsHeap int_cmp xs → IsHeap int_cmp ys

pub popped : (r : Option ℤ) (xs ys : List ℤ) → is_some r ≡ true → IfSome r (λ x. x ≡ get_or xs 0 x) → IfSome r (λ x. IsPermutation xs (x ∷ ys)) → IfSome r (λ x. PopsGreatest int_cmp xs x ys) → IsPopped xs ys
popped None xs ys some first moved order = absurd (true≢false (sym some))
popped (Some x) [] ys some first moved order = absurd (omega (arith, count_popped x x [] ys moved, one_own x))
popped (Some x) (y ∷ xs) ys some first moved order = record {
  counts = λ v. count_popped v x (y ∷ xs) ys moved ∙ ap (λ n. n + count v ys) (one_same x y v first);
  heap = λ h. (order h).0;
}

-- both heaps lose what stands first in them
pub kept_less : (live gone live' gone' : List ℤ) → IsKept live gone → IsAmong (top live) gone → IsPopped live live' → IsPopped gone gone' → IsKept live' gone' × (left live' gone' ≡ left live gone)
kept_less live gone live' gone' is among first other =
    let was = left_counts live gone is.among in (
      record {
        live_heap = first.heap is.live_heap;
        gone_heap = other.heap is.gone_heap;
        among = λ v. omega (arith, first.counts v, of_gone v, is.among v);
      },
      left_is live' gone' (left live gone) (record { ascends = was.ascends; counts = λ v. omega (arith, was.counts v, first.counts v, of_gone v) }),
    )
  where
    of_gone : (v : ℤ) → count v gone ≡ one (top live) v + count v gone'
    of_gone v = other.counts v ∙ ap (λ n. n + count v gone') (one_same (top gone) (top live) v (sym (same_tops live gone is among)))

-- a cell that is there goes
pub kept_gone : (live gone more : List ℤ) (x : ℤ) → IsSettled live gone → (IsHeap int_cmp gone → IsHeap int_cmp more) → IsPermutation (x ∷ gone) more → IsAmong x (left live gone) → IsKept live more × (left live more ≡ unplaced x (left live gone))
kept_gone live gone more x is heap pushed there =
    let was = left_counts live gone is.kept.among in
    let less = λ (v : ℤ). count-unplaced v x (left live gone) was.ascends there in (
      record {
        live_heap = is.kept.live_heap;
        gone_heap = heap is.kept.gone_heap;
        among = λ v. omega (arith, was.counts v, less v, count_pushed v x gone more pushed);
      },
      left_is live more (unplaced x (left live gone)) (record {
        ascends = unplaced_ascends x (left live gone) was.ascends;
        counts = λ v. omega (arith, was.counts v, less v, count_pushed v x gone more pushed);
      }),
    )

-- what a sort leaves of cells
sorted_ascends : (xs : List ℤ) → ((i j : ℕ) (d : ℤ) → i ≤ j → j < length xs → is_lt (int_cmp (get_or xs j d) (get_or xs i d)) ≡ false) → Ascends xs
sorted_ascends [] h = tt
sorted_ascends (x ∷ xs) h = (
  recursion_from_All (λ y. int_lt y x ≡ false) xs (λ k d within. cmp_no_less (get_or xs k d) x (h 0 (suc k) d (omega arith) (omega (arith, within)))),
  sorted_ascends xs (λ i j d le within. h (suc i) (suc j) d (omega (arith, le)) (omega (arith, within))),
)

pub sorted_in_order : (xs ys : List ℤ) → IsPermutation xs ys → IsSorted int_cmp ys → ys ≡ in_order xs
sorted_in_order xs ys moved sorted =
    let up = sorted_far (λ x y. is_lt (int_cmp x y)) (ranks_by int_cmp_total (λ (cell : ℤ). cell)) ys sorted in
    same_counts ys (in_order xs) (sorted_ascends ys up) (in_order_ascends xs) (λ v. count_permuted v xs ys moved ∙ sym (count-in_order v xs))

-- the last of cells is taken out
count_ended : (v x : ℤ) (xs ys : List ℤ) → xs ≡ ys ++ x ∷ [] → count v xs ≡ one x v + count v ys
count_ended v x xs ys e = ap (count v) e ∙ count_popped v x (ys ++ x ∷ []) ys (IsPermutation-to_front ys x)

final_end : (d x : ℤ) (ys : List ℤ) → final d (ys ++ x ∷ []) ≡ x
final_end d x [] = refl
final_end d x (y ∷ ys) = final_end y x ys

last_end : (x : ℤ) (ys : List ℤ) → last (ys ++ x ∷ []) ≡ Some x
last_end x [] = refl
last_end x (y ∷ ys) = last_final y (ys ++ x ∷ []) ∙ ap Some (final_end y x ys)

most_end : (x v : ℤ) (ys : List ℤ) → Ascends (ys ++ x ∷ []) → IsAmong v (ys ++ x ∷ []) → int_lt x v ≡ false
most_end x v [] h among = final_most x [] h v among
most_end x v (y ∷ ys) h among = subst (λ z. int_lt z v ≡ false) (final_end y x ys) (final_most y (ys ++ x ∷ []) h v among)

front_ascends : (x : ℤ) (ys : List ℤ) → Ascends (ys ++ x ∷ []) → Ascends ys
front_ascends x [] h = tt
front_ascends x (y ∷ ys) h = (every_front (λ z. int_lt z y ≡ false) ys (x ∷ []) h.0, front_ascends x ys h.1)

pub last_some : (x : ℤ) (xs : List ℤ) → last xs ≡ Some x → 0 < length xs
last_some x [] e = absurd (true≢false (sym (ap is_some e)))
last_some x (y ∷ xs) e = omega arith

pub last_taken : (x : ℤ) (xs ys : List ℤ) (r : Option ℤ) → last xs ≡ Some x → is_some r ≡ true → xs ≡ ys ++ option_to_list r → xs ≡ ys ++ x ∷ []
last_taken x xs ys None e some is = absurd (true≢false (sym some))
last_taken x xs ys (Some y) e some is = is ∙ ap (λ z. ys ++ z ∷ []) (ap (λ (z : Option ℤ). unwrap_or z y) (sym (last_end y ys) ∙ ap last (sym is) ∙ e))

pub last_same : (r : Option (Bor ℤ)) (x : Bor ℤ) → option_eq (λ (y z : Bor ℤ). int_eq y.now z.now) r (Some x) ≡ true → option_copied r ≡ Some x.now
last_same None x e = absurd (true≢false (sym e))
last_same (Some y) x e = ap Some ((signed_Decides y.now x.now).0 e)

pub last_other : (r : Option (Bor ℤ)) (x : Bor ℤ) → option_eq (λ (y z : Bor ℤ). int_eq y.now z.now) r (Some x) ≡ false → option_copied r ≡ Some x.now → ⊥
last_other None x e f = true≢false (sym (ap is_some f))
last_other (Some y) x e f = true≢false (sym ((signed_Decides y.now x.now).1 (ap (λ (z : Option ℤ). unwrap_or z y.now) f)) ∙ e)

-- the greatest of the live cells are gone over, and those of them that stay are the others
pub record AreParted (live gone others whole : List ℤ) : Type 0 where
  pub live_ascends : Ascends live
  pub gone_ascends : Ascends gone
  pub whole_ascends : Ascends whole
  pub among : (v : ℤ) → count v gone ≤ count v live
  pub counts : (v : ℤ) → count v others + count v live ≡ count v gone + count v whole

pub parted : (live gone live' gone' others whole : List ℤ) → IsSettled live gone → left live gone ≡ whole → live' ≡ in_order live → gone' ≡ in_order gone → others ≡ [] → AreParted live' gone' others whole
parted live gone live' gone' others whole is e all some none =
    let was = left_counts live gone is.kept.among in
    let of_live = λ (v : ℤ). ap (count v) all ∙ count-in_order v live in
    let of_gone = λ (v : ℤ). ap (count v) some ∙ count-in_order v gone in record {
      live_ascends = subst Ascends (sym all) (in_order_ascends live);
      gone_ascends = subst Ascends (sym some) (in_order_ascends gone);
      whole_ascends = subst Ascends e was.ascends;
      among = λ v. omega (arith, of_live v, of_gone v, is.kept.among v);
      counts = λ v. omega (arith, of_live v, of_gone v, was.counts v, ap (count v) e, ap (count v) none);
    }

-- the greatest has gone, or it has not
pub parted_gone : (live gone others whole live' gone' : List ℤ) (x : ℤ) → AreParted live gone others whole → live ≡ live' ++ x ∷ [] → gone ≡ gone' ++ x ∷ [] → AreParted live' gone' others whole
parted_gone live gone others whole live' gone' x is e f = record {
  live_ascends = front_ascends x live' (subst Ascends e is.live_ascends);
  gone_ascends = front_ascends x gone' (subst Ascends f is.gone_ascends);
  whole_ascends = is.whole_ascends;
  among = λ v. omega (arith, is.among v, count_ended v x live live' e, count_ended v x gone gone' f);
  counts = λ v. omega (arith, is.counts v, count_ended v x live live' e, count_ended v x gone gone' f);
}

pub parted_more : (live gone others whole live' others' : List ℤ) (x : ℤ) → AreParted live gone others whole → live ≡ live' ++ x ∷ [] → (last gone ≡ Some x → ⊥) → IsPermutation (x ∷ others) others' → AreParted live' gone others' whole
parted_more live gone others whole live' others' x is e differs pushed = record {
  live_ascends = front_ascends x live' (subst Ascends e is.live_ascends);
  gone_ascends = is.gone_ascends;
  whole_ascends = is.whole_ascends;
  among = λ v. among v (int_eq x v) refl;
  counts = λ v. omega (arith, is.counts v, count_ended v x live live' e, count_pushed v x others others' pushed);
}
  where
    most : (v : ℤ) → IsAmong v gone → int_lt x v ≡ false
    most v there = most_end x v live' (subst Ascends e is.live_ascends) (subst (IsAmong v) e (omega (arith, there, is.among v)))

    stays : (n : ℕ) → count x gone ≡ n → n ≡ 0
    stays zero f = refl
    stays (suc n) f = absurd (differs (last_by x gone is.gone_ascends (omega (arith, f)) most))

    among : (v : ℤ) (b : Bool) → int_eq x v ≡ b → count v gone ≤ count v live'
    among v true f = omega (arith, ap (λ z. count z gone) (sym ((signed_Decides x v).0 f)) ∙ stays (count x gone) refl)
    among v false f = let none : one x v ≡ 0 = ap (λ b. cond b 1 0) f in omega (arith, is.among v, count_ended v x live live' e, none)

-- all live cells are gone over
pub rebuilt : (live gone others whole none : List ℤ) → length live ≡ 0 → AreParted live gone others whole → IsHeap int_cmp others → none ≡ [] → IsSettled others none × (left others none ≡ whole)
rebuilt (x ∷ xs) gone others whole none long is heap e = absurd (omega (arith, long))
rebuilt [] gone others whole none long is heap e = subst (λ none. IsSettled others none × (left others none ≡ whole)) (sym e) (
  record { kept = record { live_heap = heap; gone_heap = heap_empty int_cmp_total [] refl; among = λ v. omega arith }; stays = refl },
  left_is others [] whole (record { ascends = is.whole_ascends; counts = λ v. omega (arith, is.among v, is.counts v) }),
)
