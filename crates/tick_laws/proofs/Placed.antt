-- Rows in stable order: where each stands, and that pairs of equal sort cells keep their order.
use Rattle.std.proofs.Common.{◌≡◌, refl, ap, ap₂, sym, ◌∙◌, subst, ℕ, ◌<◌, ◌≤◌, ◌+◌, ◌==◌, arith, Bool, true, false, cond, not, List, [], ◌∷◌, Option, Some, None, true≢false, inl, inr, filter, length, is_lt, ℤ, ◌||◌, unwrap_or}
use Rattle.std.{specs.Prelude.{find, filter_map, IfSome, option_map}, specs.List.{AllByRecursion, list_all, enumerate_from, cons_option}, specs.Cmp.{IsStrictWeakOrder, signed_Decides}, specs.Ordering.{ordering_then, int_eq}, proofs.lemmas.Bool.{and_parts, eqb-true, eq-eqb, ne_eqb, cases_eq}}
use Rattle.tick_model.{specs.declared.plan.SortBy.SortBy, specs.declared.table.PlainRow.PlainRow, specs.declared.update.KeyPair.KeyPair, specs.Tables.{cell, cells_at, keys, row_at, IsTable}, specs.Updates.{Tick, IsTick, old_keys, new_keys}, specs.Sort.{column_cmp, sort_cmp, place, in_order, numbered, same_place, place_of, place_pair, sort_pairs, sort_table}, proofs.Among.{rest_above, each_found}, proofs.SortOrders.{comes_before, comes_before_weak}, proofs.TableRows.{every-ordered, every-place}}
use Rattle.key_lists.{specs.Keys.{is_among, IsRising}, proofs.Every.{every_weaker, every_both, every-map, every_unmapped, every-filter, filter_passes}}

-- a row stands before another: its cells come first, or they tie and its key is less
abbrev pub Stands : List SortBy → PlainRow → PlainRow → Type 0
Stands by a b = (comes_before by b a ≡ false) × (comes_before by a b ≡ false → a.key < b.key)

abbrev pub IsPlaced : List SortBy → List PlainRow → Type 0
IsPlaced by [] = Unit {0}
IsPlaced by (row ∷ rows) = AllByRecursion (Stands by row) rows × IsPlaced by rows

module _ (by : List SortBy) where
  o : IsStrictWeakOrder (comes_before by)
  o = comes_before_weak by

  place_placed : (x : PlainRow) (xs : List PlainRow) → AllByRecursion (λ row. x.key < row.key) xs → IsPlaced by xs → IsPlaced by (place (comes_before by) x xs)
  place_placed x [] above h = (tt, tt)
  place_placed x (y ∷ ys) above h =
      (elim (comes_before by y x) as (λ b. comes_before by y x ≡ b → IsPlaced by (cond b (y ∷ place (comes_before by) x ys) (x ∷ y ∷ ys))) [
        | true ↦ λ less. (every-place (Stands by y) (comes_before by) x ys (o.one_way y x less, λ e. absurd (true≢false (sym less ∙ e))) h.0, place_placed x ys above.1 h.1)
        | false ↦ λ more. (((more, λ e. above.0), every_both (Stands by y) (λ row. x.key < row.key) (Stands by x) ys (λ z s k. (o.chain z y x s.0 more, λ e. k)) h.0 above.1), h)
      ]) refl

  pub every-in_order : (P : PlainRow → Type 0) (rows : List PlainRow) → AllByRecursion P rows → AllByRecursion P (in_order by rows)
  every-in_order P rows h = every-ordered P (comes_before by) rows h

  pub in_order_placed : (rows : List PlainRow) → IsRising (keys rows) → IsPlaced by (in_order by rows)
  in_order_placed [] r = tt
  in_order_placed (row ∷ rows) r =
      place_placed row (in_order by rows) (every-in_order (λ other. row.key < other.key) rows (rest_above row rows r)) (in_order_placed rows r.1)

  -- the row of a key is the same in either order
  exchange : (a b : Bool) (x y : Option PlainRow) (z : Option PlainRow) → (a ≡ true → b ≡ true → ⊥) → cond b y (cond a x z) ≡ cond a x (cond b y z)
  exchange true true x y z h = absurd (h refl refl)
  exchange true false x y z h = refl
  exchange false b x y z h = refl

  row_at-place : (key : ℕ) (x : PlainRow) (xs : List PlainRow) → AllByRecursion (λ row. x.key < row.key) xs → row_at key (place (comes_before by) x xs) ≡ row_at key (x ∷ xs)
  row_at-place key x [] above = refl
  row_at-place key x (y ∷ ys) above =
      elim (comes_before by y x) as (λ b. row_at key (cond b (y ∷ place (comes_before by) x ys) (x ∷ y ∷ ys)) ≡ row_at key (x ∷ y ∷ ys)) [
        | true ↦ ap (cond (y.key == key) (Some y)) (row_at-place key x ys above.1)
            ∙ exchange (x.key == key) (y.key == key) (Some x) (Some y) (row_at key ys) (λ s t. let e : x.key ≡ y.key = eqb-true x.key key s ∙ sym (eqb-true y.key key t) in omega (arith, e, above.0))
        | false ↦ refl
      ]

  pub row_at-in_order : (key : ℕ) (rows : List PlainRow) → IsRising (keys rows) → row_at key (in_order by rows) ≡ row_at key rows
  row_at-in_order key [] r = refl
  row_at-in_order key (row ∷ rows) r =
      row_at-place key row (in_order by rows) (every-in_order (λ other. row.key < other.key) rows (rest_above row rows r))
      ∙ ap (cond (row.key == key) (Some row)) (row_at-in_order key rows r.1)

  -- no row stands before itself, and no two before each other
  not_own : (a : PlainRow) → Stands by a a → ⊥
  not_own a s = let h : a.key < a.key = s.1 s.0 in omega (arith, h)

  not_both : (a b : PlainRow) → Stands by a b → Stands by b a → ⊥
  not_both a b s t = let h : a.key < b.key = s.1 t.0 in let k : b.key < a.key = t.1 s.0 in omega (arith, h, k)

  found_has : (P : PlainRow → Type 0) (key : ℕ) (row : PlainRow) (rows : List PlainRow) → AllByRecursion P rows → row_at key rows ≡ Some row → P row
  found_has P key row [] h e = absurd (cc)
  found_has P key row (first ∷ rows) h e =
      (elim (first.key == key) as (λ b. cond b (Some first) (row_at key rows) ≡ Some row → P row) [
        | true ↦ λ e. subst P (ap (λ o. elim o [ None ↦ first | Some x ↦ x ]) e) h.0
        | false ↦ λ e. found_has P key row rows h.1 e
      ]) e

  -- of two rows that are there, the one that stands before the other has the lesser place
  pub lesser_place : (a b : PlainRow) (m n : ℕ) (rows : List PlainRow) → IsPlaced by rows → row_at m rows ≡ Some a → row_at n rows ≡ Some b → Stands by a b → place_of m rows < place_of n rows
  lesser_place a b m n [] h p q s = absurd (cc)
  lesser_place a b m n (row ∷ rows) h p q s =
      go (row.key == m) (row.key == n) p q (λ p q. lesser_place a b m n rows h.1 p q s)
    where
      same : {x y : PlainRow} → Some x ≡ Some y → x ≡ y
      same {x} e = ap (λ (o : Option PlainRow). elim o [ None ↦ x | Some z ↦ z ]) e

      go : (bm bn : Bool) → cond bm (Some row) (row_at m rows) ≡ Some a → cond bn (Some row) (row_at n rows) ≡ Some b
          → (row_at m rows ≡ Some a → row_at n rows ≡ Some b → place_of m rows < place_of n rows)
          → cond (not bm) (1 + place_of m rows) 0 < cond (not bn) (1 + place_of n rows) 0
      go true true p q ih = absurd (not_own a (subst (Stands by a) (sym (same q) ∙ same p) s))
      go true false p q ih = omega arith
      go false true p q ih = absurd (not_both row a (found_has (Stands by row) m a rows h.0 p) (subst (Stands by a) (sym (same q)) s))
      go false false p q ih = let less = ih p q in omega (arith, less)

-- rows of equal sort cells stand alike to others
abbrev AlikeRows : List SortBy → PlainRow → PlainRow → Type 0
AlikeRows by a b = list_all (λ sort. int_eq (cell a.cells sort.column) (cell b.cells sort.column)) by ≡ true

alike_cmp : (by : List SortBy) (a a' b b' : PlainRow) → AlikeRows by a a' → AlikeRows by b b' → sort_cmp by a b ≡ sort_cmp by a' b'
alike_cmp [] a a' b b' s t = refl
alike_cmp (sort ∷ by) a a' b b' s t =
    let s' = and_parts _ _ s in
    let t' = and_parts _ _ t in
    ap₂ ordering_then
    (ap₂ (column_cmp sort) ((signed_Decides (cell a.cells sort.column) (cell a'.cells sort.column)).0 s'.0) ((signed_Decides (cell b.cells sort.column) (cell b'.cells sort.column)).0 t'.0))
    (alike_cmp by a a' b b' s'.1 t'.1)

pub stands_alike : (by : List SortBy) (a a' b b' : PlainRow) → AlikeRows by a a' → AlikeRows by b b' → (a.key < b.key → a'.key < b'.key) → Stands by a b → Stands by a' b'
stands_alike by a a' b b' s t keys st =
    (ap is_lt (sym (alike_cmp by b b' a a' t s)) ∙ st.0, λ e. keys (st.1 (ap is_lt (alike_cmp by a a' b b' s t) ∙ e)))

-- of two kept pairs, the one of the lesser old key has the lesser new key
pub pairs_rise : (kept : List KeyPair) → IsRising (old_keys kept) → IsRising (new_keys kept) → AllByRecursion (λ (p : KeyPair). AllByRecursion (λ (q : KeyPair). p.old < q.old → p.new < q.new) kept) kept
pairs_rise [] r s = tt
pairs_rise (x ∷ xs) r s = (
  (λ h. omega (arith, h), every_weaker (λ (q : KeyPair). x.new < q.new) (λ (q : KeyPair). x.old < q.old → x.new < q.new) xs (λ q h k. h) (every_unmapped (λ key. x.new < key) (λ (q : KeyPair). q.new) xs s.0)),
  every_both (λ (p : KeyPair). x.old < p.old) (λ (p : KeyPair). AllByRecursion (λ (q : KeyPair). p.old < q.old → p.new < q.new) xs) (λ (p : KeyPair). AllByRecursion (λ (q : KeyPair). p.old < q.old → p.new < q.new) (x ∷ xs)) xs
      (λ p above rest. (λ h. omega (arith, h, above), rest)) (every_unmapped (λ key. x.old < key) (λ (p : KeyPair). p.old) xs r.0) (pairs_rise xs r.1 s.1),
)

pub find_has : (P : KeyPair → Type 0) (t : KeyPair → Bool) (xs : List KeyPair) → AllByRecursion P xs → IfSome (find t xs) (λ p. P p × (t p ≡ true))
find_has P t [] h = tt
find_has P t (x ∷ xs) h =
    (elim (t x) as (λ b. t x ≡ b → IfSome (cond b (Some x) (find t xs)) (λ p. P p × (t p ≡ true))) [ true ↦ λ e. (h.0, e) | false ↦ λ e. find_has P t xs h.1 ]) refl

-- a key that is there has a row
among_found : (key : ℕ) (rows : List PlainRow) → is_among key (keys rows) ≡ true → (row : PlainRow) × (row_at key rows ≡ Some row) × (row.key ≡ key)
among_found key [] h = absurd (true≢false (sym h))
among_found key (row ∷ rows) h = go (row.key == key) refl (λ e. among_found key rows (sym (ap (λ b. b || is_among key (keys rows)) e) ∙ h))
  where
    go : (b : Bool) → (row.key == key) ≡ b → ((row.key == key) ≡ false → (other : PlainRow) × (row_at key rows ≡ Some other) × (other.key ≡ key)) → (other : PlainRow) × (row_at key (row ∷ rows) ≡ Some other) × (other.key ≡ key)
    go true e rest = (row, ap (λ b. cond b (Some row) (row_at key rows)) e, eqb-true row.key key e)
    go false e rest = let found = rest e in (found.0, ap (λ b. cond b (Some row) (row_at key rows)) e ∙ found.1, found.2)

module _ (by : List SortBy) (input : Tick) (h : IsTick input) where
  abbrev target : List PlainRow
  target = in_order by input.new.rows

  abbrev kept : List KeyPair
  kept = filter (same_place by input) input.kept

  abbrev Found : PlainRow → Type 0
  Found row = row_at row.key input.old.rows ≡ Some row

  -- what is known of a pair, and of one of equal sort cells
  abbrev Rises : KeyPair → Type 0
  Rises pair = (is_among pair.new (keys input.new.rows) ≡ true) × AllByRecursion (λ (q : KeyPair). pair.old < q.old → pair.new < q.new) input.kept

  abbrev IsGood : KeyPair → Type 0
  IsGood pair = (same_place by input pair ≡ true) × (is_among pair.new (keys input.new.rows) ≡ true) × AllByRecursion (λ (q : KeyPair). pair.old < q.old → pair.new < q.new) input.kept

  each_good : AllByRecursion IsGood kept
  each_good =
      every_both (λ (p : KeyPair). same_place by input p ≡ true) Rises IsGood kept (λ p same rises. (same, rises.0, rises.1)) (filter_passes (same_place by input) input.kept)
      (every-filter Rises (same_place by input) input.kept
      (every_both (λ (p : KeyPair). is_among p.new (keys input.new.rows) ≡ true) (λ (p : KeyPair). AllByRecursion (λ (q : KeyPair). p.old < q.old → p.new < q.new) input.kept) Rises input.kept (λ p there rise. (there, rise))
      (every_unmapped (λ key. is_among key (keys input.new.rows) ≡ true) (λ (p : KeyPair). p.new) input.kept h.of_new) (pairs_rise input.kept h.rising_old h.rising_new)))

  -- a row and the new row of its pair have equal sort cells
  alike : (a a' : PlainRow) (p : KeyPair) → Found a → p.old ≡ a.key → row_at p.new input.new.rows ≡ Some a' → same_place by input p ≡ true → AlikeRows by a a'
  alike a a' p f e g s =
      ap₂ (λ xs ys. list_all (λ (sort : SortBy). int_eq (cell xs sort.column) (cell ys sort.column)) by)
      (sym (ap (λ key. cells_at key input.old.rows) e ∙ ap (λ o. cells_of o) f)) (sym (ap (λ o. cells_of o) g))
      ∙ s
    where
      cells_of : Option PlainRow → List ℤ
      cells_of o = unwrap_or (option_map (λ (row : PlainRow). row.cells) o) []

  -- the new places of two rows' pairs
  places_rise : (a b : PlainRow) (p q : KeyPair) → Found a → Found b → Stands by a b → p.old ≡ a.key → q.old ≡ b.key → IsGood p → IsGood q → (p.old < q.old → p.new < q.new) → place_of p.new target < place_of q.new target
  places_rise a b p q fa fb st ep eq gp gq rise =
      let new_a = among_found p.new input.new.rows gp.1 in
      let new_b = among_found q.new input.new.rows gq.1 in
      lesser_place by new_a.0 new_b.0 p.new q.new target (in_order_placed by input.new.rows h.new_table.rising)
      (row_at-in_order by p.new input.new.rows h.new_table.rising ∙ new_a.1)
      (row_at-in_order by q.new input.new.rows h.new_table.rising ∙ new_b.1)
      (stands_alike by a new_a.0 b new_b.0 (alike a new_a.0 p fa ep new_a.1 gp.0) (alike b new_b.0 q fb eq new_b.1 gq.0)
      (λ less. let old_less : p.old < q.old = omega (arith, less, ep, eq) in omega (arith, rise old_less, new_a.2, new_b.2)) st)

  -- the pairs of places from a place on
  abbrev from : ℕ → List PlainRow → List KeyPair
  from n rows = filter_map (place_pair target kept) (enumerate_from n rows)

  abbrev looked_up : PlainRow → Option KeyPair
  looked_up row = find (λ (pair : KeyPair). pair.old == row.key) kept

  from_old : (n : ℕ) (rows : List PlainRow) → AllByRecursion (λ (r : KeyPair). (n ≤ r.old) × (r.old < n + length rows)) (from n rows)
  from_old n [] = tt
  from_old n (row ∷ rows) = go (looked_up row) (every_weaker (λ (r : KeyPair). (n + 1 ≤ r.old) × (r.old < n + 1 + length rows)) (λ (r : KeyPair). (n ≤ r.old) × (r.old < n + length (row ∷ rows))) (from (n + 1) rows) (λ r k. (omega (arith, k.0), omega (arith, k.1))) (from_old (n + 1) rows))
    where
      go : (o : Option KeyPair) → AllByRecursion (λ (r : KeyPair). (n ≤ r.old) × (r.old < n + length (row ∷ rows))) (from (n + 1) rows) → AllByRecursion (λ (r : KeyPair). (n ≤ r.old) × (r.old < n + length (row ∷ rows))) (cons_option (option_map (λ (pair : KeyPair). let placed : KeyPair = record { old = n; new = place_of pair.new target } in placed) o) (from (n + 1) rows))
      go None k = k
      go (Some p) k = ((omega arith, omega arith), k)

  from_rising_old : (n : ℕ) (rows : List PlainRow) → IsRising (old_keys (from n rows))
  from_rising_old n [] = tt
  from_rising_old n (row ∷ rows) = go (looked_up row) (from_rising_old (n + 1) rows)
    where
      go : (o : Option KeyPair) → IsRising (old_keys (from (n + 1) rows)) → IsRising (old_keys (cons_option (option_map (λ (pair : KeyPair). let placed : KeyPair = record { old = n; new = place_of pair.new target } in placed) o) (from (n + 1) rows)))
      go None rest = rest
      go (Some p) rest = (every-map (λ key. n < key) (λ (r : KeyPair). r.old) (from (n + 1) rows) (every_weaker (λ (r : KeyPair). (n + 1 ≤ r.old) × (r.old < n + 1 + length rows)) (λ (r : KeyPair). n < r.old) (from (n + 1) rows) (λ r k. omega (arith, k.0)) (from_old (n + 1) rows)), rest)

  -- the new places after that of a row's pair are greater
  from_above : (a : PlainRow) (p : KeyPair) → Found a → p.old ≡ a.key → IsGood p → (n : ℕ) (rows : List PlainRow) → AllByRecursion Found rows → AllByRecursion (Stands by a) rows → AllByRecursion (λ (r : KeyPair). place_of p.new target < r.new) (from n rows)
  from_above a p fa ep gp n [] f st = tt
  from_above a p fa ep gp n (row ∷ rows) f st =
      go (looked_up row) (find_has (λ (q : KeyPair). IsGood q × (p.old < q.old → p.new < q.new)) (λ (q : KeyPair). q.old == row.key) kept
      (every_both IsGood (λ (q : KeyPair). p.old < q.old → p.new < q.new) (λ (q : KeyPair). IsGood q × (p.old < q.old → p.new < q.new)) kept (λ q g k. (g, k)) each_good (every-filter (λ (q : KeyPair). p.old < q.old → p.new < q.new) (same_place by input) input.kept gp.2)))
      (from_above a p fa ep gp (n + 1) rows f.1 st.1)
    where
      go : (o : Option KeyPair) → IfSome o (λ (q : KeyPair). (IsGood q × (p.old < q.old → p.new < q.new)) × ((q.old == row.key) ≡ true)) → AllByRecursion (λ (r : KeyPair). place_of p.new target < r.new) (from (n + 1) rows)
          → AllByRecursion (λ (r : KeyPair). place_of p.new target < r.new) (cons_option (option_map (λ (pair : KeyPair). let placed : KeyPair = record { old = n; new = place_of pair.new target } in placed) o) (from (n + 1) rows))
      go None k rest = rest
      go (Some q) k rest = (places_rise a row p q fa f.0 st.0 ep (eqb-true q.old row.key k.1) gp k.0.0 k.0.1, rest)

  from_rising_new : (n : ℕ) (rows : List PlainRow) → AllByRecursion Found rows → IsPlaced by rows → IsRising (new_keys (from n rows))
  from_rising_new n [] f st = tt
  from_rising_new n (row ∷ rows) f st = go (looked_up row) (find_has IsGood (λ (q : KeyPair). q.old == row.key) kept each_good) (from_rising_new (n + 1) rows f.1 st.1)
    where
      go : (o : Option KeyPair) → IfSome o (λ (q : KeyPair). IsGood q × ((q.old == row.key) ≡ true)) → IsRising (new_keys (from (n + 1) rows)) → IsRising (new_keys (cons_option (option_map (λ (pair : KeyPair). let placed : KeyPair = record { old = n; new = place_of pair.new target } in placed) o) (from (n + 1) rows)))
      go None k rest = rest
      go (Some q) k rest = (every-map (λ key. place_of q.new target < key) (λ (r : KeyPair). r.new) (from (n + 1) rows) (from_above row q f.0 (eqb-true q.old row.key k.1) k.0 (n + 1) rows f.1 st.0), rest)

  -- a row that is there has a place
  place_within : (key : ℕ) (row : PlainRow) (rows : List PlainRow) → row_at key rows ≡ Some row → place_of key rows < length rows
  place_within key row [] e = absurd (cc)
  place_within key row (first ∷ rows) e =
      (elim (first.key == key) as (λ b. cond b (Some first) (row_at key rows) ≡ Some row → cond (not b) (1 + place_of key rows) 0 < length (first ∷ rows)) [
        | true ↦ λ e. omega arith
        | false ↦ λ e. let rest = place_within key row rows e in omega (arith, rest)
      ]) e

  from_new : (n : ℕ) (rows : List PlainRow) → AllByRecursion (λ (r : KeyPair). r.new < length target) (from n rows)
  from_new n [] = tt
  from_new n (row ∷ rows) = go (looked_up row) (find_has IsGood (λ (q : KeyPair). q.old == row.key) kept each_good) (from_new (n + 1) rows)
    where
      go : (o : Option KeyPair) → IfSome o (λ (q : KeyPair). IsGood q × ((q.old == row.key) ≡ true)) → AllByRecursion (λ (r : KeyPair). r.new < length target) (from (n + 1) rows) → AllByRecursion (λ (r : KeyPair). r.new < length target) (cons_option (option_map (λ (pair : KeyPair). let placed : KeyPair = record { old = n; new = place_of pair.new target } in placed) o) (from (n + 1) rows))
      go None k rest = rest
      go (Some q) k rest =
          let there = among_found q.new input.new.rows k.0.1 in
          (place_within q.new there.0 target (row_at-in_order by q.new input.new.rows h.new_table.rising ∙ there.1), rest)

  numbered_among : (n key : ℕ) (rows : List PlainRow) → n ≤ key → key < n + length rows → is_among key (keys (numbered n rows)) ≡ true
  numbered_among n key [] low high = absurd (omega (arith, low, high))
  numbered_among n key (row ∷ rows) low high =
      elim (cases_eq n key) [
        | inl e ↦ ap (λ b. b || is_among key (keys (numbered (n + 1) rows))) (eq-eqb n key e)
        | inr e ↦ ap (λ b. b || is_among key (keys (numbered (n + 1) rows))) (ne_eqb n key e) ∙ numbered_among (n + 1) key rows (omega (arith, low, e)) (omega (arith, high))
      ]

  -- the pairs of places are those of a tick
  pub sort_keeps : IsTable (sort_table by input.old) → IsTable (sort_table by input.new) → let tick : Tick = record { old = sort_table by input.old; new = sort_table by input.new; kept = sort_pairs by input } in IsTick tick
  sort_keeps o n = record {
    old_table = o;
    new_table = n;
    one_width = h.one_width;
    of_old = every-map (λ key. is_among key (keys (numbered 0 (in_order by input.old.rows))) ≡ true) (λ (r : KeyPair). r.old) placed (every_weaker (λ (r : KeyPair). (0 ≤ r.old) × (r.old < 0 + length (in_order by input.old.rows))) (λ (r : KeyPair). is_among r.old (keys (numbered 0 (in_order by input.old.rows))) ≡ true) placed (λ r k. numbered_among 0 r.old (in_order by input.old.rows) k.0 k.1) (from_old 0 (in_order by input.old.rows)));
    of_new = every-map (λ key. is_among key (keys (numbered 0 target)) ≡ true) (λ (r : KeyPair). r.new) placed (every_weaker (λ (r : KeyPair). r.new < length target) (λ (r : KeyPair). is_among r.new (keys (numbered 0 target)) ≡ true) placed (λ r k. numbered_among 0 r.new target (omega arith) (omega (arith, k))) (from_new 0 (in_order by input.old.rows)));
    rising_old = from_rising_old 0 (in_order by input.old.rows);
    rising_new = from_rising_new 0 (in_order by input.old.rows) (every-in_order by Found input.old.rows (each_found input.old.rows h.old_table.rising)) (in_order_placed by input.old.rows h.old_table.rising);
  }
    where
      placed : List KeyPair
      placed = from 0 (in_order by input.old.rows)
