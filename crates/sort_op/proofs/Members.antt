-- Entries by their keys: which of them are those of rows, under some keys or in order.
use Rattle.std.proofs.Common.{◌≡◌, refl, ap, ap₂, sym, ◌∙◌, subst, Bool, true, false, cond, ◌&&◌, ◌||◌, ◌==◌, ℕ, ◌≤◌, arith, List, [], ◌∷◌, map, filter, length, Option, Some, unwrap_or, true≢false, inl, inr, is_lt}
use Rattle.std.{specs.Prelude.option_map, specs.List.{AllByRecursion, list_any}, proofs.lemmas.Bool.{and_left, and_parts, and_right, cases_Bool, cases_eq, eqb-false, eqb-true, eq-eqb, ne_eqb, or_cases, or_parts}, proofs.lemmas.List.Sums.length-filter}
use Rattle.key_lists.{specs.Keys.{is_among, IsRising}, proofs.Among.among_below, proofs.Every.{every_weaker, filter_none, map_map, map_same, any-map}, proofs.Booleans.{or_swap, same_truth, or_true}}
use Rattle.tick_model.{specs.declared.plan.SortBy.SortBy, specs.declared.table.PlainRow.PlainRow, specs.declared.table.PlainTable.PlainTable, specs.Sort.{in_order, ordered, place, sort_cmp}, specs.Tables.{keys, row_at, same_cells}, proofs.Among.each_found}
use Rattle.sort_op.{specs.declared.entry.Entry.Entry, specs.Entries.{AreDistinct, is_in, is_same, keys_in}, specs.Places.AreApart, specs.Reading.{entries_under, entry_under, entry_with}, specs.Sorted.{entries_of, entry_of}, proofs.Comparing.same_is, proofs.Inserted.in_none, proofs.SortedRows.own_in}

any-place : {X : Type 0} (p : X → Bool) (less : X → X → Bool) (x : X) (xs : List X) → list_any p (place less x xs) ≡ (p x || list_any p xs)
any-place p less x [] = refl
any-place p less x (y ∷ ys) =
    elim (less y x) as (λ b. list_any p (cond b (y ∷ place less x ys) (x ∷ y ∷ ys)) ≡ (p x || (p y || list_any p ys))) [
      | true ↦ ap (λ b. p y || b) (any-place p less x ys) ∙ or_swap (p y) (p x) (list_any p ys)
      | false ↦ refl
    ]

-- what is in a list is in it in order
pub any-ordered : {X : Type 0} (p : X → Bool) (less : X → X → Bool) (xs : List X) → list_any p (ordered less xs) ≡ list_any p xs
any-ordered p less [] = refl
any-ordered p less (x ∷ xs) = any-place p less x (ordered less xs) ∙ ap (λ b. p x || b) (any-ordered p less xs)

pub apart_rising : (keys : List ℕ) → IsRising keys → AreApart keys
apart_rising [] r = tt
apart_rising (key ∷ keys) r = (among_below key keys r.0, apart_rising keys r.1)

pub unequal_flip : (a b : ℕ) → (a == b) ≡ false → (b == a) ≡ false
unequal_flip a b e = ne_eqb b a (λ same. eqb-false a b e (sym same))

module _ {X : Type 0} (f : X → ℕ) (less : X → X → Bool) where
  among-place : (key : ℕ) (x : X) (xs : List X) → is_among key (map f (place less x xs)) ≡ ((f x == key) || is_among key (map f xs))
  among-place key x xs =
      any-map (λ other. other == key) f (place less x xs)
      ∙ any-place (λ y. f y == key) less x xs
      ∙ ap (λ b. (f x == key) || b) (sym (any-map (λ other. other == key) f xs))

  pub among-ordered : (key : ℕ) (xs : List X) → is_among key (map f (ordered less xs)) ≡ is_among key (map f xs)
  among-ordered key xs =
      any-map (λ other. other == key) f (ordered less xs)
      ∙ any-ordered (λ y. f y == key) less xs
      ∙ sym (any-map (λ other. other == key) f xs)

  apart-place : (x : X) (xs : List X) → is_among (f x) (map f xs) ≡ false → AreApart (map f xs) → AreApart (map f (place less x xs))
  apart-place x [] out apart = (refl, tt)
  apart-place x (y ∷ ys) out apart =
      let parts = or_parts (f y == f x) (is_among (f x) (map f ys)) out in
      elim (less y x) as (λ b. AreApart (map f (cond b (y ∷ place less x ys) (x ∷ y ∷ ys)))) [
        | true ↦ (among-place (f y) x ys ∙ ap₂ (λ a b. a || b) (unequal_flip (f y) (f x) parts.0) apart.0, apart-place x ys parts.1 apart.1)
        | false ↦ (out, apart)
      ]

  pub apart-ordered : (xs : List X) → AreApart (map f xs) → AreApart (map f (ordered less xs))
  apart-ordered [] h = tt
  apart-ordered (x ∷ xs) h = apart-place x (ordered less xs) (among-ordered (f x) xs ∙ h.0) (apart-ordered xs h.1)

-- entries that pass a test
in_filter_step : (b s t n m : Bool) → (s ≡ true → b ≡ t) → n ≡ (t && m) → cond b (s || n) n ≡ (t && (s || m))
in_filter_step true true true n m h e = refl
in_filter_step true true false n m h e = absurd (true≢false (h refl))
in_filter_step true false t n m h e = e
in_filter_step false true true n m h e = absurd (true≢false (sym (h refl)))
in_filter_step false true false n m h e = e
in_filter_step false false t n m h e = e

pub in_filter : (q : Entry → Bool) (entry : Entry) (entries : List Entry) → is_in entry (filter q entries) ≡ (q entry && is_in entry entries)
in_filter q entry [] = sym (and_right (q entry) false refl)
in_filter q entry (x ∷ xs) =
    spread (q x)
    ∙ in_filter_step (q x) (is_same x entry) (q entry) (is_in entry (filter q xs)) (is_in entry xs) (λ same. ap q (same_is x entry same)) (in_filter q entry xs)
  where
    spread : (b : Bool) → is_in entry (cond b (x ∷ filter q xs) (filter q xs)) ≡ cond b (is_same x entry || is_in entry (filter q xs)) (is_in entry (filter q xs))
    spread true = refl
    spread false = refl

-- a test that one of the entries passes, where another list has each of them
any_known : (p : Entry → Bool) (x : Entry) (ys : List Entry) → is_in x ys ≡ true → p x ≡ true → list_any p ys ≡ true
any_known p x [] h e = absurd (true≢false (sym h))
any_known p x (y ∷ ys) h e =
    elim (or_cases (is_same y x) (is_in x ys) h) [
      | inl same ↦ ap (λ b. b || list_any p ys) (ap p (same_is y x same) ∙ e)
      | inr rest ↦ ap (λ b. p y || b) (any_known p x ys rest e) ∙ or_true (p y)
    ]

any_from : (p : Entry → Bool) (xs ys : List Entry) → AllByRecursion (λ x. is_in x ys ≡ true) xs → list_any p xs ≡ true → list_any p ys ≡ true
any_from p [] ys h e = absurd (true≢false (sym e))
any_from p (x ∷ xs) ys h e =
    elim (or_cases (p x) (list_any p xs) e) [
      | inl own ↦ any_known p x ys h.0 own
      | inr rest ↦ any_from p xs ys h.1 rest
    ]

each_in : (xs : List Entry) → AllByRecursion (λ x. is_in x xs ≡ true) xs
each_in [] = tt
each_in (x ∷ xs) =
    (own_in x xs, every_weaker (λ y. is_in y xs ≡ true) (λ y. is_in y (x ∷ xs) ≡ true) xs (λ y h. ap (λ b. is_same x y || b) h ∙ or_true (is_same x y)) (each_in xs))

pub any_same : (p : Entry → Bool) (xs ys : List Entry) → ((x : Entry) → is_in x xs ≡ is_in x ys) → list_any p xs ≡ list_any p ys
any_same p xs ys h =
    same_truth (list_any p xs) (list_any p ys)
    (any_from p xs ys (every_weaker (λ x. is_in x xs ≡ true) (λ x. is_in x ys ≡ true) xs (λ x e. sym (h x) ∙ e) (each_in xs)))
    (any_from p ys xs (every_weaker (λ x. is_in x ys ≡ true) (λ x. is_in x xs ≡ true) ys (λ x e. h x ∙ e) (each_in ys)))

pub in_map_same : (f : Entry → Entry) (xs ys : List Entry) → ((x : Entry) → is_in x xs ≡ is_in x ys) → (entry : Entry) → is_in entry (map f xs) ≡ is_in entry (map f ys)
in_map_same f xs ys h entry =
    any-map (λ other. is_same other entry) f xs
    ∙ any_same (λ x. is_same (f x) entry) xs ys h
    ∙ sym (any-map (λ other. is_same other entry) f ys)

pub among_same : (xs ys : List Entry) → ((x : Entry) → is_in x xs ≡ is_in x ys) → (key : ℕ) → is_among key (keys_in xs) ≡ is_among key (keys_in ys)
among_same xs ys h key =
    any-map (λ other. other == key) (λ (x : Entry). x.key) xs
    ∙ any_same (λ x. x.key == key) xs ys h
    ∙ sym (any-map (λ other. other == key) (λ (x : Entry). x.key) ys)

under_own : (s a : Bool) → (s || (a && s)) ≡ s
under_own true a = refl
under_own false true = refl
under_own false false = refl

module _ (by : List SortBy) (table : PlainTable) where
  -- whether an entry has the sort cells of the row under its key
  abbrev pub is_own : Entry → Bool
  is_own entry = is_same (entry_under by table entry.key) entry

  pub in_under : (entry : Entry) (some : List ℕ) → is_in entry (entries_under by table some) ≡ (is_among entry.key some && is_own entry)
  in_under entry [] = refl
  in_under entry (key ∷ some) =
      ap (λ b. is_same (entry_under by table key) entry || b) (in_under entry some)
      ∙ elim (cases_eq key entry.key) [
        | inl e ↦
            ap (λ k. is_same (entry_under by table k) entry || (is_among entry.key some && is_own entry)) e
            ∙ under_own (is_own entry) (is_among entry.key some)
            ∙ sym (ap (λ b. (b || is_among entry.key some) && is_own entry) (eq-eqb key entry.key e))
        | inr other ↦
            ap (λ b. (b && same_cells (entry_under by table key).cells entry.cells) || (is_among entry.key some && is_own entry)) (ne_eqb key entry.key other)
            ∙ sym (ap (λ b. (b || is_among entry.key some) && is_own entry) (ne_eqb key entry.key other))
      ]

  pub entry_found : (row : PlainRow) → row_at row.key table.rows ≡ Some row → entry_under by table row.key ≡ entry_of by row
  entry_found row found = ap (λ (o : Option PlainRow). entry_with by (unwrap_or (option_map (λ (r : PlainRow). r.cells) o) []) row.key) found

  rows_under : IsRising (keys table.rows) → map (entry_of by) table.rows ≡ entries_under by table (keys table.rows)
  rows_under r =
      sym (map_map (entry_under by table) (λ (row : PlainRow). row.key) table.rows
      ∙ map_same (λ (row : PlainRow). entry_under by table row.key) (entry_of by) table.rows
      (every_weaker (λ (row : PlainRow). row_at row.key table.rows ≡ Some row) (λ (row : PlainRow). entry_under by table row.key ≡ entry_of by row) table.rows entry_found (each_found table.rows r)))

  -- the entries of all rows in order
  pub in_rows : IsRising (keys table.rows) → (entry : Entry) → is_in entry (entries_of by table.rows) ≡ (is_among entry.key (keys table.rows) && is_own entry)
  in_rows r entry =
      any-map (λ other. is_same other entry) (entry_of by) (in_order by table.rows)
      ∙ any-ordered (λ row. is_same (entry_of by row) entry) (λ a b. is_lt (sort_cmp by a b)) table.rows
      ∙ sym (any-map (λ other. is_same other entry) (entry_of by) table.rows)
      ∙ ap (is_in entry) (rows_under r)
      ∙ in_under entry (keys table.rows)

  pub keys_under : (some : List ℕ) → keys_in (entries_under by table some) ≡ some
  keys_under [] = refl
  keys_under (key ∷ some) = ap (λ ks. key ∷ ks) (keys_under some)

  -- entries under keys of which none comes twice
  few_under : (some : List ℕ) (entry : Entry) → AreApart some → length (filter (λ other. is_same other entry) (entries_under by table some)) ≤ 1
  few_under [] entry apart = omega arith
  few_under (key ∷ some) entry apart =
      let rest = few_under some entry apart.1 in
      elim (cases_Bool (is_same (entry_under by table key) entry)) [
        | inl same ↦
            let e : key ≡ entry.key = eqb-true key entry.key (and_parts (key == entry.key) (same_cells (entry_under by table key).cells entry.cells) same).0 in
            let none : is_in entry (entries_under by table some) ≡ false = in_under entry some ∙ and_left (is_among entry.key some) (is_own entry) (ap (λ k. is_among k some) (sym e) ∙ apart.0) in
            let no_others = filter_none (λ other. is_same other entry) (entries_under by table some) (in_none entry (entries_under by table some) none) in
            let count : length (filter (λ other. is_same other entry) (entries_under by table (key ∷ some))) ≡ 1 =
            ap (λ b. length (cond b (entry_under by table key ∷ filter (λ other. is_same other entry) (entries_under by table some)) (filter (λ other. is_same other entry) (entries_under by table some)))) same
            ∙ ap (λ es. length (entry_under by table key ∷ es)) no_others in
            omega (arith, count)
        | inr other ↦
            let count : length (filter (λ other. is_same other entry) (entries_under by table (key ∷ some))) ≡ length (filter (λ other. is_same other entry) (entries_under by table some)) =
            ap (λ b. length (cond b (entry_under by table key ∷ filter (λ other. is_same other entry) (entries_under by table some)) (filter (λ other. is_same other entry) (entries_under by table some)))) other in
            omega (arith, count, rest)
      ]

  pub distinct_under : (some : List ℕ) → AreApart some → AreDistinct (entries_under by table some)
  distinct_under some apart entry = subst (λ n. n ≤ 1) (length-filter (λ other. is_same other entry) (entries_under by table some)) (few_under some entry apart)
