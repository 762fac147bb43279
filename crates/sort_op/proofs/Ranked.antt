-- Rows in order by their handles: where a row stands, and the handle of the row under a key.
use Rattle.std.proofs.Common.{◌≡◌, refl, ap, ap₂, sym, ◌∙◌, Bool, true, false, cond, ◌||◌, ◌==◌, ℕ, zero, suc, ◌<◌, ◌≤◌, arith, List, [], ◌∷◌, ◌++◌, map, length, take, drop, Option, Some, None, IsSome, unwrap_or, true≢false, inl, inr, get_or}
use Rattle.std.{specs.Prelude.{option_map, slice_get}, specs.List.AllByRecursion, specs.List.Sorted.IsPartitionedBy, specs.Option.option_map_or, specs.Ordering.{is_lt, nat_cmp, ordering_then}, specs.declared.cmp.Ordering.Ordering, specs.declared.cmp.Ordering.TheVariants.{Less, Equal, Greater}, proofs.lemmas.Bool.{cases_Bool, cases_eq, eq-eqb, eqb-true, ne_eqb, or_cases, le-ltb}, proofs.lemmas.List.length-map, proofs.lemmas.Option.{none-some, same_Some, slice_get-map}}
use Rattle.key_lists.{specs.Keys.{IsRising, is_among}, proofs.Among.{among-append, each_among, of_among}, proofs.Booleans.or_false, proofs.Every.{every, every_weaker, every-map, all_from, every_unmapped}, proofs.Parts.every_got}
use Rattle.row_handles.specs.Entries.{Entry as Handled, handle_under, key_with, keys_of}
use Rattle.tick_model.specs.declared.plan.SortBy.{SortBy}
use Rattle.sort_op.{specs.declared.entry.Entry.Entry, specs.declared.row_order.OrderedRow.OrderedRow, specs.Entries.{IsWhole, Rises, comes_before, is_in, is_same, keys_in}, specs.Cells.cells_cmp, specs.Places.{AreApart, AreUnder}, specs.Ranks.{IsRanking, Ranking, arrived, entry_in, key_in, kept_cells, listed}, proofs.Comparing.{before_trans, not_before_own, same_is}, proofs.KeptCells.length-kept}

module _ (by : List SortBy) (entry : Entry) where
  not_sooner : (x y : Entry) → comes_before by x y ≡ true → comes_before by x entry ≡ false → comes_before by y entry ≡ false
  not_sooner x y later own =
      elim (cases_Bool (comes_before by y entry)) [
        | inl sooner ↦ absurd (true≢false (sym (before_trans by x y entry later sooner) ∙ own))
        | inr other ↦ other
      ]

  -- the entries up to one that stands before, and those from one that does not
  pub passed_to : (xs : List Entry) (i : ℕ) (x : Entry) → Rises by xs → slice_get xs i ≡ Some x → comes_before by x entry ≡ true → AllByRecursion (λ y. comes_before by y entry ≡ true) (take (suc i) xs)
  passed_to [] i x r at h = absurd (none-some x at)
  passed_to (y ∷ xs) zero x r at h = (ap (λ z. comes_before by z entry) (same_Some y x at) ∙ h, tt)
  passed_to (y ∷ xs) (suc i) x r at h = (before_trans by y x entry (every_got (λ z. comes_before by y z ≡ true) xs i x at r.0) h, passed_to xs i x r.1 at h)

  pub failed_from : (xs : List Entry) (i : ℕ) (x : Entry) → Rises by xs → slice_get xs i ≡ Some x → comes_before by x entry ≡ false → AllByRecursion (λ y. comes_before by y entry ≡ false) (drop i xs)
  failed_from [] i x r at h = absurd (none-some x at)
  failed_from (y ∷ xs) zero x r at h =
      let own : comes_before by y entry ≡ false = ap (λ z. comes_before by z entry) (same_Some y x at) ∙ h in
      (own, every_weaker (λ z. comes_before by y z ≡ true) (λ z. comes_before by z entry ≡ false) xs (λ z later. not_sooner y z later own) r.0)
  failed_from (y ∷ xs) (suc i) x r at h = failed_from xs i x r.1 at h

  behind_last : (xs : List Entry) (i : ℕ) → slice_get xs i ≡ None → AllByRecursion (λ y. comes_before by y entry ≡ false) (drop i xs)
  behind_last [] zero none = tt
  behind_last [] (suc i) none = tt
  behind_last (x ∷ xs) zero none = absurd (none-some x (sym none))
  behind_last (x ∷ xs) (suc i) none = behind_last xs i none

  -- by what the test of a place says
  abbrev pub tested : List Entry → ℕ → Bool
  tested xs i = option_map_or (λ y. comes_before by y entry) (slice_get xs i) false

  pub up_to : (xs : List Entry) (i : ℕ) → Rises by xs → tested xs i ≡ true → AllByRecursion (λ y. comes_before by y entry ≡ true) (take (suc i) xs)
  up_to xs i r h = go (slice_get xs i) refl h
    where
      go : (o : Option Entry) → slice_get xs i ≡ o → option_map_or (λ y. comes_before by y entry) o false ≡ true → AllByRecursion (λ y. comes_before by y entry ≡ true) (take (suc i) xs)
      go None at h = absurd (true≢false (sym h))
      go (Some x) at h = passed_to xs i x r at h

  pub from_on : (xs : List Entry) (i : ℕ) → Rises by xs → tested xs i ≡ false → AllByRecursion (λ y. comes_before by y entry ≡ false) (drop i xs)
  from_on xs i r h = go (slice_get xs i) refl h
    where
      go : (o : Option Entry) → slice_get xs i ≡ o → option_map_or (λ y. comes_before by y entry) o false ≡ false → AllByRecursion (λ y. comes_before by y entry ≡ false) (drop i xs)
      go None at h = behind_last xs i at
      go (Some x) at h = failed_from xs i x r at h

  -- as many stand before an entry as its place says
  pub place_counted : (xs : List Entry) (n i : ℕ) → Rises by xs → n ≤ length xs → AllByRecursion (λ y. comes_before by y entry ≡ true) (take n xs) → AllByRecursion (λ y. comes_before by y entry ≡ false) (drop n xs) → slice_get xs i ≡ Some entry → n ≡ i
  place_counted [] n i r within before others at = absurd (none-some entry at)
  place_counted (y ∷ xs) zero zero r within before others at = refl
  place_counted (y ∷ xs) zero (suc i) r within before others at = absurd (true≢false (sym (every_got (λ z. comes_before by y z ≡ true) xs i entry at r.0) ∙ others.0))
  place_counted (y ∷ xs) (suc n) zero r within before others at = absurd (true≢false (sym (ap (λ z. comes_before by z entry) (sym (same_Some y entry at)) ∙ before.0) ∙ not_before_own by entry))
  place_counted (y ∷ xs) (suc n) (suc i) r within before others at = ap suc (place_counted xs n i r.1 (omega (arith, within)) before.1 others at)

-- a key that comes once has one place
among_got : (keys : List ℕ) (i key : ℕ) → slice_get keys i ≡ Some key → is_among key keys ≡ true
among_got keys i key at = every_got (λ k. is_among k keys ≡ true) keys i key at (each_among keys)

one_place : (keys : List ℕ) (key i j : ℕ) → AreApart keys → slice_get keys i ≡ Some key → slice_get keys j ≡ Some key → i ≡ j
one_place [] key i j apart here there = absurd (none-some key here)
one_place (k ∷ keys) key zero zero apart here there = refl
one_place (k ∷ keys) key zero (suc j) apart here there = absurd (true≢false (sym (among_got keys j key there) ∙ ap (λ n. is_among n keys) (sym (same_Some k key here)) ∙ apart.0))
one_place (k ∷ keys) key (suc i) zero apart here there = absurd (true≢false (sym (among_got keys i key here) ∙ ap (λ n. is_among n keys) (sym (same_Some k key there)) ∙ apart.0))
one_place (k ∷ keys) key (suc i) (suc j) apart here there = ap suc (one_place keys key i j apart.1 here there)

-- the position of one key more
pub under_more : (order some positions : List ℕ) (key position : ℕ) → AreApart order → slice_get order position ≡ Some key → AreUnder order some positions → AreUnder order (some ++ key ∷ []) (positions ++ position ∷ [])
under_more order some positions key position apart here under i =
    among-append i positions (position ∷ [])
    ∙ ap₂ (λ a b. a || b) (under i) (or_false (position == i))
    ∙ go (slice_get order i) refl
  where
    one : (k : ℕ) → slice_get order i ≡ Some k → (position == i) ≡ (key == k)
    one k at =
        elim (cases_eq position i) [
          | inl e ↦
              eq-eqb position i e
              ∙ sym (eq-eqb key k (same_Some key k (sym here ∙ ap (slice_get order) e ∙ at)))
          | inr ne ↦ ne_eqb position i ne ∙ sym (ne_eqb key k (λ e. ne (one_place order key position i apart here (at ∙ ap Some (sym e)))))
        ]

    go : (o : Option ℕ) → slice_get order i ≡ o → (option_map_or (λ key. is_among key some) o false || (position == i)) ≡ option_map_or (λ k. is_among k (some ++ key ∷ [])) o false
    go None at = ne_eqb position i (λ e. none-some key (sym at ∙ ap (slice_get order) (sym e) ∙ here))
    go (Some k) at = ap (λ b. is_among k some || b) (one k at) ∙ sym (among-append k some (key ∷ []) ∙ ap (λ b. is_among k some || b) (or_false (key == k)))

pub under_none : (order : List ℕ) → AreUnder order [] []
under_none order i = go (slice_get order i)
  where
    go : (o : Option ℕ) → false ≡ option_map_or (λ key. is_among key []) o false
    go None = refl
    go (Some key) = refl

-- handles and keys
pub some_key : (o : Option ℕ) → IsSome o → o ≡ Some (unwrap_or o 0)
some_key None there = absurd (cc)
some_key (Some key) there = refl

pub key_there : (key handle : ℕ) (xs : List Handled) → key_with handle xs ≡ Some key → is_among key (keys_of xs) ≡ true
key_there key handle [] e = absurd (none-some key e)
key_there key handle (x ∷ xs) e =
    elim (cases_eq x.handle handle) [
      | inl same ↦
          let own : x.key ≡ key = same_Some x.key key (sym (ap (λ b. cond b (Some x.key) (key_with handle xs)) (eq-eqb x.handle handle same)) ∙ e) in
          ap (λ b. b || is_among key (keys_of xs)) (eq-eqb x.key key own)
      | inr other ↦
          let later : key_with handle xs ≡ Some key = sym (ap (λ b. cond b (Some x.key) (key_with handle xs)) (ne_eqb x.handle handle other)) ∙ e in
          ap (λ b. (x.key == key) || b) (key_there key handle xs later) ∙ either (x.key == key)
    ]
  where
    either : (b : Bool) → (b || true) ≡ true
    either true = refl
    either false = refl

pub handle_of_key : (key handle : ℕ) (xs : List Handled) → IsRising (keys_of xs) → key_with handle xs ≡ Some key → handle_under key xs ≡ Some handle
handle_of_key key handle [] r e = absurd (none-some key e)
handle_of_key key handle (x ∷ xs) r e =
    elim (cases_eq x.handle handle) [
      | inl same ↦
          let own : x.key ≡ key = same_Some x.key key (sym (ap (λ b. cond b (Some x.key) (key_with handle xs)) (eq-eqb x.handle handle same)) ∙ e) in
          ap (λ b. cond b (Some x.handle) (handle_under key xs)) (eq-eqb x.key key own) ∙ ap Some same
      | inr other ↦
          let later : key_with handle xs ≡ Some key = sym (ap (λ b. cond b (Some x.key) (key_with handle xs)) (ne_eqb x.handle handle other)) ∙ e in
          let less : x.key < key = of_among (λ k. x.key < k) key (keys_of xs) r.0 (key_there key handle xs later) in
          ap (λ b. cond b (Some x.handle) (handle_under key xs)) (ne_eqb x.key key (λ same. omega (arith, less, same)))
          ∙ handle_of_key key handle xs r.1 later
    ]

module _ (ranking : Ranking) where
  abbrev AreKnown : List ℕ → Type 0
  AreKnown = AllByRecursion (λ handle. IsSome (key_with handle ranking.handles))

  abbrev IsHere : ℕ → List ℕ → Type 0
  IsHere key rows = (at : ℕ) × ((handle : ℕ) × ((slice_get rows at ≡ Some handle) × (key_with handle ranking.handles ≡ Some key)))

  row_under : (key : ℕ) (rows : List ℕ) → AreKnown rows → is_among key (keys_in (map (entry_in ranking) rows)) ≡ true → IsHere key rows
  row_under key [] known h = absurd (true≢false (sym h))
  row_under key (handle ∷ rows) known h =
      elim (or_cases (key_in ranking.handles handle == key) (is_among key (keys_in (map (entry_in ranking) rows))) h) [
        | inl own ↦ (0, (handle, (refl, some_key (key_with handle ranking.handles) known.0 ∙ ap Some (eqb-true (key_in ranking.handles handle) key own))))
        | inr rest ↦ let there = row_under key rows known.1 rest in (suc there.0, there.1)
      ]

  -- the handle and the cells of an entry
  row_of : (entry : Entry) (rows : List ℕ) → AreKnown rows → is_in entry (map (entry_in ranking) rows) ≡ true → (handle : ℕ) × ((key_with handle ranking.handles ≡ Some entry.key) × (entry_in ranking handle ≡ entry))
  row_of entry [] known h = absurd (true≢false (sym h))
  row_of entry (handle ∷ rows) known h =
      elim (or_cases (is_same (entry_in ranking handle) entry) (is_in entry (map (entry_in ranking) rows)) h) [
        | inl own ↦ let e = same_is (entry_in ranking handle) entry own in (handle, (some_key (key_with handle ranking.handles) known.0 ∙ ap (λ (x : Entry). Some x.key) e, e))
        | inr rest ↦ row_of entry rows known.1 rest
      ]

  pub entry_known : (row : OrderedRow) → key_with row.handle ranking.handles ≡ Some row.key → entry_in ranking row.handle ≡ arrived ranking row
  entry_known row known = ap (λ (o : Option ℕ). let entry : Entry = record { cells = kept_cells ranking.by ranking.cells row.handle; key = unwrap_or o 0 } in entry) known

  pub whole_all : AllByRecursion (IsWhole ranking.by) (listed ranking)
  whole_all = every-map (IsWhole ranking.by) (entry_in ranking) ranking.rows (every (λ handle. IsWhole ranking.by (entry_in ranking handle)) ranking.rows (λ handle. length-kept 0 ranking.by ranking.cells handle))

  pub arrived_whole : (row : OrderedRow) → IsWhole ranking.by (arrived ranking row)
  arrived_whole row = length-kept 0 ranking.by ranking.cells row.handle

  -- the rows whose sort cells stand before others
  module _ (row : OrderedRow) where
    abbrev pub cells_before : ℕ → Bool
    cells_before handle = is_lt (cells_cmp ranking.by (kept_cells ranking.by ranking.cells handle) (kept_cells ranking.by ranking.cells row.handle))

    abbrev first : Entry
    first = record { cells = kept_cells ranking.by ranking.cells row.handle; key = 0 }

    before_first : (handle : ℕ) → comes_before ranking.by (entry_in ranking handle) first ≡ cells_before handle
    before_first handle = go (cells_cmp ranking.by (kept_cells ranking.by ranking.cells handle) (kept_cells ranking.by ranking.cells row.handle))
      where
        go : (o : Ordering) → is_lt (ordering_then o (nat_cmp (key_in ranking.handles handle) 0)) ≡ is_lt o
        go Less = refl
        go Equal = ap (λ t. is_lt (cond t Less (cond (key_in ranking.handles handle == 0) Equal Greater))) (le-ltb (key_in ranking.handles handle) 0 (omega arith)) ∙ not_less (key_in ranking.handles handle == 0)
          where
            not_less : (t : Bool) → is_lt (cond t Equal Greater) ≡ false
            not_less true = refl
            not_less false = refl
        go Greater = refl

    pub cells_parted : (rows : List ℕ) → Rises ranking.by (map (entry_in ranking) rows) → IsPartitionedBy cells_before rows
    cells_parted [] r i j d le lt h = absurd (omega arith)
    cells_parted (x ∷ xs) r zero zero d le lt h = h
    cells_parted (x ∷ xs) r zero (suc j) d le lt h =
        sym (before_first x)
        ∙ before_trans ranking.by (entry_in ranking x) (entry_in ranking (get_or xs j d)) first
        (all_from (λ handle. comes_before ranking.by (entry_in ranking x) (entry_in ranking handle) ≡ true) xs (every_unmapped (λ entry. comes_before ranking.by (entry_in ranking x) entry ≡ true) (entry_in ranking) xs r.0) j d (omega arith))
        (before_first (get_or xs j d) ∙ h)
    cells_parted (x ∷ xs) r (suc i) zero d le lt h = absurd (omega arith)
    cells_parted (x ∷ xs) r (suc i) (suc j) d le lt h = cells_parted xs r.1 i j d (omega arith) (omega arith) h

    -- they stand before the row
    pub front_before : (rows : List ℕ) (n : ℕ) → AllByRecursion (λ handle. cells_before handle ≡ true) (take n rows) → AllByRecursion (λ entry. comes_before ranking.by entry (arrived ranking row) ≡ true) (take n (map (entry_in ranking) rows))
    front_before [] zero h = tt
    front_before [] (suc n) h = tt
    front_before (x ∷ xs) zero h = tt
    front_before (x ∷ xs) (suc n) h =
        (go (cells_cmp ranking.by (kept_cells ranking.by ranking.cells x) (kept_cells ranking.by ranking.cells row.handle)) h.0, front_before xs n h.1)
      where
        go : (o : Ordering) → is_lt o ≡ true → is_lt (ordering_then o (nat_cmp (key_in ranking.handles x) row.key)) ≡ true
        go Less e = refl
        go Equal e = absurd (true≢false (sym e))
        go Greater e = absurd (true≢false (sym e))

  pub listed_count : length (listed ranking) ≡ length ranking.rows
  listed_count = length-map ranking.rows (entry_in ranking)

  module _ (is : IsRanking ranking) where
    -- the row under a key has a handle
    pub handle_found : (key : ℕ) → is_among key (keys_in (listed ranking)) ≡ true → (handle : ℕ) × (handle_under key ranking.handles ≡ Some handle)
    handle_found key h = let there = row_under key ranking.rows is.known h in (there.1.0, handle_of_key key there.1.0 ranking.handles is.keys there.1.1.1)

    -- and as many rows stand before it as its position says
    pub position_counted : (key handle n : ℕ) → is_among key (keys_in (listed ranking)) ≡ true → handle_under key ranking.handles ≡ Some handle → n ≤ length (listed ranking)
        → AllByRecursion (λ y. comes_before ranking.by y (arrived ranking (record { key = key; handle = handle })) ≡ true) (take n (listed ranking)) → AllByRecursion (λ y. comes_before ranking.by y (arrived ranking (record { key = key; handle = handle })) ≡ false) (drop n (listed ranking))
        → slice_get (keys_in (listed ranking)) n ≡ Some key
    position_counted key handle n h found within before others =
        let there = row_under key ranking.rows is.known h in
        let row : OrderedRow = record { key = key; handle = handle } in
        let own : there.1.0 ≡ handle = same_Some there.1.0 handle (sym (handle_of_key key there.1.0 ranking.handles is.keys there.1.1.1) ∙ found) in
        let here : slice_get (listed ranking) there.0 ≡ Some (arrived ranking row) =
        slice_get-map (entry_in ranking) ranking.rows there.0 ∙ ap (option_map (entry_in ranking)) (there.1.1.0 ∙ ap Some own) ∙ ap Some (entry_known row (ap (λ n. key_with n ranking.handles) (sym own) ∙ there.1.1.1)) in
        let place : n ≡ there.0 = place_counted ranking.by (arrived ranking row) (listed ranking) n there.0 is.rising within before others here in
        ap (slice_get (keys_in (listed ranking))) place ∙ slice_get-map (λ (entry : Entry). entry.key) (listed ranking) there.0 ∙ ap (option_map (λ (entry : Entry). entry.key)) here

    -- the sort cells of the row under a key are those of its entry
    pub cells_of_entry : (entry : Entry) (handle : ℕ) → is_in entry (listed ranking) ≡ true → handle_under entry.key ranking.handles ≡ Some handle → kept_cells ranking.by ranking.cells handle ≡ entry.cells
    cells_of_entry entry handle h found =
        let there = row_of entry ranking.rows is.known h in
        let own : there.0 ≡ handle = same_Some there.0 handle (sym (handle_of_key entry.key there.0 ranking.handles is.keys there.1.0) ∙ found) in
        ap (kept_cells ranking.by ranking.cells) (sym own) ∙ ap (λ (e : Entry). e.cells) there.1.1
