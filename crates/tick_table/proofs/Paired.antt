-- Rows under rising keys, by the positions of these.
use Rattle.std.proofs.Common.{◌≡◌, refl, ap, ap₂, sym, ◌∙◌, Bool, true, false, cond, not, ◌&&◌, ◌||◌, ℕ, zero, suc, ◌+◌, ◌*◌, ◌<◌, ◌≤◌, arith, List, [], ◌∷◌, ◌++◌, length, map, take, drop, get_or, set, ℤ, ltb, ◌==◌, inl, inr, Some, unwrap_or, true≢false, zero-mul}
use Rattle.std.{specs.Prelude.{filter, option_map}, specs.List.{AllByRecursion, insert, remove}, proofs.lemmas.Bool.{cases_eq, ne_eqb, eq-eqb, lt-ltb, le-ltb, ltb-false, not-false}}
use Rattle.key_lists.{specs.Keys.{is_among, IsRising, without}, proofs.Among.{among-append, among_above, of_among}, proofs.Booleans.neither, proofs.Every.{every, every_weaker, filter_all, filter_filter, filter_in, filter_same, filter_swap}, proofs.Parts.every_at, proofs.Rising.as_filter}
use Rattle.row_set.{specs.Sets.count_below, proofs.Lookups.count_none}
use Rattle.tick_model.{specs.declared.table.PlainRow.PlainRow, specs.Changes.rows_under, specs.Tables.{cells_at, keys, row_at}, specs.Updates.removing}
use Rattle.tick_table.{specs.Placed.{paired, put_row}, proofs.Puts.rest_next}

abbrev pub row_of : ℕ → List ℤ → PlainRow
row_of key cells = record { key = key; cells = cells }

-- the cells under a key: those of the first row, or of one behind it
pub at_first : (key : ℕ) (row : PlainRow) (rows : List PlainRow) → row.key ≡ key → cells_at key (row ∷ rows) ≡ row.cells
at_first key row rows e = ap (λ b. unwrap_or (option_map (λ (row : PlainRow). row.cells) (cond b (Some row) (row_at key rows))) []) (eq-eqb row.key key e)

pub at_later : (key : ℕ) (row : PlainRow) (rows : List PlainRow) → (row.key ≡ key → ⊥) → cells_at key (row ∷ rows) ≡ cells_at key rows
at_later key row rows e = ap (λ b. unwrap_or (option_map (λ (row : PlainRow). row.cells) (cond b (Some row) (row_at key rows))) []) (ne_eqb row.key key e)

-- where a key stands among rising ones
count_here : (key first : ℕ) (ks : List ℕ) → key ≤ first → IsRising (first ∷ ks) → count_below key (first ∷ ks) ≡ 0
count_here key first ks most rises = count_none key (first ∷ ks) (most, every_weaker (λ other. first < other) (λ other. key ≤ other) ks (λ other above. omega (arith, above, most)) rises.0)

count_later : (key first : ℕ) (ks : List ℕ) → first < key → count_below key (first ∷ ks) ≡ suc (count_below key ks)
count_later key first ks less = ap (λ b. length (cond b (first ∷ filter (λ other. ltb other key) ks) (filter (λ other. ltb other key) ks))) (lt-ltb first key less)

later_among : (key first : ℕ) (ks : List ℕ) → (first ≡ key → ⊥) → is_among key (first ∷ ks) ≡ true → is_among key ks ≡ true
later_among key first ks differs here = sym (ap (λ b. b || is_among key ks) (ne_eqb first key differs)) ∙ here

later_less : (key first : ℕ) (ks : List ℕ) → IsRising (first ∷ ks) → is_among key ks ≡ true → first < key
later_less key first ks rises later = of_among (λ other. first < other) key ks rises.0 later

above_same : (key first : ℕ) (ks : List ℕ) → first ≡ key → IsRising (first ∷ ks) → AllByRecursion (λ other. key < other) ks
above_same key first ks same rises = every_weaker (λ other. first < other) (λ other. key < other) ks (λ other above. omega (arith, above, same)) rises.0

pub place_below : (key : ℕ) (ks : List ℕ) → IsRising ks → is_among key ks ≡ true → count_below key ks < length ks
place_below key [] rises here = absurd (true≢false (sym here))
place_below key (first ∷ ks) rises here =
    elim (cases_eq first key) [
      | inl same ↦ let none = count_here key first ks (omega (arith, same)) rises in omega (arith, none)
      | inr differs ↦
          let later = later_among key first ks differs here in
          let more = count_later key first ks (later_less key first ks rises later) in
          let rest = place_below key ks rises.1 later in
          omega (arith, more, rest)
    ]

pub place_key : (key : ℕ) (ks : List ℕ) → IsRising ks → is_among key ks ≡ true → get_or ks (count_below key ks) 0 ≡ key
place_key key [] rises here = absurd (true≢false (sym here))
place_key key (first ∷ ks) rises here =
    elim (cases_eq first key) [
      | inl same ↦ ap (λ n. get_or (first ∷ ks) n 0) (count_here key first ks (omega (arith, same)) rises) ∙ same
      | inr differs ↦
          let later = later_among key first ks differs here in
          ap (λ n. get_or (first ∷ ks) n 0) (count_later key first ks (later_less key first ks rises later)) ∙ place_key key ks rises.1 later
    ]

-- keys that are left out: those that are not below a key, or all of them below it
pub count_without : (key : ℕ) (others ks : List ℕ) → AllByRecursion (λ other. key ≤ other) others → count_below key (without others ks) ≡ count_below key ks
count_without key others ks above =
    ap length
    (filter_in (λ other. ltb other key) (λ other. not (is_among other others)) ks
    (every (λ other. not (is_among other others) ≡ false → ltb other key ≡ false) ks
    (λ other gone. le-ltb other key (of_among (λ x. key ≤ x) other others above (not-false (is_among other others) gone)))))

count_split : (p : ℕ → Bool) (xs : List ℕ) → length xs ≡ length (filter p xs) + length (filter (λ x. not (p x)) xs)
count_split p [] = refl
count_split p (x ∷ xs) =
    elim (p x) as (λ b. suc (length xs) ≡ length (cond b (x ∷ filter p xs) (filter p xs)) + length (cond (not b) (x ∷ filter (λ y. not (p y)) xs) (filter (λ y. not (p y)) xs))) [
      | true ↦ omega (arith, count_split p xs)
      | false ↦ omega (arith, count_split p xs)
    ]

pub count_left : (key : ℕ) (gone ks : List ℕ) → IsRising ks → IsRising gone → AllByRecursion (λ other. is_among other ks ≡ true) gone → AllByRecursion (λ other. other < key) gone
    → count_below key ks ≡ length gone + count_below key (without gone ks)
count_left key gone ks rises gone_rise there below =
    let those : filter (λ x. is_among x gone) (filter (λ x. ltb x key) ks) ≡ gone =
    filter_in (λ x. is_among x gone) (λ x. ltb x key) ks
    (every (λ x. ltb x key ≡ false → is_among x gone ≡ false) ks
    (λ x past. among_above x gone (every_weaker (λ other. other < key) (λ other. other < x) gone (λ other less. omega (arith, less, ltb-false x key past)) below)))
    ∙ as_filter gone ks gone_rise rises there in
    let others : filter (λ x. not (is_among x gone)) (filter (λ x. ltb x key) ks) ≡ filter (λ x. ltb x key) (without gone ks) =
    filter_swap (λ x. not (is_among x gone)) (λ x. ltb x key) ks in
    count_split (λ x. is_among x gone) (filter (λ x. ltb x key) ks) ∙ ap₂ (λ (xs ys : List ℕ). length xs + length ys) those others

-- keys that are left out one after the other
pub without-first : (key : ℕ) (others ks : List ℕ) → without (key ∷ []) (without others ks) ≡ without (key ∷ others) ks
without-first key others ks =
    filter_filter (λ x. not (is_among x (key ∷ []))) (λ x. not (is_among x others)) ks
    ∙ filter_same (λ x. not (is_among x others) && not (is_among x (key ∷ []))) (λ x. not (is_among x (key ∷ others))) ks
    (every (λ x. (not (is_among x others) && not (is_among x (key ∷ []))) ≡ not (is_among x (key ∷ others))) ks
    (λ x. elim (key == x) as (λ b. (not (is_among x others) && not (b || false)) ≡ not (b || is_among x others)) [
      | true ↦ elim (is_among x others) as (λ b. (not b && false) ≡ false) [ true ↦ refl | false ↦ refl ]
      | false ↦ elim (is_among x others) as (λ b. (not b && true) ≡ not b) [ true ↦ refl | false ↦ refl ]
    ]))

left_last : (key x : ℕ) (others : List ℕ) → (not (is_among x others) && not (is_among x (key ∷ []))) ≡ not (is_among x (others ++ key ∷ []))
left_last key x others = neither (is_among x others) (is_among x (key ∷ [])) ∙ ap not (sym (among-append x others (key ∷ [])))

pub without-last : (key : ℕ) (others ks : List ℕ) → without (key ∷ []) (without others ks) ≡ without (others ++ key ∷ []) ks
without-last key others ks =
    filter_filter (λ x. not (is_among x (key ∷ []))) (λ x. not (is_among x others)) ks
    ∙ filter_same (λ x. not (is_among x others) && not (is_among x (key ∷ []))) (λ x. not (is_among x (others ++ key ∷ []))) ks
    (every (λ x. (not (is_among x others) && not (is_among x (key ∷ []))) ≡ not (is_among x (others ++ key ∷ []))) ks (λ x. left_last key x others))

pub removing-last : (key : ℕ) (others : List ℕ) (rows : List PlainRow) → removing (key ∷ []) (removing others rows) ≡ removing (others ++ key ∷ []) rows
removing-last key others rows =
    filter_filter (λ (row : PlainRow). not (is_among row.key (key ∷ []))) (λ (row : PlainRow). not (is_among row.key others)) rows
    ∙ filter_same (λ (row : PlainRow). not (is_among row.key others) && not (is_among row.key (key ∷ []))) (λ (row : PlainRow). not (is_among row.key (others ++ key ∷ []))) rows
    (every (λ (row : PlainRow). (not (is_among row.key others) && not (is_among row.key (key ∷ []))) ≡ not (is_among row.key (others ++ key ∷ []))) rows (λ row. left_last key row.key others))

not_one : (key other : ℕ) → key < other → not (is_among other (key ∷ [])) ≡ true
not_one key other less = ap (λ b. not (b || false)) (ne_eqb key other (λ same. omega (arith, less, same)))

is_one : (key other : ℕ) → other ≡ key → not (is_among other (key ∷ [])) ≡ false
is_one key other same = ap (λ b. not (b || false)) (eq-eqb key other (sym same))

not_above : (key other : ℕ) → other < key → not (is_among other (key ∷ [])) ≡ true
not_above key other less = ap (λ b. not (b || false)) (ne_eqb key other (λ same. omega (arith, less, same)))

without_above : (key : ℕ) (ks : List ℕ) → AllByRecursion (λ other. key < other) ks → without (key ∷ []) ks ≡ ks
without_above key ks above =
    filter_same (λ other. not (is_among other (key ∷ []))) (λ _. true) ks (every_weaker (λ other. key < other) (λ other. not (is_among other (key ∷ [])) ≡ true) ks (λ other less. not_one key other less) above)
    ∙ filter_all ks

removing_above : (key : ℕ) (rows : List PlainRow) → AllByRecursion (λ (row : PlainRow). key < row.key) rows → removing (key ∷ []) rows ≡ rows
removing_above key rows above =
    filter_same (λ (row : PlainRow). not (is_among row.key (key ∷ []))) (λ _. true) rows
    (every_weaker (λ (row : PlainRow). key < row.key) (λ (row : PlainRow). not (is_among row.key (key ∷ [])) ≡ true) rows (λ row less. not_one key row.key less) above)
    ∙ filter_all rows

without_one : (key first : ℕ) (ks : List ℕ) → first < key → without (key ∷ []) (first ∷ ks) ≡ first ∷ without (key ∷ []) ks
without_one key first ks less = ap (λ b. cond b (first ∷ without (key ∷ []) ks) (without (key ∷ []) ks)) (not_above key first less)

without_own : (key first : ℕ) (ks : List ℕ) → first ≡ key → IsRising (first ∷ ks) → without (key ∷ []) (first ∷ ks) ≡ ks
without_own key first ks same rises =
    ap (λ b. cond b (first ∷ without (key ∷ []) ks) (without (key ∷ []) ks)) (is_one key first same) ∙ without_above key ks (above_same key first ks same rises)

pub without_shorter : (key : ℕ) (ks : List ℕ) → IsRising ks → is_among key ks ≡ true → length (without (key ∷ []) ks) + 1 ≡ length ks
without_shorter key [] rises here = absurd (true≢false (sym here))
without_shorter key (first ∷ ks) rises here =
    elim (cases_eq first key) [
      | inl same ↦ let left = ap length (without_own key first ks same rises) in omega (arith, left)
      | inr differs ↦
          let later = later_among key first ks differs here in
          let left = ap length (without_one key first ks (later_less key first ks rises later)) in
          let rest = without_shorter key ks rises.1 later in
          omega (arith, left, rest)
    ]

-- rows that are paired with their keys
pub keys-paired : (ks : List ℕ) (rows : List (List ℤ)) → length rows ≡ length ks → keys (paired ks rows) ≡ ks
keys-paired [] rows e = refl
keys-paired (key ∷ ks) [] e = absurd (omega (arith, e))
keys-paired (key ∷ ks) (row ∷ rows) e = ap (λ rest. key ∷ rest) (keys-paired ks rows (omega (arith, e)))

rows_above : (key : ℕ) (ks : List ℕ) (rows : List (List ℤ)) → AllByRecursion (λ other. key < other) ks → AllByRecursion (λ (row : PlainRow). key < row.key) (paired ks rows)
rows_above key [] rows above = tt
rows_above key (first ∷ ks) [] above = tt
rows_above key (first ∷ ks) (row ∷ rows) above = (above.0, rows_above key ks rows above.1)

pub paired-map : (f : ℕ → List ℤ) (ks : List ℕ) → paired ks (map f ks) ≡ map (λ key. row_of key (f key)) ks
paired-map f [] = refl
paired-map f (key ∷ ks) = ap (λ rest. row_of key (f key) ∷ rest) (paired-map f ks)

pub at_mapped : (f : ℕ → List ℤ) (key : ℕ) (ks : List ℕ) → is_among key ks ≡ true → cells_at key (map (λ key. row_of key (f key)) ks) ≡ f key
at_mapped f key [] here = absurd (true≢false (sym here))
at_mapped f key (first ∷ ks) here =
    elim (cases_eq first key) [
      | inl same ↦ at_first key (row_of first (f first)) (map (λ key. row_of key (f key)) ks) same ∙ ap f same
      | inr differs ↦ at_later key (row_of first (f first)) (map (λ key. row_of key (f key)) ks) differs ∙ at_mapped f key ks (later_among key first ks differs here)
    ]

-- the cells of the row at a position
pub at_paired : (ks : List ℕ) (rows : List (List ℤ)) (n : ℕ) → length rows ≡ length ks → IsRising ks → n < length ks → cells_at (get_or ks n 0) (paired ks rows) ≡ get_or rows n []
at_paired [] rows n e rises below = absurd (omega (arith, below))
at_paired (first ∷ ks) [] n e rises below = absurd (omega (arith, e))
at_paired (first ∷ ks) (row ∷ rows) zero e rises below = at_first first (row_of first row) (paired ks rows) refl
at_paired (first ∷ ks) (row ∷ rows) (suc n) e rises below =
    let within : n < length ks = omega (arith, below) in
    let less : first < get_or ks n 0 = every_at (λ other. first < other) ks n 0 within rises.0 in
    at_later (get_or ks n 0) (row_of first row) (paired ks rows) (λ same. omega (arith, less, same)) ∙ at_paired ks rows n (omega (arith, e)) rises.1 within

pub at_place : (key : ℕ) (ks : List ℕ) (rows : List (List ℤ)) → length rows ≡ length ks → IsRising ks → is_among key ks ≡ true → get_or rows (count_below key ks) [] ≡ cells_at key (paired ks rows)
at_place key ks rows e rises here = sym (at_paired ks rows (count_below key ks) e rises (place_below key ks rises here)) ∙ ap (λ k. cells_at k (paired ks rows)) (place_key key ks rises here)

pub at_under : (width : ℕ) (ks : List ℕ) (cells : List ℤ) (n : ℕ) → IsRising ks → n < length ks → cells_at (get_or ks n 0) (rows_under width ks cells) ≡ take width (drop (n * width) cells)
at_under width [] cells n rises below = absurd (omega (arith, below))
at_under width (first ∷ ks) cells zero rises below =
    at_first first (row_of first (take width cells)) (rows_under width ks (drop width cells)) refl ∙ ap (λ k. take width (drop k cells)) (sym (zero-mul width))
at_under width (first ∷ ks) cells (suc n) rises below =
    let within : n < length ks = omega (arith, below) in
    let less : first < get_or ks n 0 = every_at (λ other. first < other) ks n 0 within rises.0 in
    at_later (get_or ks n 0) (row_of first (take width cells)) (rows_under width ks (drop width cells)) (λ same. omega (arith, less, same))
    ∙ at_under width ks (drop width cells) n rises.1 within
    ∙ ap (take width) (rest_next n width cells)

-- a row is taken out, put in or replaced at the position of its key
pub paired-remove : (key : ℕ) (ks : List ℕ) (rows : List (List ℤ)) → length rows ≡ length ks → IsRising ks → is_among key ks ≡ true
    → paired (without (key ∷ []) ks) (remove rows (count_below key ks)) ≡ removing (key ∷ []) (paired ks rows)
paired-remove key [] rows e rises here = absurd (true≢false (sym here))
paired-remove key (first ∷ ks) [] e rises here = absurd (omega (arith, e))
paired-remove key (first ∷ ks) (row ∷ rows) e rises here =
    let stay : List PlainRow = removing (key ∷ []) (paired ks rows) in
    elim (cases_eq first key) [
      | inl same ↦
          ap₂ (λ (left : List ℕ) (n : ℕ). paired left (remove (row ∷ rows) n)) (without_own key first ks same rises) (count_here key first ks (omega (arith, same)) rises)
          ∙ sym (ap (λ b. cond b (row_of first row ∷ stay) stay) (is_one key first same) ∙ removing_above key (paired ks rows) (rows_above key ks rows (above_same key first ks same rises)))
      | inr differs ↦
          let later = later_among key first ks differs here in
          let less = later_less key first ks rises later in
          ap₂ (λ (left : List ℕ) (n : ℕ). paired left (remove (row ∷ rows) n)) (without_one key first ks less) (count_later key first ks less)
          ∙ ap (λ rest. row_of first row ∷ rest) (paired-remove key ks rows (omega (arith, e)) rises.1 later)
          ∙ sym (ap (λ b. cond b (row_of first row ∷ stay) stay) (not_above key first less))
    ]

pub put_first : (row : PlainRow) (rows : List PlainRow) → AllByRecursion (λ (other : PlainRow). row.key < other.key) rows → put_row row rows ≡ row ∷ rows
put_first row [] above = refl
put_first row (other ∷ others) above =
    ap (λ b. cond b (other ∷ put_row row others) (cond (other.key == row.key) (row ∷ others) (row ∷ other ∷ others))) (le-ltb other.key row.key (omega (arith, above.0)))
    ∙ ap (λ b. cond b (row ∷ others) (row ∷ other ∷ others)) (ne_eqb other.key row.key (λ same. omega (arith, above.0, same)))

pub put_behind : (row other : PlainRow) (others : List PlainRow) → other.key < row.key → put_row row (other ∷ others) ≡ other ∷ put_row row others
put_behind row other others less = ap (λ b. cond b (other ∷ put_row row others) (cond (other.key == row.key) (row ∷ others) (row ∷ other ∷ others))) (lt-ltb other.key row.key less)

pub paired-insert : (key : ℕ) (row : List ℤ) (ks : List ℕ) (rows : List (List ℤ)) → length rows ≡ length (without (key ∷ []) ks) → IsRising ks → is_among key ks ≡ true
    → paired ks (insert rows (count_below key ks) row) ≡ put_row (row_of key row) (paired (without (key ∷ []) ks) rows)
paired-insert key row [] rows e rises here = absurd (true≢false (sym here))
paired-insert key row (first ∷ ks) rows e rises here =
    elim (cases_eq first key) [
      | inl same ↦
          ap (λ n. paired (first ∷ ks) (insert rows n row)) (count_here key first ks (omega (arith, same)) rises)
          ∙ ap (λ k. row_of k row ∷ paired ks rows) same
          ∙ sym (ap (λ left. put_row (row_of key row) (paired left rows)) (without_own key first ks same rises) ∙ put_first (row_of key row) (paired ks rows) (rows_above key ks rows (above_same key first ks same rises)))
      | inr differs ↦
          let later = later_among key first ks differs here in
          let less = later_less key first ks rises later in
          let stays = without_one key first ks less in
          ap (λ n. paired (first ∷ ks) (insert rows n row)) (count_later key first ks less)
          ∙ behind rows (e ∙ ap length stays) less (λ some many. paired-insert key row ks some many rises.1 later)
          ∙ sym (ap (λ left. put_row (row_of key row) (paired left rows)) stays)
    ]
  where
    behind : (some : List (List ℤ)) → length some ≡ length (first ∷ without (key ∷ []) ks) → first < key
        → ((others : List (List ℤ)) → length others ≡ length (without (key ∷ []) ks) → paired ks (insert others (count_below key ks) row) ≡ put_row (row_of key row) (paired (without (key ∷ []) ks) others))
        → paired (first ∷ ks) (insert some (suc (count_below key ks)) row) ≡ put_row (row_of key row) (paired (first ∷ without (key ∷ []) ks) some)
    behind [] e less rest = absurd (omega (arith, e))
    behind (other ∷ some) e less rest =
        ap (λ those. row_of first other ∷ those) (rest some (omega (arith, e)))
        ∙ sym (put_behind (row_of key row) (row_of first other) (paired (without (key ∷ []) ks) some) less)

pub paired-set : (key : ℕ) (row : List ℤ) (ks : List ℕ) (rows : List (List ℤ)) → length rows ≡ length ks → IsRising ks → is_among key ks ≡ true
    → paired ks (set rows (count_below key ks) row) ≡ put_row (row_of key row) (paired ks rows)
paired-set key row [] rows e rises here = absurd (true≢false (sym here))
paired-set key row (first ∷ ks) [] e rises here = absurd (omega (arith, e))
paired-set key row (first ∷ ks) (other ∷ rows) e rises here =
    let rest : List PlainRow = paired ks rows in
    elim (cases_eq first key) [
      | inl same ↦
          ap (λ n. paired (first ∷ ks) (set (other ∷ rows) n row)) (count_here key first ks (omega (arith, same)) rises)
          ∙ ap (λ k. row_of k row ∷ rest) same
          ∙ sym
          (ap (λ b. cond b (row_of first other ∷ put_row (row_of key row) rest) (cond (first == key) (row_of key row ∷ rest) (row_of key row ∷ row_of first other ∷ rest))) (le-ltb first key (omega (arith, same)))
          ∙ ap (λ b. cond b (row_of key row ∷ rest) (row_of key row ∷ row_of first other ∷ rest)) (eq-eqb first key same))
      | inr differs ↦
          let later = later_among key first ks differs here in
          let less = later_less key first ks rises later in
          ap (λ n. paired (first ∷ ks) (set (other ∷ rows) n row)) (count_later key first ks less)
          ∙ ap (λ rest. row_of first other ∷ rest) (paired-set key row ks rows (omega (arith, e)) rises.1 later)
          ∙ sym (put_behind (row_of key row) (row_of first other) rest less)
    ]
