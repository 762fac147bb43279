-- Rows that are put among others one after the other: as they are found, and as they are added and modified.
use Rattle.std.proofs.Common.{◌≡◌, refl, ap, ap₂, sym, ◌∙◌, subst, Bool, true, false, cond, ◌||◌, ℕ, suc, ◌+◌, ◌*◌, ◌<◌, ◌≤◌, arith, List, [], ◌∷◌, ◌++◌, length, length-drop, take, drop, Some, None, ℤ, ltb, ◌==◌, unwrap_or, inl, inr, zero-mul, true≢false}
use Rattle.std.{specs.List.AllByRecursion, proofs.Math.Nat.suc-mul, proofs.lemmas.List.drop-drop, proofs.lemmas.Bool.{cases_lt, ne_eqb, eq-eqb, eqb-true, eqb-false, lt-ltb, or_parts, or_from, le-ltb}}
use Rattle.tick_laws.proofs.CheckedUpdates.{keys-modifying}
use Rattle.key_lists.{specs.Keys.{is_among, IsRising}, proofs.Among.among_below, proofs.Every.{every_both, every_weaker, every_unmapped, map_map, map_own, map_same, every}, proofs.Booleans.{or_swap, or_twice}}
use Rattle.tick_model.{specs.declared.table.PlainRow.PlainRow, specs.Changes.rows_under, specs.Tables.{keys, row_at}, specs.Updates.{insert_row, adding, modifying}}
use Rattle.tick_table.specs.Placed.{put_row, put_rows}

-- the keys after a row was put
pub among-put_row : (key : ℕ) (row : PlainRow) (rows : List PlainRow) → is_among key (keys (put_row row rows)) ≡ ((row.key == key) || is_among key (keys rows))
among-put_row key row [] = refl
among-put_row key row (other ∷ others) =
    elim (ltb other.key row.key) as (λ b. is_among key (keys (cond b (other ∷ put_row row others) (cond (other.key == row.key) (row ∷ others) (row ∷ other ∷ others)))) ≡ ((row.key == key) || is_among key (keys (other ∷ others)))) [
      | true ↦ ap (λ b. (other.key == key) || b) (among-put_row key row others) ∙ or_swap (other.key == key) (row.key == key) (is_among key (keys others))
      | false ↦ (elim (other.key == row.key) as (λ b. (other.key == row.key) ≡ b → is_among key (keys (cond b (row ∷ others) (row ∷ other ∷ others))) ≡ ((row.key == key) || is_among key (keys (other ∷ others)))) [
        | true ↦ λ same. sym (ap (λ k. (row.key == key) || ((k == key) || is_among key (keys others))) (eqb-true other.key row.key same) ∙ or_twice (row.key == key) (is_among key (keys others)))
        | false ↦ λ differs. refl
      ]) refl
    ]

pub put_rows-append : (first second others : List PlainRow) → put_rows (first ++ second) others ≡ put_rows second (put_rows first others)
put_rows-append [] second others = refl
put_rows-append (row ∷ first) second others = put_rows-append first second (put_row row others)

-- a row whose key no other has is inserted
put_new : (row : PlainRow) (rows : List PlainRow) → is_among row.key (keys rows) ≡ false → put_row row rows ≡ insert_row row rows
put_new row [] h = refl
put_new row (other ∷ others) h =
    let apart = or_parts (other.key == row.key) (is_among row.key (keys others)) h in
    elim (cases_lt other.key row.key) [
      | inl less ↦
          ap (λ b. cond b (other ∷ put_row row others) (cond (other.key == row.key) (row ∷ others) (row ∷ other ∷ others))) (lt-ltb other.key row.key less)
          ∙ ap (λ rest. other ∷ rest) (put_new row others apart.1)
          ∙ sym (ap (λ b. cond b (row ∷ other ∷ others) (other ∷ insert_row row others)) (le-ltb row.key other.key (omega arith)))
      | inr more ↦
          let differs = eqb-false other.key row.key apart.0 in
          ap (λ b. cond b (other ∷ put_row row others) (cond (other.key == row.key) (row ∷ others) (row ∷ other ∷ others))) (le-ltb other.key row.key (omega arith))
          ∙ ap (λ b. cond b (row ∷ others) (row ∷ other ∷ others)) apart.0
          ∙ sym (ap (λ b. cond b (row ∷ other ∷ others) (other ∷ insert_row row others)) (lt-ltb row.key other.key (omega (arith, differs))))
    ]

-- rows of two keys are inserted in any order
insert_first : (row other : PlainRow) (others : List PlainRow) → row.key < other.key → insert_row row (other ∷ others) ≡ row ∷ other ∷ others
insert_first row other others less = ap (λ b. cond b (row ∷ other ∷ others) (other ∷ insert_row row others)) (lt-ltb row.key other.key less)

insert_later : (row other : PlainRow) (others : List PlainRow) → other.key ≤ row.key → insert_row row (other ∷ others) ≡ other ∷ insert_row row others
insert_later row other others most = ap (λ b. cond b (row ∷ other ∷ others) (other ∷ insert_row row others)) (le-ltb row.key other.key most)

insert_two : (a b : PlainRow) (rows : List PlainRow) → a.key < b.key → insert_row a (insert_row b rows) ≡ insert_row b (insert_row a rows)
insert_two a b [] less = insert_first a b [] less ∙ sym (insert_later b a [] (omega arith))
insert_two a b (other ∷ others) less =
    elim (cases_lt b.key other.key) [
      | inl second ↦
          ap (insert_row a) (insert_first b other others second)
          ∙ insert_first a b (other ∷ others) less
          ∙ sym (ap (insert_row b) (insert_first a other others (omega arith)) ∙ insert_later b a (other ∷ others) (omega arith) ∙ ap (λ rest. a ∷ rest) (insert_first b other others second))
      | inr later ↦
          ap (insert_row a) (insert_later b other others (omega arith))
          ∙ (elim (cases_lt a.key other.key) [
            | inl first ↦
                insert_first a other (insert_row b others) first
                ∙ sym (ap (insert_row b) (insert_first a other others first) ∙ insert_later b a (other ∷ others) (omega arith) ∙ ap (λ rest. a ∷ rest) (insert_later b other others (omega arith)))
            | inr both ↦
                insert_later a other (insert_row b others) (omega arith)
                ∙ ap (λ rest. other ∷ rest) (insert_two a b others less)
                ∙ sym (ap (insert_row b) (insert_later a other others (omega arith)) ∙ insert_later b other (insert_row a others) (omega arith))
          ])
    ]

adding-insert : (added rows : List PlainRow) (row : PlainRow) → AllByRecursion (λ key. row.key < key) (keys added) → adding added (insert_row row rows) ≡ insert_row row (adding added rows)
adding-insert [] rows row above = refl
adding-insert (other ∷ added) rows row above =
    ap (insert_row other) (adding-insert added rows row above.1) ∙ sym (insert_two row other (adding added rows) above.0)

-- rows whose keys no other has are added
pub put_rows-new : (added rows : List PlainRow) → IsRising (keys added) → AllByRecursion (λ key. is_among key (keys rows) ≡ false) (keys added) → put_rows added rows ≡ adding added rows
put_rows-new [] rows rising free = refl
put_rows-new (row ∷ added) rows rising free =
    put_rows-new added (put_row row rows) rising.1
    (every_both (λ key. row.key < key) (λ key. is_among key (keys rows) ≡ false) (λ key. is_among key (keys (put_row row rows)) ≡ false) (keys added)
    (λ key above absent. among-put_row key row rows ∙ or_from (row.key == key) (is_among key (keys rows)) (ne_eqb row.key key (λ same. omega arith)) absent) rising.0 free.1)
    ∙ ap (adding added) (put_new row rows free.0)
    ∙ adding-insert added rows row rising.0

-- a row whose key another has stands in place of it
not_found : (key : ℕ) (rows : List PlainRow) → AllByRecursion (λ other. key < other) (keys rows) → row_at key rows ≡ None
not_found key [] above = refl
not_found key (row ∷ rows) above = ap (λ b. cond b (Some row) (row_at key rows)) (ne_eqb row.key key (λ same. omega (arith, above.0))) ∙ not_found key rows above.1

abbrev replaced : PlainRow → PlainRow → PlainRow
replaced row other = unwrap_or (cond (row.key == other.key) (Some row) None) other

put_known : (row : PlainRow) (rows : List PlainRow) → IsRising (keys rows) → is_among row.key (keys rows) ≡ true → put_row row rows ≡ modifying (row ∷ []) rows
put_known row [] rising here = absurd (true≢false (sym here))
put_known row (other ∷ others) rising here =
    elim (cases_lt other.key row.key) [
      | inl less ↦
          let differs : (other.key == row.key) ≡ false = ne_eqb other.key row.key (λ same. omega arith) in
          ap (λ b. cond b (other ∷ put_row row others) (cond (other.key == row.key) (row ∷ others) (row ∷ other ∷ others))) (lt-ltb other.key row.key less)
          ∙ ap₂ (λ (first : PlainRow) (rest : List PlainRow). first ∷ rest)
          (sym (ap (λ b. unwrap_or (cond b (Some row) None) other) (ne_eqb row.key other.key (λ same. omega arith))))
          (put_known row others rising.1 (sym (ap (λ b. b || is_among row.key (keys others)) differs) ∙ here))
      | inr more ↦ at (other.key == row.key) refl (omega arith)
    ]
  where
    at : (b : Bool) → (other.key == row.key) ≡ b → row.key ≤ other.key → put_row row (other ∷ others) ≡ modifying (row ∷ []) (other ∷ others)
    at true e most =
        let same = eqb-true other.key row.key e in
        ap (λ b. cond b (other ∷ put_row row others) (cond (other.key == row.key) (row ∷ others) (row ∷ other ∷ others))) (le-ltb other.key row.key most)
        ∙ ap (λ b. cond b (row ∷ others) (row ∷ other ∷ others)) e
        ∙ ap₂ (λ (first : PlainRow) (rest : List PlainRow). first ∷ rest)
        (sym (ap (λ b. unwrap_or (cond b (Some row) None) other) (eq-eqb row.key other.key (sym same))))
        (sym (map_own (replaced row) others
        (every_weaker (λ (next : PlainRow). other.key < next.key) (λ next. replaced row next ≡ next) others
        (λ next above. ap (λ b. unwrap_or (cond b (Some row) None) next) (ne_eqb row.key next.key (λ equal. omega (arith, same, equal, above))))
        (every_unmapped (λ k. other.key < k) (λ (next : PlainRow). next.key) others rising.0))))
    at false e most =
        let differs = eqb-false other.key row.key e in
        let less : row.key < other.key = omega (arith, differs) in
        absurd (true≢false
        (sym here ∙ or_from (other.key == row.key) (is_among row.key (keys others)) e
        (among_below row.key (keys others) (every_weaker (λ k. other.key < k) (λ k. row.key < k) (keys others) (λ k above. omega (arith, above, less)) rising.0))))

modifying-modifying : (row : PlainRow) (modified rows : List PlainRow) → row_at row.key modified ≡ None → modifying modified (modifying (row ∷ []) rows) ≡ modifying (row ∷ modified) rows
modifying-modifying row modified rows once =
    map_map (λ (other : PlainRow). unwrap_or (row_at other.key modified) other) (replaced row) rows
    ∙ map_same (λ (other : PlainRow). unwrap_or (row_at (replaced row other).key modified) (replaced row other)) (λ (other : PlainRow). unwrap_or (row_at other.key (row ∷ modified)) other) rows
    (every (λ (other : PlainRow). unwrap_or (row_at (replaced row other).key modified) (replaced row other) ≡ unwrap_or (row_at other.key (row ∷ modified)) other) rows
    (λ other. elim (row.key == other.key) as (λ b. unwrap_or (row_at (unwrap_or (cond b (Some row) None) other).key modified) (unwrap_or (cond b (Some row) None) other) ≡ unwrap_or (cond b (Some row) (row_at other.key modified)) other) [
      | true ↦ ap (λ o. unwrap_or o row) once
      | false ↦ refl
    ]))

-- rows whose keys others have are modified
pub put_rows-known : (modified rows : List PlainRow) → IsRising (keys modified) → IsRising (keys rows) → AllByRecursion (λ key. is_among key (keys rows) ≡ true) (keys modified) → put_rows modified rows ≡ modifying modified rows
put_rows-known [] rows rising rows_rise there = sym (map_own (λ row. row) rows (every (λ (row : PlainRow). row ≡ row) rows (λ row. refl)))
put_rows-known (row ∷ modified) rows rising rows_rise there =
    ap (put_rows modified) (put_known row rows rows_rise there.0)
    ∙ put_rows-known modified (modifying (row ∷ []) rows) rising.1 (subst IsRising (sym (keys-modifying (row ∷ []) rows)) rows_rise)
    (subst (λ ks. AllByRecursion (λ key. is_among key ks ≡ true) (keys modified)) (sym (keys-modifying (row ∷ []) rows)) there.1)
    ∙ modifying-modifying row modified rows (not_found row.key modified rising.0)

-- the first of some rows has as many cells as a row has, and the others have theirs behind them
pub row_fits : (n width cells : ℕ) → suc n * width ≤ cells → width ≤ cells
row_fits n width cells room = omega (arith, suc-mul n width)

pub room_next : (n width : ℕ) (cells : List ℤ) → suc n * width ≤ length cells → n * width ≤ length (drop width cells)
room_next n width cells room = omega (arith, suc-mul n width, length-drop width cells)

pub rest_next : (n width : ℕ) (cells : List ℤ) → drop (n * width) (drop width cells) ≡ drop (suc n * width) cells
rest_next n width cells = let more : width + n * width ≡ suc n * width = omega (arith, suc-mul n width) in drop-drop (n * width) width cells ∙ ap (λ k. drop k cells) more

-- rows whose cells stand one after the other
pub rows_under-append : (width : ℕ) (first second : List ℕ) (cells : List ℤ) → rows_under width (first ++ second) cells ≡ rows_under width first cells ++ rows_under width second (drop (length first * width) cells)
rows_under-append width [] second cells = ap (λ n. rows_under width second (drop n cells)) (sym (zero-mul width))
rows_under-append width (key ∷ first) second cells =
    let here : PlainRow = record { key = key; cells = take width cells } in
    ap (λ rest. here ∷ rest)
    (rows_under-append width first second (drop width cells)
    ∙ ap (λ more. rows_under width first (drop width cells) ++ rows_under width second more) (rest_next (length first) width cells))

pub put_two : (width : ℕ) (first second : List ℕ) (cells : List ℤ) (rows : List PlainRow)
    → put_rows (rows_under width second (drop (length first * width) cells)) (put_rows (rows_under width first cells) rows) ≡ put_rows (rows_under width (first ++ second) cells) rows
put_two width first second cells rows =
    sym (put_rows-append (rows_under width first cells) (rows_under width second (drop (length first * width) cells)) rows)
    ∙ ap (λ some. put_rows some rows) (sym (rows_under-append width first second cells))
