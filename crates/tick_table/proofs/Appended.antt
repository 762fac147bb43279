-- Rows whose keys all come behind those of the others.
use Rattle.std.proofs.Common.{◌≡◌, refl, ap, ap₂, sym, ◌∙◌, subst, Bool, true, false, cond, not, ◌||◌, ◌&&◌, ◌==◌, ℕ, ◌+◌, ◌*◌, ◌<◌, ◌≤◌, arith, List, [], ◌∷◌, ◌++◌, append_assoc, append-nil, length, map, take, drop, ltb, ltb-true, unwrap_or, Some, ℤ}
use Rattle.std.{specs.Prelude.{filter, slice_get, Option}, specs.Bool.OnTrue, specs.List.{AllByRecursion, range_with_len}, proofs.Math.Nat.add-mul, proofs.lemmas.List.{drop-drop, drop-take, map-append, take-take}, proofs.lemmas.Bool.eqb-true}
use Rattle.key_lists.{specs.Keys.{is_among, IsRising, without}, proofs.Among.{among-append, among-filter, of_among}, proofs.Booleans.or_false, proofs.Every.{every_weaker, map_same}, proofs.Ranges.each_from, proofs.Rising.{rising-append, rising_same, rising_some}}
use Rattle.row_set.specs.Sets.{count_below}
use Rattle.tick_laws.proofs.ResultCells.{length-filter_most}
use Rattle.tick_model.{specs.declared.table.PlainRow.PlainRow, specs.Changes.rows_under, specs.Tables.keys, proofs.RowLists.keys-rows_under}
use Rattle.tick_table.{specs.Placed.{paired, put_row, put_rows}, specs.Slots.{slot_cells, slot_list}, proofs.Paired.{count_without, keys-paired, put_behind}, proofs.SlotCells.slot_fits}

-- all pass where as many pass as there are
pass_as_many : (p : ℕ → Bool) (xs : List ℕ) → length (filter p xs) ≡ length xs → AllByRecursion (λ x. p x ≡ true) xs
pass_as_many p [] e = tt
pass_as_many p (x ∷ xs) e =
    (elim (p x) as (λ b. p x ≡ b → length (cond b (x ∷ filter p xs) (filter p xs)) ≡ length (x ∷ xs) → AllByRecursion (λ x. p x ≡ true) (x ∷ xs)) [
      | true ↦ λ here e. (here, pass_as_many p xs (omega (arith, e)))
      | false ↦ λ other e. absurd (omega (arith, e, length-filter_most p xs))
    ]) refl e

-- the first of rising keys is the least
first_least : (first : ℕ) (ks : List ℕ) → IsRising ks → slice_get ks 0 ≡ Some first → AllByRecursion (λ key. first ≤ key) ks
first_least first [] rises e = tt
first_least first (key ∷ ks) rises e =
    let same : key ≡ first = ap (λ (found : Option ℕ). unwrap_or found 0) e in
    (omega (arith, same), every_weaker (λ other. key < other) (λ other. first ≤ other) ks (λ other above. omega (arith, same, above)) rises.0)

-- keys of which as many are below a first one as there are others
pub others_first : (first : ℕ) (added rows : List ℕ) → IsRising rows → IsRising added → AllByRecursion (λ key. is_among key rows ≡ true) added → slice_get added 0 ≡ Some first → count_below first rows ≡ length (without added rows) → rows ≡ without added rows ++ added
others_first first added rows rises added_rise own is count =
    rising_same rows (others ++ added) rises (rising-append first others added below least (rising_some (λ key. not (is_among key added)) rows rises) added_rise) (λ key. sym (among-append key others added ∙ ap (λ b. b || is_among key added) (among-filter (λ key. not (is_among key added)) key rows) ∙ either key (is_among key added) refl))
  where
    others : List ℕ
    others = without added rows

    least : AllByRecursion (λ key. first ≤ key) added
    least = first_least first added added_rise is

    below : AllByRecursion (λ key. key < first) others
    below = every_weaker (λ key. ltb key first ≡ true) (λ key. key < first) others (λ key e. ltb-true key first e) (pass_as_many (λ key. ltb key first) others (count_without first added rows least ∙ count))

    either : (key : ℕ) (b : Bool) → is_among key added ≡ b → ((not b && is_among key rows) || b) ≡ is_among key rows
    either key true e = sym (of_among (λ key. is_among key rows ≡ true) key added own e)
    either key false e = or_false (is_among key rows)

pub where_same : (m n : ℕ) (P : Type 0) → (m ≡ n → P) → OnTrue (m == n) P
where_same m n P h =
    (elim (m == n) as (λ b. (m == n) ≡ b → OnTrue b P) [
      | true ↦ λ e. h (eqb-true m n e)
      | false ↦ λ e. tt
    ]) refl

paired-append : (ks more : List ℕ) (rows others : List (List ℤ)) → length rows ≡ length ks → paired (ks ++ more) (rows ++ others) ≡ paired ks rows ++ paired more others
paired-append [] more [] others e = refl
paired-append [] more (row ∷ rows) others e = absurd (omega (arith, e))
paired-append (key ∷ ks) more [] others e = absurd (omega (arith, e))
paired-append (key ∷ ks) more (row ∷ rows) others e = ap (λ (rest : List PlainRow). (record { key = key; cells = row }) ∷ rest) (paired-append ks more rows others (omega (arith, e)))

-- the rows whose cells stand one after the other, from one on
paired_from : (width start : ℕ) (ks : List ℕ) (cells : List ℤ) → paired ks (map (slot_cells width cells) (range_with_len start (length ks))) ≡ rows_under width ks (drop (start * width) cells)
paired_from width start [] cells = refl
paired_from width start (key ∷ ks) cells =
    let next : start * width + width ≡ (start + 1) * width = omega (arith, add-mul start 1 width) in
    ap (λ (rest : List PlainRow). (record { key = key; cells = take width (drop (start * width) cells) }) ∷ rest)
    (paired_from width (start + 1) ks cells ∙ ap (rows_under width ks) (sym (drop-drop width (start * width) cells ∙ ap (λ n. drop n cells) next)))

cells_within : (width n : ℕ) (cells : List ℤ) → slot_list width n (take (n * width) cells) ≡ slot_list width n cells
cells_within width n cells =
    map_same (slot_cells width (take (n * width) cells)) (slot_cells width cells) (range_with_len 0 n) (each_from (λ k. slot_cells width (take (n * width) cells) k ≡ slot_cells width cells k) 0 n (λ k most below. same k (omega (arith, below))))
  where
    same : (k : ℕ) → k < n → slot_cells width (take (n * width) cells) k ≡ slot_cells width cells k
    same k below =
        let ends = slot_fits k n width below in
        sym (drop-take (k * width) width (take (n * width) cells))
        ∙ ap (drop (k * width)) (take-take (k * width + width) (n * width) cells ends)
        ∙ drop-take (k * width) width cells

pub paired_slots : (width n : ℕ) (ks : List ℕ) (cells : List ℤ) → n ≡ length ks → paired ks (slot_list width n (take (n * width) cells)) ≡ rows_under width ks cells
paired_slots width n ks cells e =
    ap (paired ks) (cells_within width n cells ∙ ap (λ m. slot_list width m cells) e)
    ∙ paired_from width 0 ks cells
    ∙ ap (λ m. rows_under width ks (drop m cells)) (let none : 0 * width ≡ 0 = omega arith in none)

-- rows that are put behind others
later_key : (P : ℕ → Type 0) (others : List PlainRow) (row : PlainRow) (rows : List PlainRow) → AllByRecursion P (keys (others ++ row ∷ rows)) → P row.key
later_key P [] row rows h = h.0
later_key P (other ∷ others) row rows h = later_key P others row rows h.1

put_last : (row : PlainRow) (rows others : List PlainRow) → IsRising (keys (others ++ row ∷ rows)) → put_row row others ≡ others ++ row ∷ []
put_last row rows [] rises = refl
put_last row rows (other ∷ others) rises = put_behind row other others (later_key (λ key. other.key < key) others row rows rises.0) ∙ ap (λ rest. other ∷ rest) (put_last row rows others rises.1)

put_all_last : (rows others : List PlainRow) → IsRising (keys (others ++ rows)) → put_rows rows others ≡ others ++ rows
put_all_last [] others rises = sym (append-nil others)
put_all_last (row ∷ rows) others rises =
    ap (put_rows rows) (put_last row rows others rises)
    ∙ put_all_last rows (others ++ row ∷ []) (subst (λ (all : List PlainRow). IsRising (keys all)) (sym (append_assoc others (row ∷ []) rows)) rises)
    ∙ append_assoc others (row ∷ []) rows

pub now_appended : (width : ℕ) (rows ks added : List ℕ) (old more : List (List ℤ)) (cells : List ℤ) → rows ≡ ks ++ added → IsRising rows → length old ≡ length ks → paired added more ≡ rows_under width added cells
    → paired rows (old ++ more) ≡ put_rows (rows_under width added cells) (paired ks old)
now_appended width rows ks added old more cells e rises count told =
    ap (λ all. paired all (old ++ more)) e
    ∙ paired-append ks added old more count
    ∙ ap (λ last. paired ks old ++ last) told
    ∙ sym (put_all_last (rows_under width added cells) (paired ks old) (subst IsRising (e ∙ sym all_keys) rises))
  where
    all_keys : keys (paired ks old ++ rows_under width added cells) ≡ ks ++ added
    all_keys = map-append (λ (row : PlainRow). row.key) (paired ks old) (rows_under width added cells) ∙ ap₂ (λ (front back : List ℕ). front ++ back) (keys-paired ks old count) (keys-rows_under width added cells)
