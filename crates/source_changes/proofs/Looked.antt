-- Rows that are found by key, where rows were put, added, modified or moved.
use Rattle.std.proofs.Common.{◌≡◌, refl, ap, ap₂, sym, ◌∙◌, subst, Bool, Option, true, false, cond, not, ◌||◌, ◌&&◌, ℕ, ◌<◌, ◌≤◌, ◌==◌, arith, List, [], ◌∷◌, ℤ, Some, None, ltb, true≢false, unwrap_or, inl, inr}
use Rattle.std.{specs.Prelude.option_map, specs.List.AllByRecursion, specs.Option.{is_some, option_or}, proofs.lemmas.Bool.{cases_eq, ne_eqb, eq-eqb, eqb-true, eqb-false, ltb-true, ltb-false, or_parts, or_from}}
use Rattle.key_lists.{specs.Keys.{is_among, IsRising, without}, proofs.Among.{among_below, among-filter, of_among}, proofs.Every.{every_weaker, every_unmapped, map_map}}
use Rattle.tick_model.{specs.declared.table.PlainRow.PlainRow, specs.declared.update.ShiftRange.ShiftRange, specs.Rules.landed, specs.Shifts.{as_key, moved}, specs.Tables.{cells_at, keys, row_at}, specs.Updates.{adding, insert_row, modifying, moved_row, removing, shifting}, proofs.Among.{rest_above, row_at-filter, row_below}}
use Rattle.tick_table.{specs.Placed.{put_row, put_rows}, proofs.NewKeys.{among-adding, key-row_at}, proofs.CarriedRows.keys-removing}

-- a row is found exactly under the keys of the rows
pub is_there : (key : ℕ) (rows : List PlainRow) → is_among key (keys rows) ≡ is_some (row_at key rows)
is_there key [] = refl
is_there key (row ∷ rows) = elim (row.key == key) as (λ b. (b || is_among key (keys rows)) ≡ is_some (cond b (Some row) (row_at key rows))) [ true ↦ refl | false ↦ is_there key rows ]

pub found_there : (key : ℕ) (rows : List PlainRow) → is_among key (keys rows) ≡ true → (row : PlainRow) × ((row_at key rows ≡ Some row) × (row.key ≡ key))
found_there key [] h = absurd (true≢false (sym h))
found_there key (row ∷ rows) h =
    (elim (row.key == key) as (λ b. (row.key == key) ≡ b → (b || is_among key (keys rows)) ≡ true → (found : PlainRow) × ((cond b (Some row) (row_at key rows) ≡ Some found) × (found.key ≡ key))) [
      | true ↦ λ e h. (row, (refl, eqb-true row.key key e))
      | false ↦ λ e h. found_there key rows h
    ]) refl h

swapped : (a b : Bool) (x y z : Option PlainRow) → (a ≡ true → b ≡ false) → cond a x (cond b y z) ≡ cond b y (cond a x z)
swapped true b x y z h = sym (ap (λ t. cond t y x) (h refl))
swapped false b x y z h = refl

not_both : (other row key : ℕ) → (other ≡ row → ⊥) → (other == key) ≡ true → (row == key) ≡ false
not_both other row key h e = ne_eqb row key (λ same. h (eqb-true other key e ∙ sym same))

-- a row that is put among others
pub row_at-put_row : (key : ℕ) (row : PlainRow) (rows : List PlainRow) → row_at key (put_row row rows) ≡ cond (row.key == key) (Some row) (row_at key rows)
row_at-put_row key row [] = refl
row_at-put_row key row (other ∷ others) =
    (elim (ltb other.key row.key) as (λ b. ltb other.key row.key ≡ b → row_at key (cond b (other ∷ put_row row others) (cond (other.key == row.key) (row ∷ others) (row ∷ other ∷ others))) ≡ cond (row.key == key) (Some row) (row_at key (other ∷ others))) [
      | true ↦ λ less.
          ap (cond (other.key == key) (Some other)) (row_at-put_row key row others)
          ∙ swapped (other.key == key) (row.key == key) (Some other) (Some row) (row_at key others) (not_both other.key row.key key (λ same. let l : other.key < row.key = ltb-true other.key row.key less in absurd (omega arith)))
      | false ↦ λ more. not_less (other.key == row.key) refl
    ]) refl
  where
    in_place : (other.key ≡ row.key) → (b : Bool) → (row.key == key) ≡ b → cond b (Some row) (row_at key others) ≡ cond b (Some row) (cond (other.key == key) (Some other) (row_at key others))
    in_place same true e = refl
    in_place same false e = sym (ap (λ t. cond t (Some other) (row_at key others)) (ap (λ k. k == key) same ∙ e))

    not_less : (b : Bool) → (other.key == row.key) ≡ b → row_at key (cond b (row ∷ others) (row ∷ other ∷ others)) ≡ cond (row.key == key) (Some row) (row_at key (other ∷ others))
    not_less true e = in_place (eqb-true other.key row.key e) (row.key == key) refl
    not_less false e = refl

pub row_at-put_rows : (key : ℕ) (rows others : List PlainRow) → IsRising (keys rows) → row_at key (put_rows rows others) ≡ option_or (row_at key rows) (row_at key others)
row_at-put_rows key [] others r = refl
row_at-put_rows key (row ∷ rows) others r =
    row_at-put_rows key rows (put_row row others) r.1
    ∙ ap (option_or (row_at key rows)) (row_at-put_row key row others)
    ∙ first (row.key == key) refl
  where
    first : (b : Bool) → (row.key == key) ≡ b → option_or (row_at key rows) (cond b (Some row) (row_at key others)) ≡ option_or (cond b (Some row) (row_at key rows)) (row_at key others)
    first true e =
        ap (λ o. option_or o (Some row))
        (row_below key rows (every_weaker (λ (other : PlainRow). row.key < other.key) (λ other. key < other.key) rows (λ other less. subst (λ k. k < other.key) (eqb-true row.key key e) less) (rest_above row rows r)))
    first false e = refl

is_some-or : {X : Type 0} (a b : Option X) → is_some (option_or a b) ≡ (is_some a || is_some b)
is_some-or None b = refl
is_some-or (Some x) b = refl

pub among-put_rows : (key : ℕ) (rows others : List PlainRow) → IsRising (keys rows) → is_among key (keys (put_rows rows others)) ≡ (is_among key (keys rows) || is_among key (keys others))
among-put_rows key rows others r =
    is_there key (put_rows rows others) ∙ ap is_some (row_at-put_rows key rows others r) ∙ is_some-or (row_at key rows) (row_at key others)
    ∙ ap₂ (λ a b. a || b) (sym (is_there key rows)) (sym (is_there key others))

every-put_row : (P : ℕ → Type 0) (row : PlainRow) (rows : List PlainRow) → P row.key → AllByRecursion P (keys rows) → AllByRecursion P (keys (put_row row rows))
every-put_row P row [] p h = (p, tt)
every-put_row P row (other ∷ others) p h =
    elim (ltb other.key row.key) as (λ b. AllByRecursion P (keys (cond b (other ∷ put_row row others) (cond (other.key == row.key) (row ∷ others) (row ∷ other ∷ others))))) [
      | true ↦ (h.0, every-put_row P row others p h.1)
      | false ↦ elim (other.key == row.key) as (λ b. AllByRecursion P (keys (cond b (row ∷ others) (row ∷ other ∷ others)))) [ true ↦ (p, h.1) | false ↦ (p, h) ]
    ]

rising-put_row : (row : PlainRow) (rows : List PlainRow) → IsRising (keys rows) → IsRising (keys (put_row row rows))
rising-put_row row [] r = (tt, tt)
rising-put_row row (other ∷ others) r =
    (elim (ltb other.key row.key) as (λ b. ltb other.key row.key ≡ b → IsRising (keys (cond b (other ∷ put_row row others) (cond (other.key == row.key) (row ∷ others) (row ∷ other ∷ others))))) [
      | true ↦ λ less. (every-put_row (λ key. other.key < key) row others (ltb-true other.key row.key less) r.0, rising-put_row row others r.1)
      | false ↦ λ more. not_less (ltb-false other.key row.key more) (other.key == row.key) refl
    ]) refl
  where
    not_less : row.key ≤ other.key → (b : Bool) → (other.key == row.key) ≡ b → IsRising (keys (cond b (row ∷ others) (row ∷ other ∷ others)))
    not_less most true e = (subst (λ k. AllByRecursion (λ key. k < key) (keys others)) (eqb-true other.key row.key e) r.0, r.1)
    not_less most false e =
        let ne = eqb-false other.key row.key e in
        let less : row.key < other.key = omega arith in
        ((less, every_weaker (λ key. other.key < key) (λ key. row.key < key) (keys others) (λ key h. omega (arith, less, h)) r.0), r)

pub rising-put_rows : (rows others : List PlainRow) → IsRising (keys others) → IsRising (keys (put_rows rows others))
rising-put_rows [] others r = r
rising-put_rows (row ∷ rows) others r = rising-put_rows rows (put_row row others) (rising-put_row row others r)

-- rows that are added
row_at-insert_row : (key : ℕ) (row : PlainRow) (rows : List PlainRow) → is_among row.key (keys rows) ≡ false → row_at key (insert_row row rows) ≡ cond (row.key == key) (Some row) (row_at key rows)
row_at-insert_row key row [] h = refl
row_at-insert_row key row (other ∷ others) h =
    elim (ltb row.key other.key) as (λ b. row_at key (cond b (row ∷ other ∷ others) (other ∷ insert_row row others)) ≡ cond (row.key == key) (Some row) (row_at key (other ∷ others))) [
      | true ↦ refl
      | false ↦
          let apart = or_parts (other.key == row.key) (is_among row.key (keys others)) h in
          ap (cond (other.key == key) (Some other)) (row_at-insert_row key row others apart.1)
          ∙ swapped (other.key == key) (row.key == key) (Some other) (Some row) (row_at key others) (not_both other.key row.key key (eqb-false other.key row.key apart.0))
    ]

pub row_at-adding : (key : ℕ) (added rows : List PlainRow) → IsRising (keys added) → AllByRecursion (λ k. is_among k (keys rows) ≡ false) (keys added) → row_at key (adding added rows) ≡ option_or (row_at key added) (row_at key rows)
row_at-adding key [] rows r h = refl
row_at-adding key (row ∷ added) rows r h =
    row_at-insert_row key row (adding added rows)
    (among-adding row.key added rows ∙ or_from (is_among row.key (keys added)) (is_among row.key (keys rows)) (among_below row.key (keys added) r.0) h.0)
    ∙ ap (cond (row.key == key) (Some row)) (row_at-adding key added rows r.1 h.1)
    ∙ elim (row.key == key) as (λ b. cond b (Some row) (option_or (row_at key added) (row_at key rows)) ≡ option_or (cond b (Some row) (row_at key added)) (row_at key rows)) [ true ↦ refl | false ↦ refl ]

-- rows that are modified
row_at-modifying : (key : ℕ) (modified rows : List PlainRow) → row_at key (modifying modified rows) ≡ option_map (λ (row : PlainRow). unwrap_or (row_at row.key modified) row) (row_at key rows)
row_at-modifying key modified [] = refl
row_at-modifying key modified (row ∷ rows) =
    ap₂ (λ k rest. cond (k == key) (Some (unwrap_or (row_at row.key modified) row)) rest) (key-row_at row.key modified row refl) (row_at-modifying key modified rows)
    ∙ elim (row.key == key) as (λ b. cond b (Some (unwrap_or (row_at row.key modified) row)) (option_map (λ (row : PlainRow). unwrap_or (row_at row.key modified) row) (row_at key rows)) ≡ option_map (λ (row : PlainRow). unwrap_or (row_at row.key modified) row) (cond b (Some row) (row_at key rows))) [
      | true ↦ refl
      | false ↦ refl
    ]

-- a row that is there is found among the modified ones, or as it was
pub row_at-modified : (key : ℕ) (modified rows : List PlainRow) → is_among key (keys rows) ≡ true → row_at key (modifying modified rows) ≡ option_or (row_at key modified) (row_at key rows)
row_at-modified key modified rows h =
    let found = found_there key rows h in
    row_at-modifying key modified rows
    ∙ ap (option_map (λ (row : PlainRow). unwrap_or (row_at row.key modified) row)) found.1.0
    ∙ ap (λ k. Some (unwrap_or (row_at k modified) found.0)) found.1.1
    ∙ elim (row_at key modified) as (λ o. Some (unwrap_or o found.0) ≡ option_or o (Some found.0)) [ None ↦ refl | Some row ↦ refl ]
    ∙ ap (option_or (row_at key modified)) (sym found.1.0)

-- rows that move
pub keys-shifting : (shifts : List ShiftRange) (rows : List PlainRow) → keys (shifting shifts rows) ≡ landed shifts (keys rows)
keys-shifting shifts rows = map_map (λ (row : PlainRow). row.key) (moved_row shifts) rows ∙ sym (map_map (λ key. as_key (moved shifts key)) (λ (row : PlainRow). row.key) rows)

row_at-shifting : (shifts : List ShiftRange) (key : ℕ) (rows : List PlainRow) → IsRising (landed shifts (keys rows)) → is_among key (keys rows) ≡ true → row_at (as_key (moved shifts key)) (shifting shifts rows) ≡ option_map (moved_row shifts) (row_at key rows)
row_at-shifting shifts key [] r h = absurd (true≢false (sym h))
row_at-shifting shifts key (row ∷ rows) r h =
    elim (cases_eq row.key key) [
      | inl same ↦
          ap (λ b. cond b (Some (moved_row shifts row)) (row_at (place key) (shifting shifts rows))) (eq-eqb (place row.key) (place key) (ap place same))
          ∙ sym (ap (λ b. option_map (moved_row shifts) (cond b (Some row) (row_at key rows))) (eq-eqb row.key key same))
      | inr other ↦
          let rest : is_among key (keys rows) ≡ true = sym (ap (λ b. b || is_among key (keys rows)) (ne_eqb row.key key other)) ∙ h in
          let above : place row.key < place key = of_among (λ k. place row.key < place k) key (keys rows) (every_unmapped (λ p. place row.key < p) place (keys rows) r.0) rest in
          ap (λ b. cond b (Some (moved_row shifts row)) (row_at (place key) (shifting shifts rows))) (ne_eqb (place row.key) (place key) (λ same. absurd (omega (arith, above, same))))
          ∙ row_at-shifting shifts key rows r.1 rest
          ∙ sym (ap (λ b. option_map (moved_row shifts) (cond b (Some row) (row_at key rows))) (ne_eqb row.key key other))
    ]
  where
    place : ℕ → ℕ
    place k = as_key (moved shifts k)

-- the cells of a row that stays, where it moves to
pub cells_at-stay : (shifts : List ShiftRange) (removed : List ℕ) (key : ℕ) (rows : List PlainRow) → IsRising (landed shifts (without removed (keys rows))) → is_among key (keys rows) ≡ true → is_among key removed ≡ false
    → cells_at (as_key (moved shifts key)) (shifting shifts (removing removed rows)) ≡ cells_at key rows
cells_at-stay shifts removed key rows r h stays =
    ap cells_of (row_at-shifting shifts key (removing removed rows) (subst (λ ks. IsRising (landed shifts ks)) (sym (keys-removing removed rows)) r) here
    ∙ ap (option_map (moved_row shifts)) (row_at-filter (λ k. not (is_among k removed)) key rows (ap not stays)))
    ∙ elim (row_at key rows) as (λ o. cells_of (option_map (moved_row shifts) o) ≡ cells_of o) [ None ↦ refl | Some row ↦ refl ]
  where
    cells_of : Option PlainRow → List ℤ
    cells_of o = unwrap_or (option_map (λ (row : PlainRow). row.cells) o) []

    here : is_among key (keys (removing removed rows)) ≡ true
    here = ap (is_among key) (keys-removing removed rows) ∙ among-filter (λ k. not (is_among k removed)) key (keys rows) ∙ ap₂ (λ a b. not a && b) stays h
