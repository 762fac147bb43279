-- The cells of rows after others were put among them, and after they moved.
use Rattle.std.proofs.Common.{◌≡◌, refl, ap, ap₂, sym, ◌∙◌, true, false, cond, not, ◌&&◌, ◌||◌, ℕ, ◌<◌, arith, List, [], ◌∷◌, ◌++◌, Some, ℤ, ltb, ◌==◌, inl, inr, unwrap_or, true≢false}
use Rattle.std.{specs.Prelude.{flat_map, option_map}, specs.List.AllByRecursion, proofs.lemmas.Bool.{cases_eq, eqb-true, eqb-false, ltb-true, ne_eqb, or_from, or_parts}}
use Rattle.key_lists.{specs.Keys.{is_among, IsRising}, proofs.Among.{among-append, among-filter, among_below, of_among}, proofs.Every.every_unmapped}
use Rattle.tick_model.{specs.declared.table.PlainRow.PlainRow, specs.declared.update.ShiftRange.ShiftRange, specs.Rules.landed, specs.Shifts.{as_key, moved}, specs.Tables.{cells_at, keys, row_at}, specs.Updates.{Update, moved_row, removing, shifting}, proofs.Among.row_at-filter}
use Rattle.tick_table.{specs.Placed.{put_row, put_rows, stayed}, proofs.CarriedRows.keys-removing, proofs.Paired.{at_first, at_later}}

-- another row than the one that is put keeps its cells
pub at_put_row : (key : ℕ) (row : PlainRow) (rows : List PlainRow) → (row.key ≡ key → ⊥) → cells_at key (put_row row rows) ≡ cells_at key rows
at_put_row key row [] differs = at_later key row [] differs
at_put_row key row (other ∷ others) differs =
    elim (ltb other.key row.key) as (λ b. cells_at key (cond b (other ∷ put_row row others) (cond (other.key == row.key) (row ∷ others) (row ∷ other ∷ others))) ≡ cells_at key (other ∷ others)) [
      | true ↦ elim (other.key == key) as (λ b. unwrap_or (option_map (λ (row : PlainRow). row.cells) (cond b (Some other) (row_at key (put_row row others)))) [] ≡ unwrap_or (option_map (λ (row : PlainRow). row.cells) (cond b (Some other) (row_at key others))) []) [
        | true ↦ refl
        | false ↦ at_put_row key row others differs
      ]
      | false ↦ (elim (other.key == row.key) as (λ b. (other.key == row.key) ≡ b → cells_at key (cond b (row ∷ others) (row ∷ other ∷ others)) ≡ cells_at key (other ∷ others)) [
        | true ↦ λ same. at_later key row others differs ∙ sym (at_later key other others (λ e. differs (sym (eqb-true other.key row.key same) ∙ e)))
        | false ↦ λ apart. at_later key row (other ∷ others) differs
      ]) refl
    ]

pub at_put_rows : (key : ℕ) (told rows : List PlainRow) → is_among key (keys told) ≡ false → cells_at key (put_rows told rows) ≡ cells_at key rows
at_put_rows key [] rows absent = refl
at_put_rows key (row ∷ told) rows absent =
    let parts = or_parts (row.key == key) (is_among key (keys told)) absent in
    at_put_rows key told (put_row row rows) parts.1 ∙ at_put_row key row rows (eqb-false row.key key parts.0)

-- the one that is put has its own
at_put_own : (row : PlainRow) (rows : List PlainRow) → cells_at row.key (put_row row rows) ≡ row.cells
at_put_own row [] = at_first row.key row [] refl
at_put_own row (other ∷ others) =
    (elim (ltb other.key row.key) as (λ b. ltb other.key row.key ≡ b → cells_at row.key (cond b (other ∷ put_row row others) (cond (other.key == row.key) (row ∷ others) (row ∷ other ∷ others))) ≡ row.cells) [
      | true ↦ λ less. at_later row.key other (put_row row others) (λ same. omega (arith, ltb-true other.key row.key less, same)) ∙ at_put_own row others
      | false ↦ λ most. elim (other.key == row.key) as (λ b. cells_at row.key (cond b (row ∷ others) (row ∷ other ∷ others)) ≡ row.cells) [
        | true ↦ at_first row.key row others refl
        | false ↦ at_first row.key row (other ∷ others) refl
      ]
    ]) refl

-- no key of a list stands in it again
abbrev pub AreOnce : List ℕ → Type 0
AreOnce [] = Unit {0}
AreOnce (key ∷ ks) = (is_among key ks ≡ false) × AreOnce ks

pub once-rising : (ks : List ℕ) → IsRising ks → AreOnce ks
once-rising [] rises = tt
once-rising (key ∷ ks) rises = (among_below key ks rises.0, once-rising ks rises.1)

pub once-append : (ks others : List ℕ) → AreOnce ks → AreOnce others → AllByRecursion (λ key. is_among key others ≡ false) ks → AreOnce (ks ++ others)
once-append [] others once rest apart = rest
once-append (key ∷ ks) others once rest apart =
    (among-append key ks others ∙ or_from (is_among key ks) (is_among key others) once.0 apart.0, once-append ks others once.1 rest apart.1)

pub told_own : (told rows : List PlainRow) → AreOnce (keys told) → AllByRecursion (λ row. cells_at row.key (put_rows told rows) ≡ row.cells) told
told_own [] rows once = tt
told_own (row ∷ told) rows once = (at_put_rows row.key told (put_row row rows) once.0 ∙ at_put_own row rows, told_own told (put_row row rows) once.1)

-- a row that moves keeps its cells
at_moved : (shifts : List ShiftRange) (key : ℕ) (rows : List PlainRow) → IsRising (landed shifts (keys rows)) → is_among key (keys rows) ≡ true → cells_at (as_key (moved shifts key)) (shifting shifts rows) ≡ cells_at key rows
at_moved shifts key [] rises here = absurd (true≢false (sym here))
at_moved shifts key (row ∷ rows) rises here =
    let place : ℕ → ℕ = λ k. as_key (moved shifts k) in
    elim (cases_eq row.key key) [
      | inl same ↦ at_first (place key) (moved_row shifts row) (shifting shifts rows) (ap place same) ∙ sym (at_first key row rows same)
      | inr differs ↦
          let later : is_among key (keys rows) ≡ true = sym (ap (λ b. b || is_among key (keys rows)) (ne_eqb row.key key differs)) ∙ here in
          let less : place row.key < place key = of_among (λ k. place row.key < place k) key (keys rows) (every_unmapped (λ k. place row.key < k) place (keys rows) rises.0) later in
          at_later (place key) (moved_row shifts row) (shifting shifts rows) (λ same. omega (arith, less, same))
          ∙ at_moved shifts key rows rises.1 later
          ∙ sym (at_later key row rows differs)
    ]

pub at_stayed : (update : Update) (key : ℕ) (rows : List PlainRow) → IsRising (landed update.shifted (keys (removing update.removed rows))) → is_among key (keys rows) ≡ true → is_among key update.removed ≡ false
    → cells_at (as_key (moved update.shifted key)) (stayed update rows) ≡ cells_at key rows
at_stayed update key rows rises here stays =
    at_moved update.shifted key (removing update.removed rows) rises
    (ap (is_among key) (keys-removing update.removed rows) ∙ among-filter (λ k. not (is_among k update.removed)) key (keys rows) ∙ ap₂ (λ a b. not a && b) stays here)
    ∙ ap (λ o. unwrap_or (option_map (λ (row : PlainRow). row.cells) o) []) (row_at-filter (λ k. not (is_among k update.removed)) key rows (ap not stays))

-- lists of the same, joined
pub flat_map-same : (f g : ℕ → List ℤ) (ks : List ℕ) → AllByRecursion (λ key. f key ≡ g key) ks → flat_map f ks ≡ flat_map g ks
flat_map-same f g [] same = refl
flat_map-same f g (key ∷ ks) same = ap₂ (λ (xs ys : List ℤ). xs ++ ys) same.0 (flat_map-same f g ks same.1)
