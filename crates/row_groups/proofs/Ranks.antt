-- The rows of a group in order, where one comes or leaves.
use Rattle.std.proofs.Common.{◌≡◌, refl, ap, sym, ◌∙◌, Bool, true, false, not, cond, ℕ, ◌<◌, ◌≤◌, ltb, arith, List, [], ◌∷◌, filter, ℤ, int_lt, if◌then◌else◌, true≢false}
use Rattle.std.{specs.List.AllByRecursion, proofs.lemmas.Bool.{ltb-true, ltb-false}}
use Rattle.key_lists.proofs.Every.{every_weaker, every-filter}
use Rattle.tick_model.specs.Tables.{same_cells}
use Rattle.row_groups.{specs.Rows.{Row, group_rows, row_placed, rows_by_at}, proofs.Order.{less, less_above, less_below, less_by_at, less_through, later_too, not_earlier, not_later}}

abbrev pub before : Row → Row → Bool
before other row = less other.member.at other.member.key row.member.at row.member.key

-- a row put in by `at` and key
abbrev pub put_in : Row → List Row → List Row
put_in row [] = row ∷ []
put_in row (other ∷ others) = if before other row then other ∷ put_in row others else row ∷ other ∷ others

-- a row put in by its key
abbrev pub with_row : Row → List Row → List Row
with_row row [] = row ∷ []
with_row row (other ∷ others) = if ltb other.member.key row.member.key then other ∷ with_row row others else row ∷ other ∷ others

-- the keys are above those before them
abbrev pub Ascends : List Row → Type 0
Ascends [] = Unit {0}
Ascends (row ∷ rows) = AllByRecursion (λ other. row.member.key < other.member.key) rows × Ascends rows

-- each row stands before those after it
abbrev pub Ranked : List Row → Type 0
Ranked [] = Unit {0}
Ranked (row ∷ rows) = AllByRecursion (λ other. before row other ≡ true) rows × Ranked rows

-- where a test is known
chosen : {X : Type 0} (b : Bool) (x y : X) → b ≡ true → (if b then x else y) ≡ x
chosen b x y e = ap (λ d. if d then x else y) e

passed_over : {X : Type 0} (b : Bool) (x y : X) → b ≡ false → (if b then x else y) ≡ y
passed_over b x y e = ap (λ d. if d then x else y) e

-- a row below all others by its key: put in by `at` alone
pub below_all : (row : Row) (rows : List Row) → AllByRecursion (λ other. row.member.key < other.member.key) rows → row_placed row rows ≡ put_in row rows
below_all row [] h = refl
below_all row (other ∷ others) h =
    ap (λ rs. if int_lt other.member.at row.member.at then other ∷ rs else row ∷ other ∷ others) (below_all row others h.1)
    ∙ ap (λ b. if b then other ∷ put_in row others else row ∷ other ∷ others) (sym (less_above other.member.at other.member.key row.member.at row.member.key (lt_le row.member.key other.member.key h.0)))
  where
    lt_le : (a b : ℕ) → a < b → a ≤ b
    lt_le a b lt = omega arith

-- two rows put in, in either turn
swapped : (one row other : Row) (others : List Row) → one.member.key < row.member.key → row_placed one (put_in row others) ≡ put_in row (row_placed one others) → (b c d e : Bool) → before other row ≡ b → int_lt other.member.at one.member.at ≡ c → int_lt row.member.at one.member.at ≡ d → before one row ≡ e → row_placed one (put_in row (other ∷ others)) ≡ put_in row (row_placed one (other ∷ others))
swapped one row other others lt same true true d e pb pc pd pe =
    ap (row_placed one) (chosen _ _ _ pb) ∙ chosen _ _ _ pc ∙ ap (λ rs. other ∷ rs) same ∙ sym (ap (put_in row) (chosen _ _ _ pc) ∙ chosen _ _ _ pb)
swapped one row other others lt same true false d e pb pc pd pe =
    ap (row_placed one) (chosen _ _ _ pb) ∙ passed_over _ _ _ pc
    ∙ sym (ap (put_in row) (passed_over _ _ _ pc) ∙ chosen _ _ _ first ∙ ap (λ rs. one ∷ rs) (chosen _ _ _ pb))
  where
    first : before one row ≡ true
    first =
        less_below one.member.at one.member.key row.member.at row.member.key lt
        ∙ ap not (later_too one.member.at other.member.at row.member.at pc (not_later other.member.at other.member.key row.member.at row.member.key pb))
swapped one row other others lt same false c true e pb pc pd pe =
    ap (row_placed one) (passed_over _ _ _ pb) ∙ chosen _ _ _ pd ∙ sym (right c pc)
  where
    after : before one row ≡ false
    after = less_below one.member.at one.member.key row.member.at row.member.key lt ∙ ap not pd

    right : (c : Bool) → int_lt other.member.at one.member.at ≡ c → put_in row (row_placed one (other ∷ others)) ≡ row ∷ row_placed one (other ∷ others)
    right true f = ap (put_in row) (chosen _ _ _ f) ∙ passed_over _ _ _ pb ∙ ap (λ rs. row ∷ rs) (sym (chosen _ _ _ f))
    right false f = ap (put_in row) (passed_over _ _ _ f) ∙ passed_over _ _ _ after ∙ ap (λ rs. row ∷ rs) (sym (passed_over _ _ _ f))
swapped one row other others lt same false true false e pb pc pd pe = absurd (true≢false (sym pc ∙ later_too one.member.at row.member.at other.member.at pd (not_earlier other.member.at other.member.key row.member.at row.member.key pb)))
swapped one row other others lt same false false false e pb pc pd pe =
    ap (row_placed one) (passed_over _ _ _ pb) ∙ passed_over _ _ _ pd
    ∙ sym (ap (put_in row) (passed_over _ _ _ pc) ∙ chosen _ _ _ (less_below one.member.at one.member.key row.member.at row.member.key lt ∙ ap not pd) ∙ ap (λ rs. one ∷ rs) (passed_over _ _ _ pb))

pub swap : (one row : Row) (rows : List Row) → one.member.key < row.member.key → row_placed one (put_in row rows) ≡ put_in row (row_placed one rows)
swap one row [] lt = by_test (int_lt row.member.at one.member.at) (before one row) (less_below one.member.at one.member.key row.member.at row.member.key lt)
  where
    by_test : (d e : Bool) → e ≡ not d → (if d then row ∷ one ∷ [] else one ∷ row ∷ []) ≡ (if e then one ∷ row ∷ [] else row ∷ one ∷ [])
    by_test true e h = sym (passed_over e (one ∷ row ∷ []) (row ∷ one ∷ []) h)
    by_test false e h = sym (chosen e (one ∷ row ∷ []) (row ∷ one ∷ []) h)
swap one row (other ∷ others) lt =
    swapped one row other others lt (swap one row others lt) (before other row) (int_lt other.member.at one.member.at) (int_lt row.member.at one.member.at) (before one row) refl refl refl refl

-- what holds of each row holds where they stand by `at`
pub every-placed : (P : Row → Type 0) (row : Row) (rows : List Row) → P row → AllByRecursion P rows → AllByRecursion P (row_placed row rows)
every-placed P row [] p h = (p, tt)
every-placed P row (other ∷ others) p h =
    elim (int_lt other.member.at row.member.at) as (λ b. AllByRecursion P (if b then other ∷ row_placed row others else row ∷ other ∷ others)) [
      | true ↦ (h.0, every-placed P row others p h.1)
      | false ↦ (p, h)
    ]

pub every-by_at : (P : Row → Type 0) (rows : List Row) → AllByRecursion P rows → AllByRecursion P (rows_by_at rows)
every-by_at P [] h = tt
every-by_at P (row ∷ rows) h = every-placed P row (rows_by_at rows) h.0 (every-by_at P rows h.1)

pub every-group : (P : Row → Type 0) (cells : List ℤ) (rows : List Row) → AllByRecursion P rows → AllByRecursion P (group_rows cells rows)
every-group P cells rows h = every-by_at P (filter (λ row. same_cells cells row.member.cells) rows) (every-filter P (λ row. same_cells cells row.member.cells) rows h)

-- the rows stand in order
placed_by_test : (row other : Row) (others : List Row) → row.member.key < other.member.key → AllByRecursion (λ x. row.member.key < x.member.key) others → Ranked (other ∷ others) → Ranked (row_placed row others) → (b : Bool) → int_lt other.member.at row.member.at ≡ b → Ranked (if b then other ∷ row_placed row others else row ∷ other ∷ others)
placed_by_test row other others lt h k rest true e =
    (every-placed (λ x. before other x ≡ true) row others (less_by_at other.member.at other.member.key row.member.at row.member.key e) k.0, rest)
placed_by_test row other others lt h k rest false e =
    let first : before row other ≡ true = less_below row.member.at row.member.key other.member.at other.member.key lt ∙ ap not e in
    ((first, every_weaker (λ x. before other x ≡ true) (λ x. before row x ≡ true) others (λ x f. less_through row.member.at row.member.key other.member.at other.member.key x.member.at x.member.key first f) k.0), k)

placed_ranked : (row : Row) (rows : List Row) → AllByRecursion (λ other. row.member.key < other.member.key) rows → Ranked rows → Ranked (row_placed row rows)
placed_ranked row [] h k = (tt, tt)
placed_ranked row (other ∷ others) h k = placed_by_test row other others h.0 h.1 k (placed_ranked row others h.1 k.1) (int_lt other.member.at row.member.at) refl

by_at_ranked : (rows : List Row) → Ascends rows → Ranked (rows_by_at rows)
by_at_ranked [] h = tt
by_at_ranked (row ∷ rows) h =
    placed_ranked row (rows_by_at rows) (every-by_at (λ other. row.member.key < other.member.key) rows h.0) (by_at_ranked rows h.1)

ascends-filter : (p : Row → Bool) (rows : List Row) → Ascends rows → Ascends (filter p rows)
ascends-filter p [] h = tt
ascends-filter p (row ∷ rows) h =
    elim (p row) as (λ b. Ascends (cond b (row ∷ filter p rows) (filter p rows))) [
      | true ↦ (every-filter (λ other. row.member.key < other.member.key) p rows h.0, ascends-filter p rows h.1)
      | false ↦ ascends-filter p rows h.1
    ]

pub group_ranked : (cells : List ℤ) (rows : List Row) → Ascends rows → Ranked (group_rows cells rows)
group_ranked cells rows h = by_at_ranked (filter (λ row. same_cells cells row.member.cells) rows) (ascends-filter (λ row. same_cells cells row.member.cells) rows h)

-- a group after one of its rows came
abbrev own : List ℤ → List Row → List Row
own cells = filter (λ r. same_cells cells r.member.cells)

above : (row other : Row) (others : List Row) → Ascends (other ∷ others) → (other.member.key ≡ row.member.key → ⊥) → ltb other.member.key row.member.key ≡ false → AllByRecursion (λ x. row.member.key < x.member.key) (other ∷ others)
above row other others up apart e =
    let first : row.member.key < other.member.key = omega (arith, ltb-false other.member.key row.member.key e, apart) in
    (first, every_weaker (λ x. other.member.key < x.member.key) (λ x. row.member.key < x.member.key) others (λ x lt. omega (arith, first, lt)) up.0)

behind : (cells : List ℤ) (row other : Row) (others : List Row) → other.member.key < row.member.key → group_rows cells (with_row row others) ≡ put_in row (group_rows cells others) → (b : Bool) → rows_by_at (if b then other ∷ own cells (with_row row others) else own cells (with_row row others)) ≡ put_in row (rows_by_at (if b then other ∷ own cells others else own cells others))
behind cells row other others lt rest true = ap (row_placed other) rest ∙ swap other row (group_rows cells others) lt
behind cells row other others lt rest false = rest

by_key : (cells : List ℤ) (row other : Row) (others : List Row) → Ascends (other ∷ others) → (other.member.key ≡ row.member.key → ⊥) → same_cells cells row.member.cells ≡ true → group_rows cells (with_row row others) ≡ put_in row (group_rows cells others) → (b : Bool) → ltb other.member.key row.member.key ≡ b → rows_by_at (own cells (if b then other ∷ with_row row others else row ∷ other ∷ others)) ≡ put_in row (group_rows cells (other ∷ others))
by_key cells row other others up apart same rest true e = behind cells row other others (ltb-true other.member.key row.member.key e) rest (same_cells cells other.member.cells)
by_key cells row other others up apart same rest false e =
    ap rows_by_at (chosen _ _ _ same)
    ∙ below_all row (group_rows cells (other ∷ others)) (every-group (λ x. row.member.key < x.member.key) cells (other ∷ others) (above row other others up apart e))

pub group_with : (cells : List ℤ) (row : Row) (rows : List Row) → Ascends rows → AllByRecursion (λ other. other.member.key ≡ row.member.key → ⊥) rows → same_cells cells row.member.cells ≡ true → group_rows cells (with_row row rows) ≡ put_in row (group_rows cells rows)
group_with cells row [] up apart same = ap rows_by_at (chosen _ _ _ same)
group_with cells row (other ∷ others) up apart same =
    by_key cells row other others up apart.0 same (group_with cells row others up.1 apart.1 same) (ltb other.member.key row.member.key) refl

-- a group after a row of another came
pub group_without : (cells : List ℤ) (row : Row) (rows : List Row) → same_cells cells row.member.cells ≡ false → group_rows cells (with_row row rows) ≡ group_rows cells rows
group_without cells row rows other = ap rows_by_at (left_out row rows other)
  where
    left_out : (row : Row) (rows : List Row) → same_cells cells row.member.cells ≡ false → filter (λ r. same_cells cells r.member.cells) (with_row row rows) ≡ filter (λ r. same_cells cells r.member.cells) rows
    left_out row [] e = passed_over _ _ _ e
    left_out row (x ∷ xs) e =
        elim (ltb x.member.key row.member.key) as (λ b. filter (λ r. same_cells cells r.member.cells) (if b then x ∷ with_row row xs else row ∷ x ∷ xs) ≡ filter (λ r. same_cells cells r.member.cells) (x ∷ xs)) [
          | true ↦ ap (λ rs. if same_cells cells x.member.cells then x ∷ rs else rs) (left_out row xs e)
          | false ↦ passed_over _ _ _ e
        ]
