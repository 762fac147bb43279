-- What holds of the rows of operators' tables, where it holds of their inputs' rows.
use Rattle.std.proofs.Common.{◌≡◌, refl, ap, ◌∙◌, Bool, true, false, cond, ℕ, suc, ◌+◌, ◌*◌, ◌<◌, ◌≤◌, arith, List, [], ◌∷◌, length}
use Rattle.std.{specs.Prelude.fold, specs.List.AllByRecursion}
use Rattle.tick_model.{specs.declared.table.PlainRow.PlainRow, specs.declared.table.PlainTable.PlainTable, specs.Merge.{last_key, region}, specs.Sort.{place, ordered, numbered}}

-- a list in order
pub every-place : {X : Type 0} (P : X → Type 0) (less : X → X → Bool) (x : X) (xs : List X) → P x → AllByRecursion P xs → AllByRecursion P (place less x xs)
every-place P less x [] p h = (p, tt)
every-place P less x (y ∷ ys) p h =
    elim (less y x) as (λ b. AllByRecursion P (cond b (y ∷ place less x ys) (x ∷ y ∷ ys))) [
      | true ↦ (h.0, every-place P less x ys p h.1)
      | false ↦ (p, h)
    ]

pub every-ordered : {X : Type 0} (P : X → Type 0) (less : X → X → Bool) (xs : List X) → AllByRecursion P xs → AllByRecursion P (ordered less xs)
every-ordered P less [] h = tt
every-ordered P less (x ∷ xs) h = every-place P less x (ordered less xs) h.0 (every-ordered P less xs h.1)

length-place : {X : Type 0} (less : X → X → Bool) (x : X) (xs : List X) → length (place less x xs) ≡ suc (length xs)
length-place less x [] = refl
length-place less x (y ∷ ys) =
    elim (less y x) as (λ b. length (cond b (y ∷ place less x ys) (x ∷ y ∷ ys)) ≡ suc (suc (length ys))) [
      | true ↦ ap (λ n. suc n) (length-place less x ys)
      | false ↦ refl
    ]

pub length-ordered : {X : Type 0} (less : X → X → Bool) (xs : List X) → length (ordered less xs) ≡ length xs
length-ordered less [] = refl
length-ordered less (x ∷ xs) = length-place less x (ordered less xs) ∙ ap (λ n. suc n) (length-ordered less xs)

-- numbered rows
pub length-numbered : (n : ℕ) (rows : List PlainRow) → length (numbered n rows) ≡ length rows
length-numbered n [] = refl
length-numbered n (row ∷ rows) = ap (λ n. suc n) (length-numbered (n + 1) rows)

pub numbered_whole : (width n : ℕ) (rows : List PlainRow) → AllByRecursion (λ row. length row.cells ≡ width) rows → AllByRecursion (λ row. length row.cells ≡ width) (numbered n rows)
numbered_whole width n [] h = tt
numbered_whole width n (row ∷ rows) h = (h.0, numbered_whole width (n + 1) rows h.1)

pub numbered_below : (bound n : ℕ) (rows : List PlainRow) → n + length rows ≤ bound → AllByRecursion (λ row. row.key < bound) (numbered n rows)
numbered_below bound n [] h = tt
numbered_below bound n (row ∷ rows) h = (omega arith, numbered_below bound (n + 1) rows (omega arith))

-- the last key is below the bound, and the region within it
pub last_below : (bound first : ℕ) (rows : List PlainRow) → first < bound → AllByRecursion (λ row. row.key < bound) rows → fold (λ _ row. row.key) first rows < bound
last_below bound first [] h below = h
last_below bound first (row ∷ rows) h below = last_below bound row.key rows below.0 below.1

pub region_within : (m : ℕ) (table : PlainTable) → AllByRecursion (λ row. row.key < 65536 * suc m) table.rows → region table ≤ 65536 * suc m
region_within m table below =
    let last : last_key table.rows < 65536 * suc m = last_below (65536 * suc m) 0 table.rows (omega arith) below in
    omega arith
