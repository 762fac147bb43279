-- What holds of the row or the cell that is picked of several.
use Rattle.std.proofs.Common.{ℕ, zero, suc, true, false, cond, List, [], ◌∷◌, Option, Some, None, ℤ}
use Rattle.std.{specs.Prelude.{IfSome, fold, int_le, int_lt}, specs.Int.{int_min, int_max}, specs.List.{AllByRecursion, last_or}}
use Rattle.tick_model.{specs.declared.plan.Agg.TheVariants.{Min, Max, First, Last}, specs.declared.plan.Choice.Choice, specs.declared.plan.Choice.TheVariants.{Error, First as FirstMatch, Last as LastMatch}, specs.declared.table.PlainRow.PlainRow, specs.Tables.{null, is_null, cell}, specs.Join.chosen, specs.AsOf.{later, latest}, specs.Agg.{aggregate, column_of, present, over}}
use Rattle.key_lists.proofs.Every.{every-map, every-filter}

-- what holds of null and of each cell of a row holds of the cell of a column
pub cell_every : (Q : ℤ → Type 0) → Q null → (cells : List ℤ) → AllByRecursion Q cells → (column : ℕ) → Q (cell cells column)
cell_every Q n [] h column = n
cell_every Q n (x ∷ cells) h zero = h.0
cell_every Q n (x ∷ cells) h (suc column) = cell_every Q n cells h.1 column

-- the row that a join takes is one of the matches, and the latest one of those not later
first_every : (P : PlainRow → Type 0) (rows : List PlainRow) → AllByRecursion P rows → IfSome (chosen FirstMatch rows) P
first_every P [] h = tt
first_every P (row ∷ rows) h = h.0

last_every : (P : PlainRow → Type 0) (o : Option PlainRow) (rows : List PlainRow) → IfSome o P → AllByRecursion P rows → IfSome (last_or o rows) P
last_every P o [] s h = s
last_every P o (row ∷ rows) s h = last_every P (Some row) rows h.0 h.1

pub chosen_every : (P : PlainRow → Type 0) (choice : Choice) (rows : List PlainRow) → AllByRecursion P rows → IfSome (chosen choice rows) P
chosen_every P Error rows h = first_every P rows h
chosen_every P FirstMatch rows h = first_every P rows h
chosen_every P LastMatch rows h = last_every P None rows tt h

fold_later : (P : PlainRow → Type 0) (column : ℕ) (best : PlainRow) (rows : List PlainRow) → P best → AllByRecursion P rows → P (fold (later column) best rows)
fold_later P column best [] b h = b
fold_later P column best (row ∷ rows) b h =
    fold_later P column (later column best row) rows (elim (int_le (cell best.cells column) (cell row.cells column)) as (λ c. P (cond c row best)) [ true ↦ h.0 | false ↦ b ]) h.1

pub latest_every : (P : PlainRow → Type 0) (column : ℕ) (rows : List PlainRow) → AllByRecursion P rows → IfSome (latest column rows) P
latest_every P column [] h = tt
latest_every P column (row ∷ rows) h = fold_later P column row rows h.0 h.1

-- what a function makes of cells that picks one of two is one of them, or null
over_fold : (Q : ℤ → Type 0) (f : ℤ → ℤ → ℤ) → ((x y : ℤ) → Q x → Q y → Q (f x y)) → (x : ℤ) (xs : List ℤ) → Q x → AllByRecursion Q xs → Q (fold f x xs)
over_fold Q f picks x [] q h = q
over_fold Q f picks x (y ∷ xs) q h = over_fold Q f picks (f x y) xs (picks x y q h.0) h.1

over_every : (Q : ℤ → Type 0) (f : ℤ → ℤ → ℤ) → ((x y : ℤ) → Q x → Q y → Q (f x y)) → Q null → (xs : List ℤ) → AllByRecursion Q xs → Q (over f xs)
over_every Q f picks n [] h = n
over_every Q f picks n (x ∷ xs) h = over_fold Q f picks x xs h.0 h.1

least_of_two : (Q : ℤ → Type 0) (x y : ℤ) → Q x → Q y → Q (int_min x y)
least_of_two Q x y p q = elim (int_lt y x) as (λ b. Q (cond b y x)) [ true ↦ q | false ↦ p ]

greatest_of_two : (Q : ℤ → Type 0) (x y : ℤ) → Q x → Q y → Q (int_max x y)
greatest_of_two Q x y p q = elim (int_lt y x) as (λ b. Q (cond b x y)) [ true ↦ p | false ↦ q ]

-- an aggregate that picks a cell of a column has what all of them have
pub picked_every : (Q : ℤ → Type 0) → Q null → (rows : List PlainRow) (column : ℕ) → AllByRecursion (λ (row : PlainRow). Q (cell row.cells column)) rows
    → Q (aggregate rows (Min column)) × Q (aggregate rows (Max column)) × Q (aggregate rows (First column)) × Q (aggregate rows (Last column))
picked_every Q n rows column h =
    let all = every-map Q (λ (row : PlainRow). cell row.cells column) rows h in
    let there = every-filter Q (λ v. elim (is_null v) [ true ↦ false | false ↦ true ]) (column_of rows column) all in (
      over_every Q int_min (least_of_two Q) n (present (column_of rows column)) there,
      over_every Q int_max (greatest_of_two Q) n (present (column_of rows column)) there,
      over_every Q (λ first _. first) (λ x y p q. p) n (column_of rows column) all,
      over_every Q (λ _ last. last) (λ x y p q. q) n (column_of rows column) all,
    )
