-- The cells of a group.
--     Ascends cells      each is no greater than those behind it
--     placed value cells      one cell more, before the first that is no less
--     unplaced value cells      one cell less, the first that is no less than it
--     in_order cells      the cells in order
--     opposite value      of two opposites the greater is that of the lesser cell
--     opposites cells      the opposites of the cells, in order
--     last cells      the last of them
--     greatest cells, least opposites      the greatest of the cells in order, and the least of those that have these opposites, or null
--     count value cells      how often a cell is among them
--     left live gone      those of the live cells that have not gone, in order
--     top live      what stands first in a heap, or null
--     IsKept live gone      heaps of the live cells and of those of them that have gone
--     IsSettled live gone      the greatest of the live cells has not gone
use Rattle.std.{specs.Prelude.{◌≡◌, ℕ, ◌-◌, ◌<◌, ◌≤◌, false, List, [], ◌∷◌, Option, ℤ, negsuc, ◌-ℤ◌, count_by, int_lt, length, map, slice_get, slice_index_or, unwrap_or, if◌then◌else◌}, specs.BinaryHeap.IsHeap, specs.List.AllByRecursion, specs.Option.option_map_or, specs.Ordering.{int_cmp, int_eq}}
use Rattle.tick_model.specs.Tables.{null}

abbrev pub Ascends : List ℤ → Type 0
Ascends [] = Unit {0}
Ascends (cell ∷ cells) = AllByRecursion (λ other. int_lt other cell ≡ false) cells × Ascends cells

abbrev pub placed : ℤ → List ℤ → List ℤ
placed value [] = value ∷ []
placed value (cell ∷ cells) = if int_lt cell value then cell ∷ placed value cells else value ∷ cell ∷ cells

abbrev pub unplaced : ℤ → List ℤ → List ℤ
unplaced value [] = []
unplaced value (cell ∷ cells) = if int_lt cell value then cell ∷ unplaced value cells else cells

abbrev pub in_order : List ℤ → List ℤ
in_order [] = []
in_order (cell ∷ cells) = placed cell (in_order cells)

-- each 64-bit number has one
abbrev pub opposite : ℤ → ℤ
opposite value = negsuc 0 -ℤ value

abbrev pub opposites : List ℤ → List ℤ
opposites cells = in_order (map opposite cells)

abbrev pub last : List ℤ → Option ℤ
last cells = slice_get cells (length cells - 1)

abbrev pub greatest : List ℤ → ℤ
greatest cells = unwrap_or (last cells) null

abbrev pub least : List ℤ → ℤ
least opposites = option_map_or opposite (last opposites) null

abbrev pub count : ℤ → List ℤ → ℕ
count value = count_by (λ cell. int_eq cell value)

abbrev pub IsAmong : ℤ → List ℤ → Type 0
IsAmong value cells = 0 < count value cells

abbrev pub left : List ℤ → List ℤ → List ℤ
left live [] = in_order live
left live (value ∷ gone) = unplaced value (left live gone)

abbrev pub top : List ℤ → ℤ
top live = slice_index_or live 0 null

pub record IsKept (live gone : List ℤ) : Type 0 where
  pub live_heap : IsHeap int_cmp live
  pub gone_heap : IsHeap int_cmp gone
  pub among : (value : ℤ) → count value gone ≤ count value live

pub record IsSettled (live gone : List ℤ) : Type 0 where
  pub kept : IsKept live gone
  pub stays : count (top live) gone ≡ 0
