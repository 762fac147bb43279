-- Rows that move to other keys, and blocks that are split for them.
--     handle_in row      the handle of a row
--     has_handle handle rows      whether one of the rows has the handle
--     moved_block shifts block      the block where its rows move to
use Rattle.std.{specs.Prelude.{ℕ, suc, ◌+◌, ◌-◌, ◌^◌, ◌<◌, ◌≤◌, ◌≡◌, ◌⊎◌, ◌==◌, Bool, true, false, List, ◌∷◌, ◌++◌, map, take, drop, option_map}, specs.List.{AllByRecursion, list_any}}
use Rattle.tick_model.{specs.declared.update.ShiftRange.ShiftRange, specs.Shifts.{moved, as_key}, specs.Rules.is_past}
use Rattle.slab.specs.Slab.{Slab, get}
use Rattle.row_handles.{specs.declared.block.RowBlock.RowBlock, specs.declared.block.BlockRow.BlockRow, specs.declared.index.Location.Location, specs.Blocks.{BeginAt, entry_at, place_in, rows_of}}

abbrev pub handle_in : BlockRow → ℕ
handle_in row = row.handle

abbrev pub has_handle : ℕ → List BlockRow → Bool
has_handle handle = list_any (λ row. row.handle == handle)

-- the rows have become those of the block with this number
pub record AreRenamed (number : ℕ) (rows : List BlockRow) (old new : Slab Location) : Type 0 where
  pub moved : (handle : ℕ) → has_handle handle rows ≡ true → get new handle ≡ option_map (λ place. place_in number place.depth) (get old handle)
  pub others : (handle : ℕ) → has_handle handle rows ≡ false → get new handle ≡ get old handle

-- the rows of a block stand on one side of a key
abbrev pub IsBeside : ℕ → RowBlock → Type 0
IsBeside key block = (key ≤ block.first) ⊎ AllByRecursion (λ entry. entry.key < key) (rows_of block)

abbrev pub IsBesideRange : ShiftRange → RowBlock → Type 0
IsBesideRange range block = IsBeside range.begin block × IsBeside (range.end + 1) block

-- two blocks in place of the one at an index, the second from a row on
pub record IsSplit (from : ℕ) (block : RowBlock) (index : ℕ) (old new : List RowBlock) : Type 0 where
  pub left : RowBlock
  pub right : RowBlock
  pub list : new ≡ take index old ++ left ∷ right ∷ drop (suc index) old
  pub left_first : left.first ≡ block.first
  pub left_rows : rows_of left ≡ map (entry_at block.ceiling) (take from block.rows.items)
  pub right_first : BeginAt right.first (rows_of right)
  pub right_rows : rows_of right ≡ map (entry_at block.ceiling) (drop from block.rows.items)

pub record IsCut (key : ℕ) (old new : List RowBlock) : Type 0 where
  pub beside : AllByRecursion (IsBeside key) new
  pub others : (other : ℕ) → AllByRecursion (IsBeside other) old → AllByRecursion (IsBeside other) new

-- a block begins where a row stands that moves to a key
pub record IsMovable (shifts : List ShiftRange) (block : RowBlock) : Type 0 where
  pub small : block.first < 2 ^ 62
  pub lands : is_past (2 ^ 62) (moved shifts block.first) ≡ false

abbrev pub moved_block : List ShiftRange → RowBlock → RowBlock
moved_block shifts block =
    let first = as_key (moved shifts block.first) in
    record block { first = first; ceiling = first + (block.ceiling - block.first) }
