-- Blocks of rows, and the places of the rows in them.
--     rows_of block      the rows of a block
--     rows blocks      those of all blocks
--     place_in number depth      the place of a row
use Rattle.std.{specs.Prelude.{ℕ, ◌-◌, ◌^◌, ◌<◌, ◌≤◌, ◌≡◌, List, [], ◌∷◌, Some, map, slice_index_or}, specs.List.{AllByRecursion, flat_map}}
use Rattle.slab.specs.Slab.{Slab, get}
use Rattle.row_handles.{specs.declared.block.RowBlock.RowBlock, specs.declared.block.BlockRow.BlockRow, specs.declared.index.Location.Location, specs.declared.index.HandleIndex.HandleIndex, specs.Entries.{Entry, entry_of, Ascend, AreDistinct}}

abbrev pub entry_at : ℕ → BlockRow → Entry
entry_at ceiling row = entry_of (ceiling - row.depth) row.handle

abbrev pub rows_of : RowBlock → List Entry
rows_of block = map (entry_at block.ceiling) block.rows.items

abbrev pub rows : List RowBlock → List Entry
rows = flat_map rows_of

-- rows below a ceiling that are these
pub record AreRowsUnder (ceiling : ℕ) (items : List BlockRow) (all : List Entry) : Type 0 where
  pub same : map (entry_at ceiling) items ≡ all
  pub held : AllByRecursion (λ row. row.depth ≤ ceiling) items

-- the first of the rows has this key
abbrev pub BeginAt : ℕ → List Entry → Type 0
BeginAt key [] = ⊥
BeginAt key (entry ∷ others) = entry.key ≡ key

pub record IsBlock (block : RowBlock) : Type 0 where
  pub begun : BeginAt block.first (rows_of block)
  pub held : AllByRecursion (λ row. row.depth ≤ block.ceiling) block.rows.items

abbrev pub place_in : ℕ → ℕ → Location
place_in number depth = record { block = number; depth = depth }

-- the ceiling of the block and the places of its rows are kept as they are
pub record IsPlaced (ceilings : Slab ℕ) (places : Slab Location) (block : RowBlock) : Type 0 where
  pub ceiling : get ceilings block.number ≡ Some block.ceiling
  pub rows : AllByRecursion (λ row. get places row.handle ≡ Some (place_in block.number row.depth)) block.rows.items

abbrev pub number_of : RowBlock → ℕ
number_of block = block.number

-- what holds of the rows and their places
pub record IsIndex (index : HandleIndex) : Type 0 where
  pub sound : AllByRecursion IsBlock index.blocks.items
  pub ascend : Ascend (rows index.blocks.items)
  pub small : AllByRecursion (λ entry. entry.key < 2 ^ 62) (rows index.blocks.items)
  pub numbered : AreDistinct (map number_of index.blocks.items)
  pub placed : AllByRecursion (IsPlaced index.ceilings index.places) index.blocks.items

-- a fact of the block at an index
abbrev pub AtBlock : List RowBlock → ℕ → (RowBlock → Type 0) → Type 0
AtBlock blocks index P = (block : RowBlock) → block ≡ slice_index_or blocks index block → P block
