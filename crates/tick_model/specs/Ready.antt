-- When a merge may be applied to the tables of the nodes before it.
--     table_in tables node      the table of a node
--     AreMergeable tables inputs      the inputs are there, and their keys have room
use Rattle.std.{specs.Prelude.{◌≡◌, ℕ, ◌+◌, ◌^◌, ◌<◌, ◌≤◌, List, [], ◌∷◌, length, map, slice_index_or}, specs.List.All}
use Rattle.tick_model.{specs.declared.table.PlainTable.PlainTable, specs.Merge.{last_key, region}, specs.Tables.no_table}

abbrev pub table_in : List PlainTable → ℕ → PlainTable
table_in tables node = slice_index_or tables node no_table

-- every row has the table's width
abbrev pub IsWhole : PlainTable → Type 0
IsWhole table = All (λ row. length row.cells ≡ table.width) table.rows

-- the keys of merged inputs stay below 2 ^ 62, and so do their regions
pub record HasRoom (offset : ℕ) (input : PlainTable) : Type 0 where
  pub keys : All (λ row. row.key + offset < 2 ^ 62) input.rows
  pub last : last_key input.rows < 2 ^ 62
  pub next : offset + region input ≤ 2 ^ 62

abbrev pub HaveRoom : ℕ → List PlainTable → Type 0
HaveRoom offset [] = Unit {0}
HaveRoom offset (input ∷ inputs) = HasRoom offset input × HaveRoom (offset + region input) inputs

pub record AreMergeable (tables : List PlainTable) (inputs : List ℕ) : Type 0 where
  pub some : 0 < length inputs
  pub narrow : length inputs ≤ 16
  pub known : All (λ input. input < length tables) inputs
  pub few : All (λ input. length (table_in tables input).rows ≤ 4194304) inputs
  pub room : HaveRoom 0 (map (table_in tables) inputs)
