-- Tables within their bounds.
--     IsNodeTable width bound table      a table of this width, with keys below the bound and not too many rows
--     AreSourceTables sources tables      one such table for each source
use Rattle.std.{specs.Prelude.{◌≡◌, ℕ, ◌^◌, ◌<◌, ◌≤◌, List, [], ◌∷◌, length}, specs.List.AllByRecursion}
use Rattle.tick_model.{specs.declared.plan.Node.Node, specs.declared.table.PlainTable.PlainTable, specs.Tables.{IsTable, keys}}

pub record IsNodeTable (width bound : ℕ) (table : PlainTable) : Type 0 where
  pub is_table : IsTable table
  pub width_is : table.width ≡ width
  pub below : AllByRecursion (λ key. key < bound) (keys table.rows)
  pub count : length table.rows ≤ 4194304

abbrev pub AreSourceTables : List Node → List PlainTable → Type 0
AreSourceTables [] [] = Unit {0}
AreSourceTables [] (table ∷ tables) = ⊥
AreSourceTables (source ∷ sources) [] = ⊥
AreSourceTables (source ∷ sources) (table ∷ tables) = IsNodeTable (length source.columns) (2 ^ 40) table × AreSourceTables sources tables
