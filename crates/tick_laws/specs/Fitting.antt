-- Rows that fit the columns of their table.
--     FitsColumns columns texts cells      a number of 64 bits for each column; in a text column, null or the number of a text
--     HasColumns columns texts table      each row is such
use Rattle.std.{specs.Prelude.{◌≡◌, ℕ, true, List, ℤ, FitsSigned}, specs.List.AllByRecursion, specs.Int.w64}
use Rattle.tick_model.{specs.declared.plan.ColumnSpec.ColumnSpec, specs.declared.table.PlainTable.PlainTable, specs.Printable.fit_columns}

pub record FitsColumns (columns : List ColumnSpec) (texts : ℕ) (cells : List ℤ) : Type 0 where
  pub kinds : fit_columns texts columns cells ≡ true
  pub numbers : AllByRecursion (FitsSigned w64) cells

abbrev pub HasColumns : List ColumnSpec → ℕ → PlainTable → Type 0
HasColumns columns texts table = AllByRecursion (λ row. FitsColumns columns texts row.cells) table.rows
