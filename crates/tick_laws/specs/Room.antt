-- When there are keys enough for the rows that an operator makes.
--     HasRoom op table      a merge's inputs have one width, and their regions end at 2 ^ 62 or before
use Rattle.std.{specs.Prelude.{◌≡◌, ℕ, ◌^◌, ◌≤◌, List, map, sum_by}, specs.List.AllByRecursion}
use Rattle.tick_model.{specs.declared.plan.Op.Op, specs.declared.plan.Op.TheVariants.Merge, specs.declared.table.PlainTable.PlainTable, specs.Merge.{region, width_of}}

-- tables that can be merged
pub record AreMergeable (tables : List PlainTable) : Type 0 where
  pub one_width : AllByRecursion (λ table. table.width ≡ width_of tables) tables
  pub regions : sum_by region tables ≤ 2 ^ 62

abbrev pub HasRoom : Op → (ℕ → PlainTable) → Type 0
HasRoom (Merge inputs) table = AreMergeable (map table inputs)
HasRoom op table = Unit {0}
