-- What a view keeps.
--     Viewer      its formulas and the width of its input
--     IsViewer exprs width      the formulas are within the input's rows, and the result has few columns
--     with_values exprs cells      a row, followed by the values of formulas
--     viewed exprs tick      the tick of a view, from that of its input
use Rattle.std.{specs.Prelude.{ℕ, ◌+◌, ◌≤◌, List, ◌++◌, map, length, ℤ}, specs.List.AllByRecursion}
use Rattle.tick_model.{specs.declared.plan.Expr.Expr, specs.declared.plan.Op.TheVariants.View, specs.Formulas.{IsWithin, value}, specs.Updates.Tick}
use Rattle.tick_laws.specs.Operated.{operated}

pub record Viewer : Type 0 where
  pub exprs : List Expr
  pub width : ℕ

pub record IsViewer (formulas : List Expr) (columns : ℕ) : Type 0 where
  pub few : columns + length formulas ≤ 32
  pub within : AllByRecursion (IsWithin columns) formulas

abbrev pub with_values : List Expr → List ℤ → List ℤ
with_values exprs cells = cells ++ map (λ expr. value expr cells) exprs

abbrev pub viewed : List Expr → Tick → Tick
viewed exprs input = operated (View 0 exprs) (λ _. input)
