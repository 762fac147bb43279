-- Copies of formulas. They lie elsewhere in memory, and say the same of each row.
--     IsCopy copy expr, IsTestCopy copy test      of a formula, and of a test
--     AreCopies copies exprs      of formulas, one by one
use Rattle.std.specs.Prelude.{◌≡◌, ℕ, List, [], ◌∷◌, ℤ}
use Rattle.tick_model.{specs.declared.plan.Expr.Expr, specs.declared.plan.Pred.Pred, specs.Formulas.{IsWithin, IsTestWithin, truth, value}}

pub record IsCopy (copy expr : Expr) : Type 0 where
  pub same : (cells : List ℤ) → value copy cells ≡ value expr cells
  pub within : (width : ℕ) → IsWithin width expr → IsWithin width copy

pub record IsTestCopy (copy test : Pred) : Type 0 where
  pub same : (cells : List ℤ) → truth copy cells ≡ truth test cells
  pub within : (width : ℕ) → IsTestWithin width test → IsTestWithin width copy

abbrev pub AreCopies : List Expr → List Expr → Type 0
AreCopies [] [] = Unit {0}
AreCopies [] (expr ∷ exprs) = ⊥
AreCopies (copy ∷ copies) [] = ⊥
AreCopies (copy ∷ copies) (expr ∷ exprs) = IsCopy copy expr × AreCopies copies exprs
