-- What a filter keeps.
--     RowTest      its test, and the width of its input
--     Filter      the same, and the keys of the rows that pass
--     filtered test tick      the tick of a filter, from that of its input
use Rattle.std.specs.Prelude.{ℕ, List}
use Rattle.tick_model.{specs.declared.plan.Op.TheVariants.Keep, specs.declared.plan.Pred.Pred, specs.Updates.Tick}
use Rattle.tick_laws.specs.Operated.{operated}

pub record RowTest : Type 0 where
  pub test : Pred
  pub width : ℕ

pub record Filter : Type 0 where
  pub test : Pred
  pub width : ℕ
  pub shown : List ℕ

abbrev pub filtered : Pred → Tick → Tick
filtered test input = operated (Keep 0 test) (λ _. input)
