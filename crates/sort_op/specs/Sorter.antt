-- What a sort keeps.
--     Sorter      the sort columns, the width of its input, and the entries of its rows in order
--     sorted by tick      the tick of a sort, from that of its input
use Rattle.std.specs.Prelude.{ℕ, List}
use Rattle.tick_model.{specs.declared.plan.Op.TheVariants.Sort, specs.declared.plan.SortBy.SortBy, specs.Updates.Tick}
use Rattle.tick_laws.specs.Operated.{operated}
use Rattle.sort_op.specs.declared.entry.Entry.{Entry}

pub record Sorter : Type 0 where
  pub by : List SortBy
  pub width : ℕ
  pub entries : List Entry

abbrev pub sorted : List SortBy → Tick → Tick
sorted by input = operated (Sort 0 by) (λ _. input)
