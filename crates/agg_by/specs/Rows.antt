-- When the rows of the groups may be read.
--     AreReady input kept groups notes      what is kept is that of the input's rows, these groups are among it, and the touched groups are noted as they were before
use Rattle.std.{specs.Prelude.{◌≡◌, List}, specs.List.AllByRecursion}
use Rattle.agg_by.{specs.declared.firsts.LedGroup.LedGroup, specs.declared.kept.AggIndex.AggIndex, specs.declared.notes.PriorRows.PriorRows, specs.Answers.IsWithin, specs.Kept.Keeps, specs.Notes.IsNoted, specs.Steps.touched_firsts, specs.Touched.AreLed}
use Rattle.tick_model.specs.Agg.{agg_table}
use Rattle.tick_table.{specs.Exact.IsExact, specs.Ticking.Ticking}

pub record AreReady (input : Ticking) (kept : AggIndex) (groups : List LedGroup) (notes : PriorRows) : Type 0 where
  pub exact : IsExact input
  pub keeps : Keeps kept input.new.rows
  pub within : AllByRecursion (IsWithin input.new.width) kept.running.items
  pub led : AreLed kept.rows groups
  pub noted : IsNoted notes (agg_table kept.by kept.aggs input.old)
  pub keys : notes.keys ≡ touched_firsts kept.by input input.old.rows
