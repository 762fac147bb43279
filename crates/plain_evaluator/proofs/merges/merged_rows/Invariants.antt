use Rattle.std.proofs.Common.{◌≡◌, ◌++◌, map, drop}
use Rattle.tick_model.{specs.Merge.merged_rows, specs.Ready.{table_in, HaveRoom}}
use Rattle.plain_evaluator.proofs.merges.merged_rows.Given as goal

abbrev pub invariant-loop-input : goal.invariant-loop-input
invariant-loop-input l = record {
  merged : l.merged.items ++ merged_rows l.offset (map (table_in l.tables) (drop l.input-index l.inputs)) ≡ merged_rows 0 (map (table_in l.tables) l.inputs);
  room : HaveRoom l.offset (map (table_in l.tables) (drop l.input-index l.inputs));
}
