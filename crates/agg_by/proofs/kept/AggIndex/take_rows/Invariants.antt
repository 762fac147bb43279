use Rattle.std.proofs.Common.{◌≡◌, ◌+◌, ◌*◌, ◌≤◌, take}
use Rattle.tick_model.specs.Updates.{removing}
use Rattle.agg_by.specs.Kept.{AnswerAll}
use Rattle.agg_by.proofs.kept.AggIndex.take_rows.Given as goal

abbrev pub invariant-loop-place : goal.invariant-loop-place
invariant-loop-place g l = record {
  by : l.self.by ≡ l.fn.self.by;
  aggs : l.self.aggs ≡ l.fn.self.aggs;
  rows : l.self.rows ≡ l.fn.self.rows;
  running : AnswerAll l.fn.self.by l.fn.self.rows.names l.fn.self.aggs (removing (take l.place l.input.update.removed) l.input.old.rows) l.self.running.items;
  reads : l.reads ≤ l.fn.reads + l.input.old.width * l.place;
}
