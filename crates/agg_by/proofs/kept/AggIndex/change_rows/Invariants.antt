use Rattle.std.proofs.Common.{◌≡◌, ◌+◌, ◌*◌, ◌≤◌, length, map, take, None}
use Rattle.row_groups.specs.Members.{IsPart, groups_of}
use Rattle.agg_by.{specs.Kept.{AnswerAll, indexed}, specs.Steps.{key_at, staying_cells}, specs.Touched.AreNoted, proofs.Changing.{HasNumbers, rows_in}}
use Rattle.agg_by.proofs.kept.AggIndex.change_rows.Given as goal

abbrev pub invariant-loop-key : goal.invariant-loop-key
invariant-loop-key g l = record {
  by : l.self.by ≡ l.fn.self.by;
  aggs : l.self.aggs ≡ l.fn.self.aggs;
  place : l.place ≡ length l.yielded;
  rows : groups_of l.self.rows ≡ indexed l.fn.self.by None (rows_in l.input (take l.place l.input.update.modified));
  running : AnswerAll l.fn.self.by l.self.rows.names l.fn.self.aggs (rows_in l.input (take l.place l.input.update.modified)) l.self.running.items;
  names : IsPart l.self.rows l.self.rows;
  numbers : HasNumbers l.fn.self.by l.input l.self.rows.names l.numbers l.place;
  noted : AreNoted l.fn.self.rows.names l.self.rows.names l.fn.touched l.touched (staying_cells l.fn.self.by l.input) (map (key_at l.fn.self.by l.input.new.rows) (take l.place l.input.update.modified));
  reads : l.reads ≤ l.fn.reads + 2 * l.input.new.width * l.place;
}
