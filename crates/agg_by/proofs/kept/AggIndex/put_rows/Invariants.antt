use Rattle.std.proofs.Common.{◌≡◌, ◌+◌, ◌*◌, ◌≤◌, ◌++◌, [], List, ℕ, length, map}
use Rattle.row_groups.specs.Members.{IsPart}
use Rattle.tick_model.specs.Updates.{removing}
use Rattle.agg_by.{specs.Kept.Keeps, specs.Steps.key_at, specs.Touched.AreNoted}
use Rattle.agg_by.proofs.kept.AggIndex.put_rows.Given as goal

abbrev pub invariant-loop-key : goal.invariant-loop-key
invariant-loop-key g l = record {
  by : l.self.by ≡ l.fn.self.by;
  aggs : l.self.aggs ≡ l.fn.self.aggs;
  place : l.place ≡ length l.yielded;
  keeps : (left : List ℕ) → l.input.update.added ≡ l.yielded ++ left → Keeps l.self (removing left l.input.new.rows);
  names : IsPart l.fn.self.rows l.self.rows;
  noted : AreNoted l.fn.self.rows.names l.self.rows.names l.fn.touched l.touched [] (map (key_at l.fn.self.by l.input.new.rows) l.yielded);
  reads : l.reads ≤ l.fn.reads + l.input.new.width * length l.yielded;
}
