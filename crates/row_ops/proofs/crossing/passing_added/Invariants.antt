use Rattle.std.proofs.Common.{◌≡◌, ◌+◌, ◌*◌, ◌≤◌, filter, length}
use Rattle.tick_model.{specs.Formulas.truth, specs.Tables.cells_at}
use Rattle.row_ops.proofs.crossing.passing_added.Given as goal

abbrev pub invariant-loop-key : goal.invariant-loop-key
invariant-loop-key g l = record {
  place : l.place ≡ length l.yielded;
  found : l.found ≡ filter (λ key. truth l.test (cells_at key l.input.new.rows)) l.yielded;
  reads : l.reads ≤ l.fn.reads + l.input.new.width * length l.yielded;
}
