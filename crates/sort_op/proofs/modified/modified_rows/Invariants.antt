use Rattle.std.proofs.Common.{◌≡◌, ◌+◌, ◌*◌, ◌≤◌, filter, length, not}
use Rattle.tick_model.specs.Sort.{same_place}
use Rattle.tick_table.specs.Exact.{tick_of}
use Rattle.sort_op.proofs.modified.modified_rows.Given as goal

abbrev pub invariant-loop-pair : goal.invariant-loop-pair
invariant-loop-pair g l = record {
  moving : l.moving ≡ filter (λ pair. not (same_place l.order.by (tick_of l.input) pair)) l.yielded;
  staying : l.staying ≡ filter (same_place l.order.by (tick_of l.input)) l.yielded;
  table : l.rows ≡ l.input.new;
  reads : l.reads ≤ l.fn.reads + l.input.new.width * length l.yielded;
}
