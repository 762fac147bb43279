use Rattle.std.proofs.Common.{◌≡◌, ◌+◌, ◌*◌, ◌≤◌, filter, length}
use Rattle.lookup_join.specs.Keyed.{rekeys}
use Rattle.lookup_join.proofs.keyed.rekeyed.Given as goal

abbrev pub invariant-loop-pair : goal.invariant-loop-pair
invariant-loop-pair g l = record {
  rows : l.rows ≡ l.input.new;
  changed : l.changed ≡ filter (rekeys l.side l.on l.pick l.input.old l.input.new) l.yielded;
  reads : l.reads ≤ l.fn.reads + l.input.new.width * length l.yielded;
}
