use Rattle.std.proofs.Common.{◌≡◌, filter, not, take}
use Rattle.sort_op.specs.Entries.{entries, is_in, IsOrder}
use Rattle.sort_op.proofs.order.SortOrder.remove_all.Given as goal

abbrev pub invariant-loop-entry : goal.invariant-loop-entry
invariant-loop-entry l = record {
  entries_are : entries l.self ≡ filter (λ entry. not (is_in entry (take l.entry-index l.leaving))) (entries l.initial.self);
  by : l.self.by ≡ l.initial.self.by;
  order : IsOrder l.self;
}
