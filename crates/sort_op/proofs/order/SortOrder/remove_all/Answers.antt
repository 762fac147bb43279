use Rattle.std.proofs.Common.{◌∙◌, refl, subst, sym}
use Rattle.key_lists.proofs.Every.{all_from}
use Rattle.sort_op.{specs.Entries.{entries, IsWhole}, proofs.Batched.{none_entries, removed_more, removed_none}}
use Rattle.sort_op.proofs.order.SortOrder.remove_all.Goals as goal

pub loop-entry-init : goal.loop-entry-init
loop-entry-init c = record { entries_are = removed_none (entries c.args.self.now) c.args.leaving.now; by = refl; order = c.len-count.ensures.order }

pub remove-requires : goal.remove-requires
remove-requires c = record {
  whole =
      subst (λ by. IsWhole by c.entry-item.result) (sym c.loop-entry.invariant.by)
      (subst (IsWhole c.args.self.now.by) (sym c.entry-item.is) (all_from (IsWhole c.args.self.now.by) c.args.leaving.now c.requires c.loop-entry.entry-index c.entry-item.result c.loop-entry-test.true));
}

pub loop-entry-preserved : goal.loop-entry-preserved
loop-entry-preserved c = record {
  entries_are =
      removed_more c.loop-entry.self.by (entries c.args.self.now) c.args.leaving.now (entries c.loop-entry.self) (entries c.remove.new.self) c.loop-entry.entry-index c.entry-item.result c.remove.result c.loop-entry-test.true c.entry-item.is c.loop-entry.invariant.entries_are c.loop-entry.invariant.order.rising
      c.remove.ensures.position c.remove.ensures.entries (none_entries entries c.remove.result c.remove.new.self c.loop-entry.self c.remove.ensures.absent);
  by = c.remove.ensures.by ∙ c.loop-entry.invariant.by;
  order = c.remove.ensures.order;
}
