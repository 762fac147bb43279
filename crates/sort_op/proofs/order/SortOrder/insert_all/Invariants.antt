use Rattle.std.proofs.Common.{◌≡◌, ◌||◌, false, true, vec_len}
use Rattle.std.specs.List.{AllByRecursion}
use Rattle.sort_op.{specs.declared.entry.Entry.Entry, specs.Entries.{entries, is_in, AreDistinct, IsOrder, IsWhole}}
use Rattle.sort_op.proofs.order.SortOrder.insert_all.Given as goal

abbrev pub invariant-loop-entry : goal.invariant-loop-entry
invariant-loop-entry l = record {
  kept : (x : Entry) → (is_in x (entries l.self) || is_in x l.coming.items) ≡ (is_in x (entries l.initial.self) || is_in x l.initial.coming.items);
  stay : (x : Entry) → is_in x (entries l.initial.self) ≡ true → is_in x (entries l.self) ≡ true;
  out : AllByRecursion (λ x. is_in x (entries l.self) ≡ false) l.coming.items;
  distinct : AreDistinct l.coming.items;
  whole : AllByRecursion (IsWhole l.self.by) l.coming.items;
  by : l.self.by ≡ l.initial.self.by;
  order : IsOrder l.self;
}

abbrev pub decreases-loop-entry : goal.decreases-loop-entry
decreases-loop-entry l = vec_len l.coming
