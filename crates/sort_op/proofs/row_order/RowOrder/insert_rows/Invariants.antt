use Rattle.std.proofs.Common.{◌≡◌, ◌||◌, false, map, true, vec_len, Some}
use Rattle.std.{specs.Prelude.IsTrue, specs.List.AllByRecursion}
use Rattle.row_handles.specs.Entries.{key_with}
use Rattle.sort_op.{specs.declared.entry.Entry.Entry, specs.declared.row_order.OrderedRow.OrderedRow, specs.Entries.{comes_before, is_in, AreDistinct, Rises}, specs.Firsts.rows_in, specs.Ranks.{arrived, listed}, proofs.Arrived.HaveArrived}
use Rattle.sort_op.proofs.row_order.RowOrder.insert_rows.Given as goal

abbrev pub invariant-loop-next : goal.invariant-loop-next
invariant-loop-next l = record {
  same : l.self ≡ record l.initial.self { rows = l.self.rows };
  kept : (x : Entry) → (is_in x (listed l.self) || is_in x (map (arrived l.initial.self) (rows_in l.coming.items))) ≡ (is_in x (listed l.initial.self) || is_in x (map (arrived l.initial.self) (rows_in l.initial.coming.items)));
  known : AllByRecursion (λ (row : OrderedRow). key_with row.handle l.initial.self.handles ≡ Some row.key) (rows_in l.coming.items);
  out : AllByRecursion (λ x. is_in x (listed l.self) ≡ false) (map (arrived l.initial.self) (rows_in l.coming.items));
  distinct : AreDistinct (map (arrived l.initial.self) (rows_in l.coming.items));
  rises : Rises l.initial.self.by (listed l.self);
  ahead : IsTrue l.is_last → AllByRecursion (λ x. AllByRecursion (λ y. comes_before l.initial.self.by y x ≡ true) (listed l.self)) (map (arrived l.initial.self) (rows_in l.coming.items));
  arrived : HaveArrived l.initial.self.by (map (arrived l.initial.self) (rows_in l.initial.coming.items)) (map (arrived l.initial.self) (rows_in l.coming.items)) (listed l.self) l.positions.items;
}

abbrev pub decreases-loop-next : goal.decreases-loop-next
decreases-loop-next l = vec_len l.coming
