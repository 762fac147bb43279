use Rattle.std.proofs.Common.{◌≡◌, ◌+◌, ◌*◌, ◌||◌, length, ℕ}
use Rattle.key_lists.specs.Keys.{is_among}
use Rattle.row_handles.specs.Entries.{keys_of}
use Rattle.sort_op.{specs.Ranks.{AreArrived, listed}, specs.Reading.entries_under}
use Rattle.sort_op.proofs.row_order.RowOrder.enter_rows.Given as goal

abbrev pub invariant-loop-key : goal.invariant-loop-key
invariant-loop-key g l = record {
  table : l.rows ≡ l.input.new;
  by : l.self.by ≡ l.fn.self.by;
  listed : listed l.self ≡ listed l.fn.self;
  entered : AreArrived l.self l.entered.items (entries_under l.fn.self.by l.input.new l.yielded);
  keys : (key : ℕ) → is_among key (keys_of l.self.handles) ≡ (is_among key l.yielded || is_among key (keys_of l.fn.self.handles));
  reads : l.reads ≡ l.fn.reads + l.input.new.width * length l.yielded;
}
