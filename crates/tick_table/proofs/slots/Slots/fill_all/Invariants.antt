use Rattle.std.proofs.Common.{◌≡◌, List, ℕ}
use Rattle.tick_table.{specs.Placed.{AreFilled, AreOwn}, specs.Slots.slot_list}
use Rattle.tick_table.proofs.slots.Slots.fill_all.Given as goal

abbrev pub invariant-loop-place : goal.invariant-loop-place
invariant-loop-place l = record {
  width : l.self.width ≡ l.fn.self.width;
  filled : (places left : List ℕ) → AreOwn l.fn.self places left → AreFilled (slot_list l.fn.self.width l.place l.rows) l.fn.self l.self l.slots.items places left;
}
