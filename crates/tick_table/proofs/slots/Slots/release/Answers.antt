use Rattle.std.proofs.Common.{◌≡◌, ap, sym, ◌∙◌, subst, true, false, cond, ◌++◌, ◌<◌, length}
use Rattle.std.specs.Result.{is_ok}
use Rattle.key_lists.proofs.Every.{every-append}
use Rattle.tick_table.{specs.Slots.{AreSlots, SlotCells}, proofs.SlotCells.length-slot_list}
use Rattle.tick_table.proofs.slots.Slots.release.Goals as goal

pub invariant_of-self : goal.invariant_of-self
invariant_of-self c =
    let s = c.self.inside in
    let count : length c.args.self.now.rows ≡ s.count = sym (ap (λ (slots : SlotCells). length slots.rows) c.self.view_is) ∙ length-slot_list s.width s.count s.cells.items in
    let own : AreSlots s.count c.args.slots.now = subst (λ n. AreSlots n c.args.slots.now) count c.requires in
    record {
      wide = c.self.invariant.wide;
      whole = c.self.invariant.whole;
      free = subst (AreSlots s.count) (sym c.extend_from_slice.ensures.items)
          (elim (is_ok c.extend_from_slice.result) as (λ b. AreSlots s.count (cond b (s.free.items ++ c.args.slots.now) s.free.items)) [
            | true ↦ every-append (λ slot. slot < s.count) s.free.items c.args.slots.now c.self.invariant.free own
            | false ↦ c.self.invariant.free
          ]);
    }
