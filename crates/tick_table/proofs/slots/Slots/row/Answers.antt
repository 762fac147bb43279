use Rattle.std.proofs.Common.{ap, sym, ◌∙◌, ◌*◌, arith, take, drop, get_or, length, List, [], ℤ}
use Rattle.tick_table.{specs.Slots.SlotCells, proofs.SlotCells.{at-slot_list, slot_within}}
use Rattle.tick_table.proofs.slots.Slots.row.Goals as goal

pub row_at-requires : goal.row_at-requires
row_at-requires c =
    let s = c.self.inside in
    let own = slot_within s.width s.count s.cells.items c.args.self.now c.args.slot c.self.invariant.whole (ap (λ (slots : SlotCells). slots.rows) c.self.view_is) c.requires in
    omega (arith, own.1, ap length c.deref.ensures.value)

pub returns-clause-cells : goal.returns-clause-cells
returns-clause-cells c =
    let s = c.self.inside in
    let slot = c.args.slot in
    let own = slot_within s.width s.count s.cells.items c.args.self.now slot c.self.invariant.whole (ap (λ (slots : SlotCells). slots.rows) c.self.view_is) c.requires in
    c.row_at.ensures.cells
    ∙ ap (λ (cells : List ℤ). take s.width (drop (slot * s.width) cells)) c.deref.ensures.value
    ∙ sym (at-slot_list s.width s.count s.cells.items slot [] own.0)
    ∙ ap (λ (slots : SlotCells). get_or slots.rows slot []) c.self.view_is
