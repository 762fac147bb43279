use Rattle.std.proofs.Common.{◌≡◌, ap, sym, ◌∙◌, ◌+◌, ◌++◌, ◌∷◌, [], length}
use Rattle.tick_table.{specs.Slots.{SlotCells, slot_list}, proofs.SlotCells.{length-slot_list, slot_list-open}}
use Rattle.tick_table.proofs.slots.Slots.open.Goals as goal

pub returns-clause-slot : goal.returns-clause-slot
returns-clause-slot c =
    let s = c.self.inside in
    sym (length-slot_list s.width s.count s.cells.items) ∙ ap (λ (slots : SlotCells). length slots.rows) c.self.view_is

pub returns-clause-rows : goal.returns-clause-rows
returns-clause-rows c =
    let s = c.self.inside in
    let row = c.args.row.now in
    let fits : length row ≡ s.width = c.requires ∙ sym (ap (λ (slots : SlotCells). slots.width) c.self.view_is) in
    ap (slot_list s.width (s.count + 1)) c.in_ok-extend_from_slice.ensures.items
    ∙ slot_list-open s.width s.count s.cells.items row c.self.invariant.whole fits
    ∙ ap (λ (slots : SlotCells). slots.rows ++ row ∷ []) c.self.view_is
