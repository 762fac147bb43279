use Rattle.std.proofs.Common.{ap, sym, ◌∙◌, subst, ◌++◌, ◌∷◌, [], ◌<◌, length, set, arith, List, ℕ}
use Rattle.key_lists.proofs.Parts.{every_back}
use Rattle.tick_table.{specs.Slots.{AreSlots, SlotCells}, proofs.SlotCells.{filled_over, length-slot_list}}
use Rattle.tick_table.proofs.slots.Slots.fill.Goals as goal

pub overwrite-requires-clause-slot : goal.overwrite-requires-clause-slot
overwrite-requires-clause-slot c =
    let s = c.self.inside in
    let slot = c.in-Some.slot in
    let own : slot < s.count = (every_back (λ slot. slot < s.count) c.pop.new.self.items (slot ∷ []) (subst (AreSlots s.count) c.in-Some.ensures.items c.self.invariant.free)).0 in
    omega (arith, own, length-slot_list s.width s.count s.cells.items)

pub returns-in-Some-clause-filled : goal.returns-in-Some-clause-filled
returns-in-Some-clause-filled c =
    let s = c.self.inside in
    let slot = c.in-Some.slot in
    let own : slot < s.count = (every_back (λ slot. slot < s.count) c.pop.new.self.items (slot ∷ []) (subst (AreSlots s.count) c.in-Some.ensures.items c.self.invariant.free)).0 in
    filled_over c.args.row.now c.args.self.now c.overwrite.new.self slot
    (c.overwrite.ensures.width ∙ ap (λ (slots : SlotCells). slots.width) c.self.view_is)
    (c.overwrite.ensures.rows ∙ ap (λ (slots : SlotCells). set slots.rows slot c.args.row.now) c.self.view_is)
    (sym (ap (λ (slots : SlotCells). slots.free) c.self.view_is) ∙ c.in-Some.ensures.items ∙ ap (λ (free : List ℕ). free ++ slot ∷ []) (sym c.overwrite.ensures.free))
    (omega (arith, own, length-slot_list s.width s.count s.cells.items, ap (λ (slots : SlotCells). length slots.rows) c.self.view_is))
