use Rattle.std.proofs.Common.{◌≡◌, ap, sym, ◌∙◌, ◌+◌, ◌*◌, ◌++◌, length, arith, List, ℕ, ℤ, subst}
use Rattle.std.specs.List.{range_with_len}
use Rattle.tick_table.{specs.Placed.AreFilled, specs.Slots.{IsSlotList, SlotCells, slot_list}, proofs.Own.filled_opened, proofs.SlotCells.{count_fits, length-slot_list, more_slots, slot_list-append}}
use Rattle.tick_table.proofs.slots.Slots.open_all.Goals as goal

pub slots_from-requires : goal.slots_from-requires
slots_from-requires c =
    let s = c.self.inside in
    let own = count_fits s.count s.width (length s.cells.items) c.self.invariant.wide c.self.invariant.whole in
    let more = count_fits c.args.count s.width (length c.args.rows.now) c.self.invariant.wide (c.requires ∙ sym (ap (λ (slots : SlotCells). c.args.count * slots.width) c.self.view_is)) in
    omega (arith, own, more)

pub overflow_add-self : goal.overflow_add-self
overflow_add-self c =
    let s = c.self.inside in
    let own = count_fits s.count s.width (length s.cells.items) c.self.invariant.wide c.self.invariant.whole in
    let more = count_fits c.args.count s.width (length c.args.rows.now) c.self.invariant.wide (c.requires ∙ sym (ap (λ (slots : SlotCells). c.args.count * slots.width) c.self.view_is)) in
    omega (arith, own, more)

pub invariant_of-self-2 : goal.invariant_of-self-2
invariant_of-self-2 c =
    let s = c.self.inside in
    subst (λ (cells : List ℤ). IsSlotList s.width (s.count + c.args.count) cells s.free.items) (sym (c.in_ok-extend_from_slice.ensures.items ∙ ap (λ cells. cells ++ c.args.rows.now) c.in_ok-reserve.ensures.items))
    (more_slots s.width s.count c.args.count s.cells.items c.args.rows.now s.free.items c.self.invariant (c.requires ∙ sym (ap (λ (slots : SlotCells). c.args.count * slots.width) c.self.view_is)))

pub returns-clause-filled : goal.returns-clause-filled
returns-clause-filled c places left own =
    let s = c.self.inside in
    let old = c.args.self.now in
    let count = c.args.count in
    let more = slot_list old.width count c.args.rows.now in
    let slots : c.in_ok-slots.slots.items ≡ range_with_len s.count (length more) = c.in_ok-slots.ensures ∙ ap (range_with_len s.count) (sym (length-slot_list old.width count c.args.rows.now)) in
    let rows : slot_list s.width (s.count + count) c.extend_from_slice.new.self.items ≡ old.rows ++ more =
    ap (slot_list s.width (s.count + count)) (c.in_ok-extend_from_slice.ensures.items ∙ ap (λ cells. cells ++ c.args.rows.now) c.in_ok-reserve.ensures.items)
    ∙ slot_list-append s.width s.count count s.cells.items c.args.rows.now c.self.invariant.whole
    ∙ ap (λ (slots : SlotCells). slots.rows ++ slot_list slots.width count c.args.rows.now) c.self.view_is in
    let new : SlotCells = record { width = s.width; rows = slot_list s.width (s.count + count) c.extend_from_slice.new.self.items; free = s.free.items } in
    subst (λ (slots : List ℕ). AreFilled more old new slots places left) (sym slots)
    (filled_opened old new more s.count places left (sym (length-slot_list s.width s.count s.cells.items) ∙ ap (λ (slots : SlotCells). length slots.rows) c.self.view_is) (ap (λ (slots : SlotCells). slots.width) c.self.view_is) rows (ap (λ (slots : SlotCells). slots.free) c.self.view_is) own)
