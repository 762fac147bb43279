use Rattle.std.proofs.Common.{◌≡◌, ap, ap₂, sym, ◌∙◌, ◌+◌, ◌*◌, ◌-◌, ◌<◌, ◌≤◌, arith, rules, drop, set, length, List, ℤ, ℕ}
use Rattle.std.proofs.lemmas.List.{take_at}
use borrow.Rule.Slice.PartMut.{put_mid}
use Rattle.tick_table.{specs.Slots.{SlotCells, slot_list}, proofs.SlotCells.{length-written, slot_list-set, slot_within}}
use Rattle.tick_table.proofs.slots.Slots.overwrite.Goals as goal

pub overflow_mul-start : goal.overflow_mul-start
overflow_mul-start c =
    let s = c.self.inside in
    let own = slot_within s.width s.count s.cells.items c.args.self.now c.args.slot c.self.invariant.whole (ap (λ (slots : SlotCells). slots.rows) c.self.view_is) c.requires.slot in
    let less : c.args.slot * s.width < length s.cells.items = omega (arith, own.1, c.self.invariant.wide) in
    search rules

pub overflow_add-start : goal.overflow_add-start
overflow_add-start c =
    let s = c.self.inside in
    let own = slot_within s.width s.count s.cells.items c.args.self.now c.args.slot c.self.invariant.whole (ap (λ (slots : SlotCells). slots.rows) c.self.view_is) c.requires.slot in
    let less : c.args.slot * s.width + s.width ≤ length s.cells.items = own.1 in
    search rules

pub offset_bounds-deref_mut-start : goal.offset_bounds-deref_mut-start
offset_bounds-deref_mut-start c =
    let s = c.self.inside in
    let own = slot_within s.width s.count s.cells.items c.args.self.now c.args.slot c.self.invariant.whole (ap (λ (slots : SlotCells). slots.rows) c.self.view_is) c.requires.slot in
    let less : c.args.slot * s.width < length s.cells.items = omega (arith, own.1, c.self.invariant.wide) in
    search rules

pub slice_bounds-copy_from_slice-end : goal.slice_bounds-copy_from_slice-end
slice_bounds-copy_from_slice-end c =
    let s = c.self.inside in
    let own = slot_within s.width s.count s.cells.items c.args.self.now c.args.slot c.self.invariant.whole (ap (λ (slots : SlotCells). slots.rows) c.self.view_is) c.requires.slot in
    omega (arith, own.1, ap length c.deref_mut.ensures.value)

pub returns-clause-rows : goal.returns-clause-rows
returns-clause-rows c =
    let s = c.self.inside in
    let cells = s.cells.items in
    let row = c.args.row.now in
    let slot = c.args.slot in
    let own = slot_within s.width s.count cells c.args.self.now slot c.self.invariant.whole (ap (λ (slots : SlotCells). slots.rows) c.self.view_is) c.requires.slot in
    let fits : length row ≡ s.width = c.requires.whole ∙ sym (ap (λ (slots : SlotCells). slots.width) c.self.view_is) in
    let start = slot * s.width in
    let many : start + s.width - start ≡ s.width = omega arith in
    let held : List ℤ = put_mid start (start + s.width - start) c.deref_mut.result.now c.copy_from_slice.new.self in
    let written : List ℤ = put_mid start s.width cells row in
    let same : held ≡ written =
    ap₂ (λ (n : ℕ) (xs : List ℤ). put_mid start n xs c.copy_from_slice.new.self) many c.deref_mut.ensures.value
    ∙ ap (λ (ys : List ℤ). put_mid start s.width cells ys) c.copy_from_slice.ensures.after in
    let long : length held ≡ s.cells.len =
    ap length same ∙ length-written s.width s.count cells row slot c.self.invariant.whole fits own.0 ∙ sym (ap length c.deref_mut.ensures.value) ∙ omega (arith, c.deref_mut.ensures.len) in
    ap (slot_list s.width s.count) (take_at held (drop (length held) cells) s.cells.len long ∙ same)
    ∙ slot_list-set s.width s.count cells row slot c.self.invariant.whole fits own.0
    ∙ ap (λ (slots : SlotCells). set slots.rows slot row) c.self.view_is
