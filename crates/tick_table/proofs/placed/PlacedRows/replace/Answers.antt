use Rattle.std.proofs.Common.{ap, sym, ◌∙◌, ◌<◌, ◌++◌, [], arith, get_or, length, set, List, ℕ, ℤ}
use Rattle.key_lists.proofs.Parts.{every_at}
use Rattle.chunk_list.specs.Chunked.{joined}
use Rattle.tick_table.{specs.Placed.Placed, proofs.Own.{at-cells, left_kept, length-cells, own_over, places_set}}
use Rattle.tick_table.proofs.placed.PlacedRows.replace.Goals as goal

pub slot_at-slot-requires : goal.slot_at-slot-requires
slot_at-slot-requires c =
    let s = c.self.inside in
    omega (arith, c.requires.within, ap (λ (placed : Placed). length placed.rows) c.self.view_is, length-cells s.slots.rows (joined s.places))

pub row-requires : goal.row-requires
row-requires c =
    let s = c.self.inside in
    let places = joined s.places in
    let within : c.args.position < length places = omega (arith, c.requires.within, ap (λ (placed : Placed). length placed.rows) c.self.view_is, length-cells s.slots.rows places) in
    let own : get_or places c.args.position 0 < length s.slots.rows = every_at (λ slot. slot < length s.slots.rows) places c.args.position 0 within c.self.invariant.place_slots in
    omega (arith, own, c.slot_at-slot.ensures)

pub overwrite-requires-clause-slot : goal.overwrite-requires-clause-slot
overwrite-requires-clause-slot c =
    let s = c.self.inside in
    let places = joined s.places in
    let within : c.args.position < length places = omega (arith, c.requires.within, ap (λ (placed : Placed). length placed.rows) c.self.view_is, length-cells s.slots.rows places) in
    let own : get_or places c.args.position 0 < length s.slots.rows = every_at (λ slot. slot < length s.slots.rows) places c.args.position 0 within c.self.invariant.place_slots in
    omega (arith, own, c.slot_at-slot.ensures)

pub invariant_of-self-2 : goal.invariant_of-self-2
invariant_of-self-2 c =
    let s = c.self.inside in
    let places = joined s.places in
    let within : c.args.position < length places = omega (arith, c.requires.within, ap (λ (placed : Placed). length placed.rows) c.self.view_is, length-cells s.slots.rows places) in
    let rows = c.overwrite.ensures.rows ∙ ap (λ (slot : ℕ). set s.slots.rows slot c.args.row.now) c.slot_at-slot.ensures in
    own_over s.slots places s.left.items c.self.invariant c.args.row.now c.overwrite.new.self c.args.position within rows c.overwrite.ensures.free

pub returns-clause-rows : goal.returns-clause-rows
returns-clause-rows c =
    let s = c.self.inside in
    let places = joined s.places in
    let within : c.args.position < length places = omega (arith, c.requires.within, ap (λ (placed : Placed). length placed.rows) c.self.view_is, length-cells s.slots.rows places) in
    let rows = c.overwrite.ensures.rows ∙ ap (λ (slot : ℕ). set s.slots.rows slot c.args.row.now) c.slot_at-slot.ensures in
    places_set s.slots places s.left.items c.self.invariant c.args.row.now c.overwrite.new.self c.args.position within rows c.overwrite.ensures.free
    ∙ ap (λ (placed : Placed). set placed.rows c.args.position c.args.row.now) c.self.view_is

pub returns-clause-left : goal.returns-clause-left
returns-clause-left c =
    let s = c.self.inside in
    let places = joined s.places in
    let within : c.args.position < length places = omega (arith, c.requires.within, ap (λ (placed : Placed). length placed.rows) c.self.view_is, length-cells s.slots.rows places) in
    let rows = c.overwrite.ensures.rows ∙ ap (λ (slot : ℕ). set s.slots.rows slot c.args.row.now) c.slot_at-slot.ensures in
    left_kept s.slots places s.left.items c.self.invariant c.args.row.now c.overwrite.new.self c.args.position within rows c.overwrite.ensures.free
    ∙ ap (λ (placed : Placed). placed.left) c.self.view_is

pub returns-clause-saved : goal.returns-clause-saved
returns-clause-saved c =
    let s = c.self.inside in
    let places = joined s.places in
    let within : c.args.position < length places = omega (arith, c.requires.within, ap (λ (placed : Placed). length placed.rows) c.self.view_is, length-cells s.slots.rows places) in
    c.in_ok-extend_from_slice.ensures.items
    ∙ ap (λ (cells : List ℤ). s.saved.items ++ cells)
    (c.row.ensures.cells ∙ ap (λ (slot : ℕ). get_or s.slots.rows slot []) c.slot_at-slot.ensures ∙ sym (at-cells s.slots.rows places c.args.position within))
    ∙ ap (λ (placed : Placed). placed.saved ++ get_or placed.rows c.args.position []) c.self.view_is
