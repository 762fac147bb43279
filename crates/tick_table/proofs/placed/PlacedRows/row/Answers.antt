use Rattle.std.proofs.Common.{ap, sym, ◌∙◌, ◌<◌, arith, get_or, length, [], ℕ}
use Rattle.key_lists.proofs.Parts.{every_at}
use Rattle.chunk_list.specs.Chunked.{joined}
use Rattle.tick_table.{specs.Placed.Placed, proofs.Own.{at-cells, length-cells}}
use Rattle.tick_table.proofs.placed.PlacedRows.row.Goals as goal

pub slot_at-requires : goal.slot_at-requires
slot_at-requires c =
    let s = c.self.inside in
    omega (arith, c.requires, ap (λ (placed : Placed). length placed.rows) c.self.view_is, length-cells s.slots.rows (joined s.places))

pub row-requires : goal.row-requires
row-requires c =
    let s = c.self.inside in
    let within : c.args.position < length (joined s.places) = omega (arith, c.requires, ap (λ (placed : Placed). length placed.rows) c.self.view_is, length-cells s.slots.rows (joined s.places)) in
    let own : get_or (joined s.places) c.args.position 0 < length s.slots.rows = every_at (λ slot. slot < length s.slots.rows) (joined s.places) c.args.position 0 within c.self.invariant.place_slots in
    omega (arith, own, c.slot_at.ensures)

pub returns-clause-cells : goal.returns-clause-cells
returns-clause-cells c =
    let s = c.self.inside in
    let within : c.args.position < length (joined s.places) = omega (arith, c.requires, ap (λ (placed : Placed). length placed.rows) c.self.view_is, length-cells s.slots.rows (joined s.places)) in
    c.row.ensures.cells
    ∙ ap (λ (slot : ℕ). get_or s.slots.rows slot []) c.slot_at.ensures
    ∙ sym (at-cells s.slots.rows (joined s.places) c.args.position within)
    ∙ ap (λ (placed : Placed). get_or placed.rows c.args.position []) c.self.view_is
