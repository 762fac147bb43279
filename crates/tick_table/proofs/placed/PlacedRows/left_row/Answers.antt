use Rattle.std.proofs.Common.{ap, sym, ◌∙◌, ◌<◌, arith, get_or, length, [], ℕ}
use Rattle.std.proofs.lemmas.List.{get_or_read}
use Rattle.key_lists.proofs.Parts.{every_at}
use Rattle.tick_table.{specs.Placed.Placed, proofs.Own.{at-cells, length-cells}}
use Rattle.tick_table.proofs.placed.PlacedRows.left_row.Goals as goal

pub index-requires : goal.index-requires
index-requires c =
    let s = c.self.inside in
    omega (arith, c.requires, s.left.ok.0, ap (λ (placed : Placed). length placed.left) c.self.view_is, length-cells s.slots.rows s.left.items)

pub row-requires : goal.row-requires
row-requires c =
    let s = c.self.inside in
    let within : c.args.place < length s.left.items = omega (arith, c.requires, ap (λ (placed : Placed). length placed.left) c.self.view_is, length-cells s.slots.rows s.left.items) in
    let is = get_or_read s.left.items c.args.place _ within c.index.ensures 0 in
    let own : get_or s.left.items c.args.place 0 < length s.slots.rows = every_at (λ slot. slot < length s.slots.rows) s.left.items c.args.place 0 within c.self.invariant.left_slots in
    omega (arith, own, is)

pub returns-clause-cells : goal.returns-clause-cells
returns-clause-cells c =
    let s = c.self.inside in
    let within : c.args.place < length s.left.items = omega (arith, c.requires, ap (λ (placed : Placed). length placed.left) c.self.view_is, length-cells s.slots.rows s.left.items) in
    c.row.ensures.cells
    ∙ ap (λ (slot : ℕ). get_or s.slots.rows slot []) (get_or_read s.left.items c.args.place _ within c.index.ensures 0)
    ∙ sym (at-cells s.slots.rows s.left.items c.args.place within)
    ∙ ap (λ (placed : Placed). get_or placed.left c.args.place []) c.self.view_is
