use Rattle.std.proofs.Common.{refl, ap, ap₂, ◌∙◌, [], arith, get_or, length, List, ℕ, ℤ}
use Rattle.std.specs.List.{insert}
use Rattle.chunk_list.specs.Chunked.{joined}
use Rattle.tick_table.{specs.Placed.{Placed, cells_of}, proofs.Own.{left_same, length-cells, map-insert, own_as, own_filled, own_put, places_same}}
use Rattle.tick_table.proofs.placed.PlacedRows.put_in.Goals as goal

pub insert-requires : goal.insert-requires
insert-requires c =
    let s = c.self.inside in
    omega (arith, c.requires.within, ap (λ (placed : Placed). length placed.rows) c.self.view_is, length-cells s.slots.rows (joined s.places))

pub invariant_of-self-in_err-insert : goal.invariant_of-self-in_err-insert
invariant_of-self-in_err-insert c =
    let s = c.self.inside in
    let places = joined s.places in
    own_as c.fill.new.self places s.left.items (joined c.insert.new.self) s.left.items (ap joined c.in_err-insert.ensures.err) refl
    (own_filled s.slots places s.left.items c.self.invariant c.args.row.now c.fill.new.self c.in_ok-slot.slot c.in_ok-slot.ensures.filled)

pub invariant_of-self-2 : goal.invariant_of-self-2
invariant_of-self-2 c =
    let s = c.self.inside in
    let places = joined s.places in
    own_as c.fill.new.self (insert places c.args.position c.in_ok-slot.slot) s.left.items (joined c.insert.new.self) s.left.items c.in_ok-insert.ensures.ok refl
    (own_put s.slots places s.left.items c.self.invariant c.args.row.now c.fill.new.self c.in_ok-slot.slot c.in_ok-slot.ensures.filled c.args.position)

pub returns-clause-rows : goal.returns-clause-rows
returns-clause-rows c =
    let s = c.self.inside in
    let places = joined s.places in
    let filled = c.in_ok-slot.ensures.filled in
    ap (cells_of c.fill.new.self.rows) c.in_ok-insert.ensures.ok
    ∙ map-insert (λ (slot : ℕ). get_or c.fill.new.self.rows slot []) places c.args.position c.in_ok-slot.slot
    ∙ ap₂ (λ (rows : List (List ℤ)) (row : List ℤ). insert rows c.args.position row) (places_same s.slots places s.left.items c.self.invariant c.args.row.now c.fill.new.self c.in_ok-slot.slot filled) filled.here
    ∙ ap (λ (placed : Placed). insert placed.rows c.args.position c.args.row.now) c.self.view_is

pub returns-clause-left : goal.returns-clause-left
returns-clause-left c =
    let s = c.self.inside in
    left_same s.slots (joined s.places) s.left.items c.self.invariant c.args.row.now c.fill.new.self c.in_ok-slot.slot c.in_ok-slot.ensures.filled ∙ ap (λ (placed : Placed). placed.left) c.self.view_is
