use Rattle.std.proofs.Common.{refl, ap, sym, ◌∙◌, ◌++◌, ◌*◌, List, ℕ}
use Rattle.chunk_list.specs.Chunked.{joined}
use Rattle.tick_table.{specs.Placed.{Placed, cells_of}, specs.Slots.slot_list, proofs.Own.{own_as, own_front}}
use Rattle.tick_table.proofs.placed.PlacedRows.append.Goals as goal

pub fill_all-requires : goal.fill_all-requires
fill_all-requires c = c.requires ∙ sym (ap (λ (placed : Placed). c.args.count * placed.width) c.self.view_is)

pub invariant_of-self : goal.invariant_of-self
invariant_of-self c = let s = c.self.inside in c.in_err-slots.ensures.refused (joined s.places) s.left.items c.self.invariant

pub invariant_of-self-in_err-extend_from_slice : goal.invariant_of-self-in_err-extend_from_slice
invariant_of-self-in_err-extend_from_slice c =
    let s = c.self.inside in
    let places = joined s.places in
    own_as c.fill_all.new.self places s.left.items (joined c.extend_from_slice.new.self) s.left.items (ap joined c.in_err-extend_from_slice.ensures.err) refl
    (own_front c.fill_all.new.self places c.in_ok-slots.slots.items s.left.items (c.in_ok-slots.ensures.filled places s.left.items c.self.invariant).own)

pub invariant_of-self-2 : goal.invariant_of-self-2
invariant_of-self-2 c =
    let s = c.self.inside in
    let places = joined s.places in
    let slots = c.in_ok-slots.slots.items in
    own_as c.fill_all.new.self (places ++ slots) s.left.items (joined c.extend_from_slice.new.self) s.left.items
    (c.in_ok-extend_from_slice.ensures.ok ∙ ap (λ (xs : List ℕ). joined c.self.inside.places ++ xs) c.deref.ensures.value) refl
    (c.in_ok-slots.ensures.filled places s.left.items c.self.invariant).own

pub returns-clause-rows : goal.returns-clause-rows
returns-clause-rows c =
    let s = c.self.inside in
    ap (cells_of c.fill_all.new.self.rows) (c.in_ok-extend_from_slice.ensures.ok ∙ ap (λ (xs : List ℕ). joined c.self.inside.places ++ xs) c.deref.ensures.value)
    ∙ (c.in_ok-slots.ensures.filled (joined s.places) s.left.items c.self.invariant).cells
    ∙ ap (λ (placed : Placed). placed.rows ++ slot_list placed.width c.args.count c.args.rows.now) c.self.view_is

pub returns-clause-left : goal.returns-clause-left
returns-clause-left c =
    let s = c.self.inside in
    (c.in_ok-slots.ensures.filled (joined s.places) s.left.items c.self.invariant).others ∙ ap (λ (placed : Placed). placed.left) c.self.view_is
