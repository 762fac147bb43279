use Rattle.std.proofs.Common.{refl, ap, sym, ◌∙◌, subst, ◌++◌, [], reverse, List, ℕ}
use Rattle.chunk_list.specs.Chunked.{joined}
use Rattle.tick_table.{specs.Slots.SlotCells, specs.Placed.{AreOwn, Placed, cells_of}, proofs.Own.{own_as, own_released, own_reversed}}
use Rattle.tick_table.proofs.placed.PlacedRows.begin_step.Goals as goal

pub invariant_of-self : goal.invariant_of-self
invariant_of-self c =
    let s = c.self.inside in
    let places = joined s.places in
    subst (λ (slots : SlotCells). AreOwn slots places c.reverse.new.self.items) (sym c.in_err-release.ensures.refused)
    (own_as s.slots places (reverse s.left.items) places c.reverse.new.self.items refl c.reverse.ensures.items (own_reversed s.slots places s.left.items c.self.invariant))

pub invariant_of-self-2 : goal.invariant_of-self-2
invariant_of-self-2 c =
    let s = c.self.inside in
    let places = joined s.places in
    let free = c.in_ok-release.ensures.free ∙ ap (λ (xs : List ℕ). s.slots.free ++ xs) (c.deref.ensures.value ∙ c.reverse.ensures.items) in
    own_as c.release.new.self places [] places c.clear.new.self.items refl c.clear.ensures.items
    (own_released s.slots places s.left.items c.self.invariant c.release.new.self c.release.ensures.rows free)

pub returns-clause-rows : goal.returns-clause-rows
returns-clause-rows c =
    ap (λ rows. cells_of rows (joined c.self.inside.places)) c.release.ensures.rows ∙ ap (λ (placed : Placed). placed.rows) c.self.view_is

pub returns-clause-left : goal.returns-clause-left
returns-clause-left c = ap (cells_of c.release.new.self.rows) c.clear.ensures.items
