use Rattle.std.proofs.Common.{◌≡◌, ◌-◌, ap, arith, sym, ◌∙◌, length, IsSome}
use Rattle.std.proofs.lemmas.Result.{on_ok_weaker}
use Rattle.key_lists.proofs.Parts.{every_got}
use Rattle.row_handles.specs.Entries.{key_with}
use Rattle.chunk_list.{specs.Chunked.{joined, position_in}, proofs.Joined.some_lists, proofs.Searches.position_within}
use Rattle.row_groups.{specs.Slots.slots_with, proofs.Listed.{placed_alone, placed_last, placed_with}}
use Rattle.row_groups.proofs.sequence.Sequence.put.Goals as goal

pub returns-then-self-eq0-clause-ok : goal.returns-then-self-eq0-clause-ok
returns-then-self-eq0-clause-ok c =
    let place = c.args.place.now in
    let none : length c.args.self.now ≡ 0 = sym (ap length c.self.view_is) ∙ sym c.self.invariant.counted ∙ c.if-self-eq0.true in
    on_ok_weaker c.push.result (λ is. is ∙ placed_alone place.handles.now place.table.now place.at place.key c.args.slot c.args.self.now none) c.push.ensures.ok

pub is_after-requires : goal.is_after-requires
is_after-requires c =
    every_got (λ slot. IsSome (key_with slot.handle c.args.place.now.handles.now)) c.args.self.now (length c.args.self.now - 1) c.in-Some.last (sym c.last.ensures ∙ c.in-Some.is) c.requires.known

pub returns-then-is_after-clause-ok : goal.returns-then-is_after-clause-ok
returns-then-is_after-clause-ok c =
    let place = c.args.place.now in
    on_ok_weaker c.push-then-is_after.result (λ is. is ∙ placed_last place.handles.now place.table.now place.at place.key c.args.slot c.in-Some.last c.args.self.now (sym c.last.ensures ∙ c.in-Some.is) c.requires.parted (sym c.is_after.ensures ∙ c.if-is_after.true)) c.push-then-is_after.ensures.ok

pub insert-requires-clause-index : goal.insert-requires-clause-index
insert-requires-clause-index c =
    let some : c.self.inside.len ≡ 0 → ⊥ = c.if-self-eq0.false in
    c.spot_before-spot.ensures.index (some_lists c.self.inside.chunks (omega (arith, some, c.self.invariant.counted)))

pub returns-clause-ok : goal.returns-clause-ok
returns-clause-ok c =
    let chunks = c.self.inside.chunks in
    let place = c.args.place.now in
    let spot = c.spot_before-spot.result in
    c.in_ok-insert.ensures.items
    ∙ placed_with place.handles.now place.table.now place.at place.key c.args.slot (joined chunks) (position_in chunks spot) (position_within chunks spot c.spot_before-spot.ensures.offset) c.spot_before-spot.ensures.before c.spot_before-spot.ensures.others
    ∙ ap (slots_with place.handles.now place.table.now place.at place.key c.args.slot) c.self.view_is
