use Rattle.std.proofs.Common.{◌≡◌, ◌<◌, true, false, ap, arith, sym, ◌∙◌, subst, suc, take, drop, length}
use Rattle.std.{specs.List.AllByRecursion, proofs.lemmas.List.Edits.length-remove}
use Rattle.chunk_list.{specs.Chunked.{joined, position_in}, proofs.Searches.{start_next, start_within}}
use Rattle.row_groups.{specs.Slots.{handle_from, is_before, slots_without}, proofs.Listed.{none_from, none_there, placed_from, placed_without}}
use Rattle.row_groups.proofs.sequence.Sequence.take.Goals as goal

pub invariant_of-self : goal.invariant_of-self
invariant_of-self c =
    let chunks = c.self.inside.chunks in
    let spot = c.in_ok-spot.spot in
    let less : position_in chunks spot < length (joined chunks) = omega (arith, c.in_ok-spot.ensures.found.offset, start_next chunks spot.index, start_within chunks (suc spot.index)) in
    record {
      counted = omega (arith, ap length c.remove-row.ensures.items, length-remove (joined chunks) (position_in chunks spot) less, c.self.invariant.counted);
      fits = omega (arith, c.self.invariant.fits);
    }

pub returns-clause-rest : goal.returns-clause-rest
returns-clause-rest c =
    let chunks = c.self.inside.chunks in
    let place = c.args.place.now in
    let test = is_before place.handles.now place.table.now place.at place.key in
    let spot = c.in_ok-spot.spot in
    let same = sym c.in_ok-spot.ensures.found.position_is in
    let less : position_in chunks spot < length (joined chunks) = omega (arith, c.in_ok-spot.ensures.found.offset, start_next chunks spot.index, start_within chunks (suc spot.index)) in
    c.remove-row.ensures.items
    ∙ placed_without place.handles.now place.table.now place.at place.key (joined chunks) (position_in chunks spot) less
    (subst (λ n. AllByRecursion (λ slot. test slot ≡ true) (take n (joined chunks))) same c.spot_before-end.ensures.before)
    (subst (λ n. AllByRecursion (λ slot. test slot ≡ false) (drop n (joined chunks))) same c.spot_before-end.ensures.others)
    ∙ ap (slots_without place.handles.now place.table.now place.at place.key) c.self.view_is

pub returns-clause-handle : goal.returns-clause-handle
returns-clause-handle c =
    let chunks = c.self.inside.chunks in
    let place = c.args.place.now in
    let test = is_before place.handles.now place.table.now place.at place.key in
    let spot = c.in_ok-spot.spot in
    let same = sym c.in_ok-spot.ensures.found.position_is in
    placed_from place.handles.now place.table.now place.at place.key (joined chunks) (position_in chunks spot) c.remove-row.result c.remove-row.ensures.item
    (subst (λ n. AllByRecursion (λ slot. test slot ≡ true) (take n (joined chunks))) same c.spot_before-end.ensures.before)
    (subst (λ n. AllByRecursion (λ slot. test slot ≡ false) (drop n (joined chunks))) same c.spot_before-end.ensures.others)
    ∙ ap (handle_from place.handles.now place.table.now place.at place.key) c.self.view_is

pub returns-in_err-spot-clause-rest : goal.returns-in_err-spot-clause-rest
returns-in_err-spot-clause-rest c =
    let chunks = c.self.inside.chunks in
    let place = c.args.place.now in
    sym c.self.view_is
    ∙ none_there place.handles.now place.table.now place.at place.key (joined chunks) (position_in chunks c.spot_before-end.result) (c.next_item.ensures.none c.in_err-spot.was) c.spot_before-end.ensures.before
    ∙ ap (slots_without place.handles.now place.table.now place.at place.key) c.self.view_is

pub returns-in_err-spot-clause-handle : goal.returns-in_err-spot-clause-handle
returns-in_err-spot-clause-handle c =
    let chunks = c.self.inside.chunks in
    let place = c.args.place.now in
    c.from_residual.ensures
    ∙ none_from place.handles.now place.table.now place.at place.key (joined chunks) (position_in chunks c.spot_before-end.result) (c.next_item.ensures.none c.in_err-spot.was) c.spot_before-end.ensures.before
    ∙ ap (handle_from place.handles.now place.table.now place.at place.key) c.self.view_is
