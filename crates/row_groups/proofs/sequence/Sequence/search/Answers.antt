use Rattle.std.proofs.Common.{◌≡◌, ◌+◌, ℕ, List, true, false, ap, sym, subst, take, drop, length, arith}
use Rattle.std.specs.List.{AllByRecursion}
use Rattle.chunk_list.{specs.declared.counts.ChunkPosition.ChunkPosition, specs.Chunked.{joined, position_in}, proofs.Searches.position_within}
use Rattle.row_groups.{specs.declared.place.GroupRow.GroupRow, specs.Slots.is_before}
use Rattle.row_groups.proofs.sequence.Sequence.search.Goals as goal

position_is : (chunks : List (List GroupRow)) (spot : ChunkPosition) (count : ℕ) → count ≡ length (joined (take spot.index chunks)) → position_in chunks spot ≡ count + spot.offset
position_is chunks spot count e = ap (λ n. n + spot.offset) (sym e)

pub count_in-requires-clause-fits : goal.count_in-requires-clause-fits
count_in-requires-clause-fits c = omega (arith, c.self.invariant.counted, c.self.invariant.fits)

pub overflow_add-result : goal.overflow_add-result
overflow_add-result c = omega (arith, position_within c.self.inside.chunks c.spot_before-spot.result c.spot_before-spot.ensures.offset, position_is c.self.inside.chunks c.spot_before-spot.result c.count_in.result c.count_in.ensures, c.self.invariant.counted, c.self.invariant.fits)

pub returns-clause-within : goal.returns-clause-within
returns-clause-within c = omega (arith, position_within c.self.inside.chunks c.spot_before-spot.result c.spot_before-spot.ensures.offset, position_is c.self.inside.chunks c.spot_before-spot.result c.count_in.result c.count_in.ensures, ap length c.self.view_is)

pub returns-clause-before : goal.returns-clause-before
returns-clause-before c =
    let spot = c.spot_before-spot.result in
    let test = is_before c.args.place.now.handles.now c.args.place.now.table.now c.args.place.now.at c.args.place.now.key in
    subst (λ rows. AllByRecursion (λ slot. test slot ≡ true) (take (c.count_in.result + spot.offset) rows)) c.self.view_is
    (subst (λ n. AllByRecursion (λ slot. test slot ≡ true) (take n (joined c.self.inside.chunks))) (position_is c.self.inside.chunks spot c.count_in.result c.count_in.ensures) c.spot_before-spot.ensures.before)

pub returns-clause-others : goal.returns-clause-others
returns-clause-others c =
    let spot = c.spot_before-spot.result in
    let test = is_before c.args.place.now.handles.now c.args.place.now.table.now c.args.place.now.at c.args.place.now.key in
    subst (λ rows. AllByRecursion (λ slot. test slot ≡ false) (drop (c.count_in.result + spot.offset) rows)) c.self.view_is
    (subst (λ n. AllByRecursion (λ slot. test slot ≡ false) (drop n (joined c.self.inside.chunks))) (position_is c.self.inside.chunks spot c.count_in.result c.count_in.ensures) c.spot_before-spot.ensures.others)
