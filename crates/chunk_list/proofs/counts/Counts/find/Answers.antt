use Rattle.std.proofs.Common.{◌+◌, ◌*◌, ◌≤◌, ap, ℕ, length, sum, take, drop, arith}
use Rattle.std.{proofs.lemmas.List.take_rest, proofs.lemmas.List.Sums.sum_by-take-drop}
use Rattle.chunk_list.proofs.Sums.{all_blocks, blocks_sum, sum_add}
use Rattle.chunk_list.proofs.counts.Counts.find.Goals as goal

pub find_in-block-requires : goal.find_in-block-requires
find_in-block-requires c =
    omega (arith, ap sum c.deref.ensures.value, all_blocks c.self.inside.each.items c.self.inside.blocks.items c.self.invariant.summed, ap sum c.self.view_is)

pub find_in-place-requires : goal.find_in-place-requires
find_in-place-requires c =
    let index = c.find_in-block.result.index in
    let start : ℕ = index * 64 in
    let within : index ≤ length c.self.inside.blocks.items = omega (arith, ap length c.deref.ensures.value, c.find_in-block.ensures.index) in
    omega (arith, ap sum (take_rest c.deref-2.result.now start), sum_by-take-drop (λ y. y) c.deref-2.result.now start, ap (λ xs. sum (take start xs)) c.deref-2.ensures.value, ap sum c.deref-2.ensures.value, blocks_sum c.self.inside.each.items c.self.inside.blocks.items c.self.invariant.summed.sums index within, ap (λ xs. sum (take index xs)) c.deref.ensures.value, c.find_in-block.ensures.position, ap sum c.self.view_is)

pub returns-clause-position : goal.returns-clause-position
returns-clause-position c =
    let index = c.find_in-block.result.index in
    let start : ℕ = index * 64 in
    let next = c.find_in-place.result.index in
    let within : index ≤ length c.self.inside.blocks.items = omega (arith, ap length c.deref.ensures.value, c.find_in-block.ensures.index) in
    omega (arith, sum_add c.self.inside.each.items start next, ap (λ xs. sum (take next xs)) (take_rest c.deref-2.result.now start), ap (λ xs. sum (take next (drop start xs))) c.deref-2.ensures.value, ap (λ xs. sum (take (start + next) xs)) c.self.view_is, c.find_in-place.ensures.position, blocks_sum c.self.inside.each.items c.self.inside.blocks.items c.self.invariant.summed.sums index within, ap (λ xs. sum (take index xs)) c.deref.ensures.value, c.find_in-block.ensures.position)
