use Rattle.std.proofs.Common.{◌≡◌, ◌+◌, ◌-◌, ◌*◌, ◌/◌, ◌≤◌, ap, sym, ◌∙◌, length, sum, take, drop, arith, length-take-le}
use Rattle.std.proofs.lemmas.List.Sums.{sum_by-take-le}
use Rattle.chunk_list.proofs.Sums.{all_blocks, blocks_sum, sum_between}
use Rattle.chunk_list.proofs.counts.Counts.before.Goals as goal

pub slice_bounds-sum_of-end : goal.slice_bounds-sum_of-end
slice_bounds-sum_of-end c =
    let lt : c.args.index ≤ length c.self.inside.each.items = omega (arith, ap length c.self.view_is) in
    sym (length-take-le (c.args.index / 64) c.deref.result.now (omega (arith, ap length c.deref.ensures.value, c.self.invariant.summed.cover)))

pub sum_of-requires : goal.sum_of-requires
sum_of-requires c =
    omega (arith, sum_by-take-le (λ y. y) c.deref.result.now (c.args.index / 64), ap sum c.deref.ensures.value, all_blocks c.self.inside.each.items c.self.inside.blocks.items c.self.invariant.summed, c.self.invariant.total_is, c.self.invariant.fits)

pub sum_of-requires-2 : goal.sum_of-requires-2
sum_of-requires-2 c =
    let le : c.args.index / 64 * 64 ≤ c.args.index = omega arith in
    omega (arith, sum_between c.deref-2.result.now (c.args.index / 64 * 64) c.args.index le, sum_by-take-le (λ y. y) c.deref-2.result.now c.args.index, ap sum c.deref-2.ensures.value, c.self.invariant.total_is, c.self.invariant.fits)

total : (c : goal.After-sum_of-2) → c.sum_of.result + c.sum_of-2.result ≡ sum (take c.args.index c.self.inside.each.items)
total c =
    let lt : c.args.index ≤ length c.self.inside.each.items = omega (arith, ap length c.self.view_is) in
    let le : c.args.index / 64 * 64 ≤ c.args.index = omega arith in
    let first = c.sum_of.ensures ∙ ap (λ xs. sum (take (c.args.index / 64) xs)) c.deref.ensures.value ∙ blocks_sum c.self.inside.each.items c.self.inside.blocks.items c.self.invariant.summed.sums (c.args.index / 64) (omega (arith, c.self.invariant.summed.cover)) in
    let rest = c.sum_of-2.ensures ∙ ap (λ xs. sum (take (c.args.index - c.args.index / 64 * 64) (drop (c.args.index / 64 * 64) xs))) c.deref-2.ensures.value in
    omega (arith, first, rest, sum_between c.self.inside.each.items (c.args.index / 64 * 64) c.args.index le)

pub overflow_add-result : goal.overflow_add-result
overflow_add-result c = omega (arith, total c, sum_by-take-le (λ y. y) c.self.inside.each.items c.args.index, c.self.invariant.total_is, c.self.invariant.fits)

pub returns : goal.returns
returns c = total c ∙ ap (λ xs. sum (take c.args.index xs)) c.self.view_is
