use Rattle.std.proofs.Common.{◌-◌, ◌/◌, ◌<◌, ap, length, get_or, arith}
use Rattle.std.proofs.lemmas.List.Sums.{get_or-le-sum_by}
use Rattle.chunk_list.proofs.Sums.{at_most_block, number_at, set_kept}
use Rattle.chunk_list.proofs.counts.Counts.sub.Goals as goal

pub overflow_sub-index_mut : goal.overflow_sub-index_mut
overflow_sub-index_mut c =
    let each = c.self.inside.each.items in
    let lt : c.args.index < length each = omega (arith, ap length c.self.view_is) in
    omega (arith, number_at each c.args.index c.index_mut.result.now lt c.index_mut.ensures.value, ap (λ xs. get_or xs c.args.index 0) c.self.view_is)

pub index_mut-requires-2 : goal.index_mut-requires-2
index_mut-requires-2 c =
    let each = c.self.inside.each.items in
    let lt : c.args.index < length each = omega (arith, ap length c.self.view_is) in
    omega (arith, c.self.invariant.summed.cover)

pub overflow_sub-index_mut-2 : goal.overflow_sub-index_mut-2
overflow_sub-index_mut-2 c =
    let each = c.self.inside.each.items in
    let lt : c.args.index < length each = omega (arith, ap length c.self.view_is) in
    let in_block : c.args.index / 64 < length c.self.inside.blocks.items = omega (arith, c.self.invariant.summed.cover) in
    omega (arith, number_at c.self.inside.blocks.items (c.args.index / 64) c.index_mut-2.result.now in_block c.index_mut-2.ensures.value, at_most_block each c.self.inside.blocks.items c.args.index (c.args.index / 64) c.self.invariant.summed lt (omega arith) (omega arith), ap (λ xs. get_or xs c.args.index 0) c.self.view_is)

pub overflow_sub-self : goal.overflow_sub-self
overflow_sub-self c =
    let each = c.self.inside.each.items in
    let lt : c.args.index < length each = omega (arith, ap length c.self.view_is) in
    omega (arith, c.self.invariant.total_is, get_or-le-sum_by (λ y. y) each c.args.index 0 lt, ap (λ xs. get_or xs c.args.index 0) c.self.view_is)

pub invariant_of-self : goal.invariant_of-self
invariant_of-self c =
    let each = c.self.inside.each.items in
    let lt : c.args.index < length each = omega (arith, ap length c.self.view_is) in
    let in_block : c.args.index / 64 < length c.self.inside.blocks.items = omega (arith, c.self.invariant.summed.cover) in
    let number = number_at each c.args.index c.index_mut.result.now lt c.index_mut.ensures.value in
    let block = number_at c.self.inside.blocks.items (c.args.index / 64) c.index_mut-2.result.now in_block c.index_mut-2.ensures.value in
    let most = at_most_block each c.self.inside.blocks.items c.args.index (c.args.index / 64) c.self.invariant.summed lt (omega arith) (omega arith) in
    let all = get_or-le-sum_by (λ y. y) each c.args.index 0 lt in
    let old = ap (λ xs. get_or xs c.args.index 0) c.self.view_is in
    set_kept each c.self.inside.blocks.items c.self.inside.total c.args.index (c.args.index / 64) (c.index_mut.result.now - c.args.by) (c.index_mut-2.result.now - c.args.by) (c.self.inside.total - c.args.by)
    c.self.invariant lt (omega arith) (omega arith) (omega (arith, number, block, most, old)) (omega (arith, number, all, old, c.self.invariant.total_is))
    (omega (arith, c.self.invariant.fits))

pub returns : goal.returns
returns c =
    let lt : c.args.index < length c.self.inside.each.items = omega (arith, ap length c.self.view_is) in
    let number = number_at c.self.inside.each.items c.args.index c.index_mut.result.now lt c.index_mut.ensures.value in
    cc (number, c.self.view_is)
