use Rattle.std.proofs.Common.{◌≡◌, ◌+◌, min, arith, length, take}
use Rattle.key_lists.specs.Keys.{without}
use Rattle.row_set.specs.Sets.{count_below}
use Rattle.head_tail.proofs.Positions.{staying_count}
use Rattle.head_tail.proofs.places.staying_before.Goals as goal

pub overflow_sub-result : goal.overflow_sub-result
overflow_sub-result c =
    let parts : length (without c.args.others.now (take c.args.position c.args.keys.now)) + count_below c.edge_at.result c.args.others.now ≡ min c.args.position (length c.args.keys.now) =
    staying_count c.args.keys.now c.args.others.now c.len.ensures.keys.rising c.count_below.ensures.keys.rising c.requires c.edge_at.result c.args.position (record { before = c.edge_at.ensures.before; from = c.edge_at.ensures.from }) in
    omega (arith, parts, c.min.ensures, c.len.ensures.count, c.count_below.ensures.count)

pub returns : goal.returns
returns c =
    let parts : length (without c.args.others.now (take c.args.position c.args.keys.now)) + count_below c.edge_at.result c.args.others.now ≡ min c.args.position (length c.args.keys.now) =
    staying_count c.args.keys.now c.args.others.now c.len.ensures.keys.rising c.count_below.ensures.keys.rising c.requires c.edge_at.result c.args.position (record { before = c.edge_at.ensures.before; from = c.edge_at.ensures.from }) in
    omega (arith, parts, c.min.ensures, c.len.ensures.count, c.count_below.ensures.count)
