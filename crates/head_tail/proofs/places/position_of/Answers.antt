use Rattle.std.proofs.Common.{◌≡◌, ◌+◌, ◌-◌, ◌/◌, ◌<◌, ◌≤◌, min, not, arith, length}
use Rattle.key_lists.specs.Keys.{is_among, without}
use Rattle.tick_laws.proofs.ResultCells.{length-filter_most}
use Rattle.head_tail.proofs.Positions.{first_few, last_many, staying_more}
use Rattle.head_tail.proofs.places.position_of.Goals as goal

pub loop-low-init : goal.loop-low-init
loop-low-init c =
    let keys = c.args.keys.now in
    let others = c.args.others.now in
    let is : c.min-high.result ≡ min (c.args.staying + length others) (length keys) = omega (arith, c.min-high.ensures, c.saturating_add.ensures, c.len.ensures.count, c.len-2.ensures.count, c.len-2.type_inv) in
    let few : length (without others keys) ≤ length keys = length-filter_most (λ key. not (is_among key others)) keys in
    record {
      order = omega (arith, is, few, c.requires.enough);
      within = omega (arith, is);
      few = first_few keys others c.args.staying;
      many = last_many keys others c.args.staying c.min-high.result c.len-2.ensures.keys.rising c.len.ensures.keys.rising c.requires.there c.requires.enough is;
    }

pub loop-low-preserved-then-staying_before-staying : goal.loop-low-preserved-then-staying_before-staying
loop-low-preserved-then-staying_before-staying c =
    let middle = c.loop-low.low + (c.loop-low.high - c.loop-low.low) / 2 in
    let before : middle < c.loop-low.high = omega (arith, c.loop-low-test.true) in
    let inside : middle < length c.args.keys.now = omega (arith, before, c.loop-low.invariant.within) in
    record {
      order = omega (arith, before);
      within = c.loop-low.invariant.within;
      few = omega (arith, staying_more c.args.keys.now c.args.others.now middle inside, c.staying_before.ensures, c.if-staying_before-staying.true);
      many = c.loop-low.invariant.many;
    }
