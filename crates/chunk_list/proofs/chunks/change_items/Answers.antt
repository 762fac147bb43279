use Rattle.std.proofs.Common.{◌∙◌, ap, set}
use Rattle.chunk_list.proofs.Changing.{later_has, map_more}
use Rattle.chunk_list.proofs.chunks.change_items.Goals as goal

pub change-requires : goal.change-requires
change-requires g c =
    later_has (g.C.ItemChange.ready c.args.change.now) (g.C.ItemChange.changed c.args.change.now) c.args.items.now c.loop-item.items c.loop-item.item-index c.item-item.result c.loop-item-test.true c.loop-item.invariant c.requires

pub loop-item-preserved : goal.loop-item-preserved
loop-item-preserved g c =
    ap (set c.loop-item.items c.loop-item.item-index) c.change.ensures
    ∙ map_more (g.C.ItemChange.changed c.args.change.now) c.args.items.now c.loop-item.items c.loop-item.item-index c.item-item.result c.loop-item-test.true c.loop-item.invariant
