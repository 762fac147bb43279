use Rattle.std.proofs.Common.{sym, ap, ◌∙◌, subst, None}
use Rattle.std.{specs.Prelude.{option_map, option_to_list}, specs.List.flat_map}
use Rattle.update_graph.{specs.Stands.{IsHanded, all_defined}, proofs.Counting.one_undefined}
use Rattle.update_graph.proofs.shares.Shares.tables.Goals as goal

pub returns-in-None : goal.returns-in-None
returns-in-None c =
    let share = c.in-Some.share in
    let none : IsHanded share.run share.step share.node None = subst (λ found. IsHanded share.run share.step share.node (option_map (λ table. table.now) found)) c.in-None.is c.table.ensures in
    ap all_defined (sym c.self.view_is ∙ ap (flat_map option_to_list) (sym c.as_slice-shares.ensures))
    ∙ one_undefined c.as_slice-shares.result.now c.loop-share.share-index c.share-item.result share c.loop-share-test.true c.share-item.is c.in-Some.is none
