use Rattle.std.proofs.Common.{◌≡◌, ◌∙◌, ap, refl, subst, sym, true, IsSome}
use Rattle.chunk_list.specs.Chunked.{joined}
use Rattle.key_lists.specs.Keys.{is_among}
use Rattle.row_handles.specs.Entries.{handle_under}
use Rattle.sort_op.{specs.Entries.keys_in, specs.Ranks.{IsRanking, Ranking, listed}, proofs.Ranked.{handle_found, position_counted}}
use Rattle.sort_op.proofs.row_order.RowOrder.position_of.Goals as goal

pub unwrap-handle-requires : goal.unwrap-handle-requires
unwrap-handle-requires c =
    let was : Ranking = record { by = c.self.inside.by; handles = c.self.inside.handles; cells = c.self.inside.cells; rows = joined c.self.inside.rows } in
    let found = handle_found was c.self.invariant c.args.key (subst (λ (order : Ranking). is_among c.args.key (keys_in (listed order)) ≡ true) (sym c.self.view_is) c.requires) in
    subst IsSome (sym (c.handle_of.ensures.handle ∙ found.1)) refl

pub returns : goal.returns
returns c =
    position_counted c.args.self.now (subst IsRanking c.self.view_is c.self.invariant) c.args.key c.unwrap-handle.result c.count_before.result c.requires
    (ap (λ (order : Ranking). handle_under c.args.key order.handles) (sym c.self.view_is) ∙ sym c.handle_of.ensures.handle ∙ c.unwrap-handle.ensures) c.count_before.ensures.within c.count_before.ensures.before c.count_before.ensures.others
