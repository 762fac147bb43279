use Rattle.std.proofs.Common.{◌≡◌, ◌∙◌, ap, refl, subst, sym, true, IsSome, List, ℤ}
use Rattle.chunk_list.specs.Chunked.{joined}
use Rattle.key_lists.specs.Keys.{is_among}
use Rattle.row_handles.specs.Entries.{handle_under}
use Rattle.tick_model.specs.Tables.{same_cells}
use Rattle.sort_op.{specs.Entries.{is_in, keys_in}, specs.Ranks.{Ranking, kept_cells, listed}, specs.Sorted.sort_cells, proofs.Ranked.{cells_of_entry, handle_found}}
use Rattle.sort_op.proofs.row_order.RowOrder.has_cells.Goals as goal

pub unwrap-handle-requires : goal.unwrap-handle-requires
unwrap-handle-requires c =
    let was : Ranking = record { by = c.self.inside.by; handles = c.self.inside.handles; cells = c.self.inside.cells; rows = joined c.self.inside.rows } in
    let found = handle_found was c.self.invariant c.args.key (subst (λ (order : Ranking). is_among c.args.key (keys_in (listed order)) ≡ true) (sym c.self.view_is) c.requires) in
    subst IsSome (sym (c.handle_of.ensures.handle ∙ found.1)) refl

pub returns : goal.returns
returns c = λ entry here is.
    let was : Ranking = record { by = c.self.inside.by; handles = c.self.inside.handles; cells = c.self.inside.cells; rows = joined c.self.inside.rows } in
    let handle = c.unwrap-handle.result in
    c.are_of.ensures
    ∙ ap (λ by. same_cells (kept_cells by c.self.inside.cells handle) (sort_cells by c.args.row.now)) c.as_slice.ensures
    ∙ ap (λ (cells : List ℤ). same_cells cells (sort_cells c.self.inside.by c.args.row.now))
    (cells_of_entry was c.self.invariant entry handle (subst (λ (order : Ranking). is_in entry (listed order) ≡ true) (sym c.self.view_is) here) (ap (λ key. handle_under key c.self.inside.handles) is ∙ sym c.handle_of.ensures.handle ∙ c.unwrap-handle.ensures))
    ∙ ap (λ (order : Ranking). same_cells entry.cells (sort_cells order.by c.args.row.now)) c.self.view_is
