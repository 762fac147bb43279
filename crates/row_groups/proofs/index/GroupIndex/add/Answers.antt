use Rattle.std.proofs.Common.{◌∷◌, [], ap, ◌∙◌, w64}
use Rattle.std.proofs.lemmas.Int.{to_z-of_z}
use Rattle.row_handles.specs.Entries.{left_rows, handle_under}
use Rattle.row_groups.{specs.Members.{member_of, with_member}, specs.Rows.{members_of, rows_of}, proofs.Keys.{ascending, left_again, under_own}, proofs.Indexed.{grouped_same, holds_before, index_left}}
use Rattle.row_groups.proofs.index.GroupIndex.add.Goals as goal

pub enter-requires-clause-others : goal.enter-requires-clause-others
enter-requires-clause-others c =
    holds_before c.args.key c.in_ok-handle.handle c.args.self.now c.add.new.self c.requires.sound c.requires.small c.requires.absent c.in_ok-handle.ensures.fresh c.in_ok-handle.ensures.rows

pub enter-requires-clause-handle : goal.enter-requires-clause-handle
enter-requires-clause-handle c = ap (handle_under c.args.key) c.in_ok-handle.ensures.rows ∙ under_own c.args.key c.in_ok-handle.handle c.args.self.now.handles c.requires.absent

pub returns-in-Err-clause-sound : goal.returns-in-Err-clause-sound
returns-in-Err-clause-sound c =
    index_left (c.args.key ∷ []) c.enter.new.self c.remove_one.new.self c.in-Err.ensures.err c.remove_one.ensures

pub returns-in-Err-clause-err : goal.returns-in-Err-clause-err
returns-in-Err-clause-err c =
    let old = c.args.self.now in
    let key = c.args.key in
    let back = ap (left_rows (key ∷ [])) c.in_ok-handle.ensures.rows ∙ left_again key c.in_ok-handle.handle old.handles (ascending old.handles c.requires.sound.handled) c.requires.absent in
    let rows = ap (rows_of c.enter.new.self.table c.enter.new.self.lists.groups) c.remove_one.ensures ∙ c.enter.ensures.others ∙ ap (rows_of old.table old.lists.groups) back in
    grouped_same _ _ _ _ c.enter.ensures.width (ap members_of rows)

pub returns-in-Ok-clause-ok : goal.returns-in-Ok-clause-ok
returns-in-Ok-clause-ok c =
    let old = c.args.self.now in
    let key = c.args.key in
    let back = ap (left_rows (key ∷ [])) c.in_ok-handle.ensures.rows ∙ left_again key c.in_ok-handle.handle old.handles (ascending old.handles c.requires.sound.handled) c.requires.absent in
    c.in-Ok.ensures.row
    ∙ ap (λ at. record { width = old.width; members = with_member (member_of key c.args.cells.now at) (members_of (rows_of old.table old.lists.groups (left_rows (key ∷ []) c.add.new.self))) }) (to_z-of_z w64 c.args.at c.ranges.at)
    ∙ ap (λ xs. record { width = old.width; members = with_member (member_of key c.args.cells.now c.args.at) (members_of (rows_of old.table old.lists.groups xs)) }) back
