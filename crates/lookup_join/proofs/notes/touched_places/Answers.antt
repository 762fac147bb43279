use Rattle.std.proofs.Common.{◌≡◌, ap, ap₂, sym, ◌∙◌, subst, true, cond, ◌==◌, List, [], ◌∷◌, map, length, refl}
use Rattle.std.{specs.Prelude.{flat_map, is_some}, specs.List.AllByRecursion}
use Rattle.key_lists.specs.Keys.{is_among}
use Rattle.lookup_join.{specs.Notes.{NoteList, noting, spot_under}, specs.Taken.{spot_at, step_notes, touched_spots}, specs.declared.keyed.Side.TheVariants.Right, proofs.Latests.timed_index, proofs.Stepping.{modified_before, modified_now, removed_there}, proofs.Walks.{members_known, noting_parts, spots_known}}
use Rattle.row_groups.specs.Members.{Grouped, Member, groups_of, member_under}
use Rattle.tick_model.{specs.declared.update.KeyPair.KeyPair, specs.Tables.keys, specs.Updates.Update}
use Rattle.lookup_join.proofs.notes.touched_places.Goals as goal

pub returns-then-is_empty-clause-notes : goal.returns-then-is_empty-clause-notes
returns-then-is_empty-clause-notes g c =
    let on = c.args.on.now in
    c.new-notes.ensures ∙ ap (λ b. let noted : NoteList = record { width = length on; notes = cond b [] (step_notes on c.args.pick c.args.right.now) } in noted) (c.if-is_empty.ensures.empty ∙ ap (λ ks. length ks == 0) c.prev_rows.ensures.keys)

pub note_removed-requires-clause-here : goal.note_removed-requires-clause-here
note_removed-requires-clause-here g c =
    let right = c.args.right.now in
    let removed : c.removed.result.now ≡ right.update.removed = c.removed.ensures.keys ∙ ap (λ (update : Update). update.removed) c.update.ensures in
    subst (AllByRecursion (λ key. is_some (member_under key c.args.index.now.members) ≡ true)) (sym removed)
    (members_known c.args.on.now c.args.pick right.old.rows (groups_of c.args.index.now) right.update.removed c.requires.index (removed_there right c.requires.exact))

pub note_removed-requires-clause-width : goal.note_removed-requires-clause-width
note_removed-requires-clause-width g c =
    ap (λ (noted : NoteList). noted.width) c.new-notes.ensures ∙ sym (ap (λ (index : Grouped). index.width) c.requires.index)

pub note_removed-requires-clause-timed : goal.note_removed-requires-clause-timed
note_removed-requires-clause-timed g c = timed_index Right c.args.on.now c.args.pick c.args.right.now.old.rows (groups_of c.args.index.now) c.requires.index

pub note_modified-requires-clause-before : goal.note_modified-requires-clause-before
note_modified-requires-clause-before g c = subst (AllByRecursion (λ (pair : KeyPair). is_among pair.old (keys c.args.right.now.old.rows) ≡ true)) (sym c.requires.modified) (modified_before c.args.right.now c.requires.exact)

pub note_modified-requires-clause-now : goal.note_modified-requires-clause-now
note_modified-requires-clause-now g c = subst (AllByRecursion (λ (pair : KeyPair). is_among pair.new (keys c.args.right.now.new.rows) ≡ true)) (sym c.requires.modified) (modified_now c.args.right.now c.requires.exact)

pub note_added-requires-clause-timed : goal.note_added-requires-clause-timed
note_added-requires-clause-timed g c = timed_index Right c.args.on.now c.args.pick c.args.right.now.old.rows (groups_of c.args.index.now) c.requires.index

pub returns-clause-notes : goal.returns-clause-notes
returns-clause-notes g c =
    let right = c.args.right.now in
    let removed : c.removed.result.now ≡ right.update.removed = c.removed.ensures.keys ∙ ap (λ (update : Update). update.removed) c.update.ensures in
    let known : map (λ key. spot_under key c.args.index.now.members) c.removed.result.now ≡ map (spot_at c.args.on.now c.args.pick right.old.rows) right.update.removed =
    ap (map (λ key. spot_under key c.args.index.now.members)) removed ∙ spots_known c.args.on.now c.args.pick right.old.rows (groups_of c.args.index.now) right.update.removed c.requires.index (removed_there right c.requires.exact) in
    let on = c.args.on.now in
    let pick = c.args.pick in
    noting_parts pick c.args.index.now.members (length on) (length on) c.new-notes.result c.note_removed.new.notes c.note_modified.new.notes c.note_added.new.notes
    (map (λ key. spot_under key c.args.index.now.members) c.removed.result.now) (map (spot_at on pick right.old.rows) right.update.removed)
    (flat_map (λ (pair : KeyPair). spot_at on pick right.old.rows pair.old ∷ spot_at on pick right.new.rows pair.new ∷ []) c.args.modified.now) (map (spot_at on pick right.new.rows) right.update.added)
    refl known c.new-notes.ensures c.in_ok-note_removed.ensures c.in_ok-note_modified.ensures.notes c.in_ok-note_added.ensures.notes
    ∙ ap₂ (λ (members : List Member) (modified : List KeyPair). let noted : NoteList = record { width = length on; notes = noting pick members [] (touched_spots on pick right.old.rows right.new.rows right.update modified) } in noted)
    (ap (λ (index : Grouped). index.members) c.requires.index) c.requires.modified
    ∙ ap (λ b. let noted : NoteList = record { width = length on; notes = cond b [] (step_notes on pick right) } in noted) (c.if-is_empty.ensures.empty ∙ ap (λ ks. length ks == 0) c.prev_rows.ensures.keys)
