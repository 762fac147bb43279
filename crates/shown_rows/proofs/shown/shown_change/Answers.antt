use Rattle.std.proofs.Common.{◌≡◌, refl, ap, ◌∙◌, List, ◌++◌, ℤ}
use Rattle.key_lists.specs.Keys.{without}
use Rattle.row_changes.specs.Parts.{cells_under}
use Rattle.shift_data.specs.Moves.{canonical}
use Rattle.tick_model.{specs.Tables.keys, specs.Updates.between}
use Rattle.tick_table.specs.Exact.{tick_of}
use Rattle.shown_rows.{specs.Shown.through, proofs.Parts.are_there, proofs.Restricted.{added_new, change_shown, shift_lawful_shown}}
use Rattle.shown_rows.proofs.shown.shown_change.Goals as goal

pub all_now-requires-clause-there : goal.all_now-requires-clause-there
all_now-requires-clause-there g c =
    let t = c.args.input.now in
    let choice = g.C.Chooses.chosen c.args.choice.now in
    are_there (choice t.new) t.new c.args.coming c.requires.new_part (rw c.requires.coming (added_new t c.requires.exact choice c.requires.old_part c.requires.new_part))

pub canonical_without-requires : goal.canonical_without-requires
canonical_without-requires g c =
    rw (c.shifted.ensures, c.update-update.ensures, c.requires.shown, c.requires.leaving)
    (shift_lawful_shown c.args.input.now c.requires.exact (g.C.Chooses.chosen c.args.choice.now) c.requires.old_part c.requires.new_part)

pub returns-clause-change : goal.returns-clause-change
returns-clause-change g c =
    let t = c.args.input.now in
    let choice = g.C.Chooses.chosen c.args.choice.now in
    let told = c.in_ok-told.ensures in
    let shifts : c.in_ok-shifted.shifted ≡ canonical t.update.shifted (without (between (through choice (tick_of t))).removed (keys (choice t.old).rows)) =
    rw (c.in_ok-shifted.ensures, c.shifted.ensures, c.update-update.ensures, c.requires.shown, c.requires.leaving) refl in
    change_shown t c.requires.exact choice c.requires.old_part c.requires.new_part c.args.leaving c.args.coming c.in_ok-told.told.modified c.in_ok-told.told.columns c.in_ok-shifted.shifted c.of.result
    c.requires.leaving c.requires.coming shifts (rw (told.modified, c.requires.shown, c.requires.leaving) refl) told.rising (λ column. rw (told.columns column, c.requires.shown, c.requires.leaving) refl)
    (c.of.ensures ∙ told.cells ∙ ap (λ (cells : List ℤ). cells ++ cells_under t.new c.in_ok-told.told.modified) (c.in_ok-all_now.ensures.cells ∙ ap (λ (cells : List ℤ). cells ++ cells_under t.new c.args.coming) c.in_ok-cells.ensures.items))
