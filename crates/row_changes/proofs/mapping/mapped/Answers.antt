use Rattle.std.proofs.Common.{◌≡◌, ap, sym, ◌∙◌, subst, List}
use Rattle.std.proofs.lemmas.Result.{IfOk-weaker}
use Rattle.tick_model.{specs.declared.update.KeyPair.KeyPair, specs.Changes.change_of, specs.Updates.{Update, pairs}}
use Rattle.tick_table.{specs.Exact.tick_of, specs.declared.version.Version.TheVariants.{Before, Now}}
use Rattle.row_changes.{specs.Mapped.mapped_tick, specs.Parts.{Parts, AreParts, AreThere, tick_along}, proofs.MadeChange.parts_there, proofs.MappedParts.mapped_parts}
use Rattle.row_changes.proofs.mapping.mapped.Goals as goal

pub change_of_touched-requires-clause-added : goal.change_of_touched-requires-clause-added
change_of_touched-requires-clause-added g c =
    let old = g.R.Rows.table c.args.rows.now Before in
    let new = g.R.Rows.table c.args.rows.now Now in
    let input = c.args.input.now in
    let parts : Parts = record { removed = input.update.removed; added = input.update.added; shifted = input.update.shifted; compared_before = c.args.before; compared_now = c.args.now } in
    subst (AreThere new) (sym (c.in_ok-added.ensures ∙ c.added.ensures.keys ∙ ap (λ (update : Update). update.added) c.update-update.ensures))
    (parts_there old new parts (pairs input.old input.update) (mapped_parts input c.requires.exact old new c.requires.tables c.args.before c.args.now c.requires.compared)).0

pub change_of_touched-requires-clause-before : goal.change_of_touched-requires-clause-before
change_of_touched-requires-clause-before g c =
    let old = g.R.Rows.table c.args.rows.now Before in
    let new = g.R.Rows.table c.args.rows.now Now in
    let input = c.args.input.now in
    let parts : Parts = record { removed = input.update.removed; added = input.update.added; shifted = input.update.shifted; compared_before = c.args.before; compared_now = c.args.now } in
    (parts_there old new parts (pairs input.old input.update) (mapped_parts input c.requires.exact old new c.requires.tables c.args.before c.args.now c.requires.compared)).1

pub change_of_touched-requires-clause-now : goal.change_of_touched-requires-clause-now
change_of_touched-requires-clause-now g c =
    let old = g.R.Rows.table c.args.rows.now Before in
    let new = g.R.Rows.table c.args.rows.now Now in
    let input = c.args.input.now in
    let parts : Parts = record { removed = input.update.removed; added = input.update.added; shifted = input.update.shifted; compared_before = c.args.before; compared_now = c.args.now } in
    (parts_there old new parts (pairs input.old input.update) (mapped_parts input c.requires.exact old new c.requires.tables c.args.before c.args.now c.requires.compared)).2

pub returns-clause-change : goal.returns-clause-change
returns-clause-change g c =
    let old = g.R.Rows.table c.args.rows.now Before in
    let new = g.R.Rows.table c.args.rows.now Now in
    let input = c.args.input.now in
    let kept = pairs input.old input.update in
    let parts : Parts = record { removed = c.in_ok-removed.removed; added = c.in_ok-added.added; shifted = c.in_ok-shifted.shifted; compared_before = c.args.before; compared_now = c.args.now } in
    let own = mapped_parts input c.requires.exact old new c.requires.tables c.args.before c.args.now c.requires.compared in
    let are : AreParts old new parts kept = record {
      tick = own.tick;
      removed = c.in_ok-removed.ensures ∙ c.removed.ensures.keys ∙ ap (λ (update : Update). update.removed) c.update-update.ensures ∙ own.removed;
      added = c.in_ok-added.ensures ∙ c.added.ensures.keys ∙ ap (λ (update : Update). update.added) c.update-update.ensures ∙ own.added;
      shifted = c.in_ok-shifted.ensures ∙ c.shifted.ensures ∙ ap (λ (update : Update). update.shifted) c.update-update.ensures ∙ own.shifted;
      compared = own.compared;
    } in
    IfOk-weaker c.change_of_touched.result (λ change. (kept : List KeyPair) → AreParts old new parts kept → change ≡ change_of (tick_along old new kept)) (λ change. change ≡ change_of (mapped_tick old new (tick_of input)))
    (λ change is. is kept are) c.change_of_touched.ensures.change
