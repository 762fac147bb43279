use Rattle.std.proofs.Common.{◌≡◌, ◌∙◌, ap, subst, List, ℕ}
use Rattle.std.specs.Prelude.{OnOk}
use Rattle.row_handles.specs.Entries.{keys_of}
use Rattle.tick_model.specs.Updates.{Update}
use Rattle.sort_op.{specs.declared.entry.Entry.Entry, specs.Ranks.{Ranking, listed}, specs.Reading.leaving, proofs.StepParts.{carried_are, gone_within, keys_carried, left_out, shift_lawful}}
use Rattle.sort_op.proofs.operator.take_out.Goals as goal

pub remove_found-requires : goal.remove_found-requires
remove_found-requires c = gone_within c.args.order.now (leaving c.args.order.now.by c.args.input.now) c.args.left.now c.requires.left

pub shift-requires-clause-gone : goal.shift-requires-clause-gone
shift-requires-clause-gone c =
    let old = c.args.order.now in
    let rising = c.remove_found.ensures.ranking.keys in
    let r = c.removed.ensures.keys ∙ ap (λ (update : Update). update.removed) c.update-update.ensures in
    let s = c.shifted.ensures ∙ ap (λ (update : Update). update.shifted) c.update-update.ensures in
    left_out old.by c.args.input.now c.requires.exact old c.remove_found.new.self c.args.left.now c.requires.settled rising c.requires.stands c.requires.left c.remove_found.ensures.left c.removed.result.now c.shifted.result.now r s

pub shift-requires-clause-lawful : goal.shift-requires-clause-lawful
shift-requires-clause-lawful c =
    let old = c.args.order.now in
    let rising = c.remove_found.ensures.ranking.keys in
    let r = c.removed.ensures.keys ∙ ap (λ (update : Update). update.removed) c.update-update.ensures in
    let s = c.shifted.ensures ∙ ap (λ (update : Update). update.shifted) c.update-update.ensures in
    shift_lawful old.by c.args.input.now c.requires.exact old c.remove_found.new.self c.args.left.now c.requires.settled rising c.requires.stands c.requires.left c.remove_found.ensures.left c.removed.result.now c.shifted.result.now r s

pub returns-clause-by : goal.returns-clause-by
returns-clause-by c = c.shift.ensures.by ∙ ap (λ (order : Ranking). order.by) c.remove_found.ensures.left

pub returns-clause-carried : goal.returns-clause-carried
returns-clause-carried c =
    let old = c.args.order.now in
    let rising = c.remove_found.ensures.ranking.keys in
    let r = c.removed.ensures.keys ∙ ap (λ (update : Update). update.removed) c.update-update.ensures in
    let s = c.shifted.ensures ∙ ap (λ (update : Update). update.shifted) c.update-update.ensures in
    subst (λ (entries : List Entry). OnOk c.shift.result (listed c.shift.new.self ≡ entries)) (carried_are old.by c.args.input.now c.requires.exact old c.remove_found.new.self c.args.left.now c.requires.settled rising c.requires.stands c.requires.left c.remove_found.ensures.left c.removed.result.now c.shifted.result.now r s) c.shift.ensures.listed

pub returns-clause-keys : goal.returns-clause-keys
returns-clause-keys c =
    let old = c.args.order.now in
    let rising = c.remove_found.ensures.ranking.keys in
    let r = c.removed.ensures.keys ∙ ap (λ (update : Update). update.removed) c.update-update.ensures in
    let s = c.shifted.ensures ∙ ap (λ (update : Update). update.shifted) c.update-update.ensures in
    subst (λ (keys : List ℕ). OnOk c.shift.result (keys_of c.shift.new.self.handles ≡ keys)) (keys_carried old.by c.args.input.now c.requires.exact old c.remove_found.new.self c.args.left.now c.requires.settled rising c.requires.stands c.requires.left c.remove_found.ensures.left c.removed.result.now c.shifted.result.now r s) c.shift.ensures.keys
