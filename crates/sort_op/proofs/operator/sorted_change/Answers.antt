use Rattle.std.proofs.Common.{◌≡◌, ◌∙◌, List, sym}
use Rattle.std.proofs.lemmas.Result.{IfOk-weaker}
use Rattle.tick_model.{specs.declared.update.KeyPair.KeyPair, specs.Changes.change_of}
use Rattle.tick_table.specs.Exact.{tick_of}
use Rattle.row_changes.{specs.Parts.{AreParts, Parts, tick_along}, proofs.MadeChange.parts_there}
use Rattle.sort_op.{specs.Sorter.sorted, proofs.SortedChange.{sorted_parts, stays}}
use Rattle.sort_op.proofs.operator.sorted_change.Goals as goal

pub change_of_touched-requires-clause-ready : goal.change_of_touched-requires-clause-ready
change_of_touched-requires-clause-ready g c =
    let by = c.args.order.now.by in
    let t = c.args.input.now in
    let tick = sorted by (tick_of t) in
    let parts : Parts = record { removed = c.args.before.places.crossing; added = c.args.now.crossing; shifted = c.in_ok-shifted.shifted; compared_before = c.args.before.places.compared; compared_now = c.args.now.compared } in
    let are : AreParts tick.old tick.new parts tick.kept = sorted_parts by t c.requires.exact parts c.args.before.places.staying c.args.now.staying c.requires.removed c.requires.added c.requires.staying_before c.requires.staying_now c.in_ok-shifted.ensures c.requires.compared in record {
      order_now = c.requires.order;
      keys_before = c.requires.touched_keys;
      rising_before = c.requires.exact.tick.old_table.rising;
      rising_now = c.requires.exact.tick.new_table.rising;
      others = stays by t c.requires.exact c.args.before.places.crossing c.args.before.places.compared c.args.now.compared c.args.before.touched c.in_ok-moves.moves c.requires.removed (c.in_ok-moves.ensures ∙ are.shifted) c.requires.compared c.requires.touched;
    }

pub change_of_touched-requires-clause-added : goal.change_of_touched-requires-clause-added
change_of_touched-requires-clause-added g c =
    let by = c.args.order.now.by in
    let t = c.args.input.now in
    let tick = sorted by (tick_of t) in
    let parts : Parts = record { removed = c.args.before.places.crossing; added = c.args.now.crossing; shifted = c.in_ok-shifted.shifted; compared_before = c.args.before.places.compared; compared_now = c.args.now.compared } in
    (parts_there tick.old tick.new parts tick.kept (sorted_parts by t c.requires.exact parts c.args.before.places.staying c.args.now.staying c.requires.removed c.requires.added c.requires.staying_before c.requires.staying_now c.in_ok-shifted.ensures c.requires.compared)).0

pub change_of_touched-requires-clause-before : goal.change_of_touched-requires-clause-before
change_of_touched-requires-clause-before g c =
    let by = c.args.order.now.by in
    let t = c.args.input.now in
    let tick = sorted by (tick_of t) in
    let parts : Parts = record { removed = c.args.before.places.crossing; added = c.args.now.crossing; shifted = c.in_ok-shifted.shifted; compared_before = c.args.before.places.compared; compared_now = c.args.now.compared } in
    (parts_there tick.old tick.new parts tick.kept (sorted_parts by t c.requires.exact parts c.args.before.places.staying c.args.now.staying c.requires.removed c.requires.added c.requires.staying_before c.requires.staying_now c.in_ok-shifted.ensures c.requires.compared)).1

pub change_of_touched-requires-clause-now : goal.change_of_touched-requires-clause-now
change_of_touched-requires-clause-now g c =
    let by = c.args.order.now.by in
    let t = c.args.input.now in
    let tick = sorted by (tick_of t) in
    let parts : Parts = record { removed = c.args.before.places.crossing; added = c.args.now.crossing; shifted = c.in_ok-shifted.shifted; compared_before = c.args.before.places.compared; compared_now = c.args.now.compared } in
    (parts_there tick.old tick.new parts tick.kept (sorted_parts by t c.requires.exact parts c.args.before.places.staying c.args.now.staying c.requires.removed c.requires.added c.requires.staying_before c.requires.staying_now c.in_ok-shifted.ensures c.requires.compared)).2

pub returns-clause-change : goal.returns-clause-change
returns-clause-change g c =
    let by = c.args.order.now.by in
    let t = c.args.input.now in
    let tick = sorted by (tick_of t) in
    let parts : Parts = record { removed = c.args.before.places.crossing; added = c.args.now.crossing; shifted = c.in_ok-shifted.shifted; compared_before = c.args.before.places.compared; compared_now = c.args.now.compared } in
    IfOk-weaker c.change_of_touched.result (λ change. (kept : List KeyPair) → AreParts tick.old tick.new parts kept → change ≡ change_of (tick_along tick.old tick.new kept)) (λ change. change ≡ change_of tick)
    (λ change is. is tick.kept (sorted_parts by t c.requires.exact parts c.args.before.places.staying c.args.now.staying c.requires.removed c.requires.added c.requires.staying_before c.requires.staying_now c.in_ok-shifted.ensures c.requires.compared)) c.change_of_touched.ensures.change
