use Rattle.std.proofs.Common.{◌≡◌, ◌∙◌, ap, subst, sym, List, ℕ}
use Rattle.std.proofs.lemmas.Result.{IfOk-weaker}
use Rattle.key_lists.specs.Keys.{is_among}
use Rattle.row_handles.specs.Entries.{Entry as Handled, keys_of}
use Rattle.row_set.specs.Sets.{IsKeySet}
use Rattle.sort_op.{specs.Entries.{Rises, keys_in}, specs.Places.AreUnder, specs.Ranks.{IsSettled, listed}, specs.Reading.coming, specs.Sorted.entries_of, proofs.StepParts.{arrived_under, brought_on, came_absent, came_there, positions_small, rows_absent, rows_are, rows_distinct, settled_now}}
use Rattle.sort_op.proofs.operator.put_in.Goals as goal

pub enter_rows-requires-clause-here : goal.enter_rows-requires-clause-here
enter_rows-requires-clause-here g c = came_there c.args.order.now.by c.args.input.now c.requires.exact c.args.order.now c.args.came.now c.requires.carried c.requires.came

pub enter_rows-requires-clause-absent : goal.enter_rows-requires-clause-absent
enter_rows-requires-clause-absent g c = came_absent c.args.order.now.by c.args.input.now c.requires.exact c.args.order.now c.args.came.now c.requires.carried c.requires.came

pub insert_rows-requires-clause-known : goal.insert_rows-requires-clause-known
insert_rows-requires-clause-known g c = c.in_ok-rows.ensures.entered.known

pub insert_rows-requires-clause-absent : goal.insert_rows-requires-clause-absent
insert_rows-requires-clause-absent g c = rows_absent c.args.order.now.by c.args.input.now c.requires.exact c.args.order.now c.args.came.now c.requires.carried c.requires.came c.enter_rows.new.self c.in_ok-rows.rows.items c.enter_rows.ensures.listed c.in_ok-rows.ensures.entered.same

pub insert_rows-requires-clause-distinct : goal.insert_rows-requires-clause-distinct
insert_rows-requires-clause-distinct g c = rows_distinct c.args.order.now.by c.args.input.now c.requires.exact c.args.order.now c.args.came.now c.requires.carried c.requires.came c.enter_rows.new.self c.in_ok-rows.rows.items c.enter_rows.ensures.listed c.in_ok-rows.ensures.entered.same

pub from_keys-requires : goal.from_keys-requires
from_keys-requires g c =
    let now = listed c.insert_rows.new.self in
    let rises = subst (λ by. Rises by now) (c.insert_rows.ensures.by ∙ c.enter_rows.ensures.by) c.in_ok-positions.ensures.rises in
    let stands = brought_on c.args.order.now.by c.args.input.now c.requires.exact c.args.order.now c.args.came.now c.requires.carried c.requires.came c.enter_rows.new.self c.in_ok-rows.rows.items c.enter_rows.ensures.listed c.in_ok-rows.ensures.entered.same c.insert_rows.new.self rises c.in_ok-positions.ensures.listed in
    let under = arrived_under c.args.order.now.by c.args.input.now c.requires.exact now _ c.in_ok-positions.positions.items stands (rows_are c.args.order.now.by c.args.input.now c.requires.exact c.args.order.now c.args.came.now c.requires.carried c.requires.came c.enter_rows.new.self c.in_ok-rows.rows.items c.enter_rows.ensures.listed c.in_ok-rows.ensures.entered.same) c.in_ok-positions.ensures.positions in
    record { small = positions_small c.args.order.now.by c.args.input.now c.requires.exact now (coming c.args.order.now.by c.args.input.now) c.in_ok-positions.positions.items stands under }

pub returns-clause-stands : goal.returns-clause-stands
returns-clause-stands g c =
    let now = listed c.insert_rows.new.self in
    let rises = subst (λ by. Rises by now) (c.insert_rows.ensures.by ∙ c.enter_rows.ensures.by) c.in_ok-positions.ensures.rises in
    let stands = brought_on c.args.order.now.by c.args.input.now c.requires.exact c.args.order.now c.args.came.now c.requires.carried c.requires.came c.enter_rows.new.self c.in_ok-rows.rows.items c.enter_rows.ensures.listed c.in_ok-rows.ensures.entered.same c.insert_rows.new.self rises c.in_ok-positions.ensures.listed in
    IfOk-weaker c.from_keys.result IsKeySet (λ _. now ≡ entries_of c.args.order.now.by c.args.input.now.new.rows) (λ set is. stands) c.from_keys.ensures.set

pub returns-clause-settled : goal.returns-clause-settled
returns-clause-settled g c =
    let now = listed c.insert_rows.new.self in
    let rises = subst (λ by. Rises by now) (c.insert_rows.ensures.by ∙ c.enter_rows.ensures.by) c.in_ok-positions.ensures.rises in
    let stands = brought_on c.args.order.now.by c.args.input.now c.requires.exact c.args.order.now c.args.came.now c.requires.carried c.requires.came c.enter_rows.new.self c.in_ok-rows.rows.items c.enter_rows.ensures.listed c.in_ok-rows.ensures.entered.same c.insert_rows.new.self rises c.in_ok-positions.ensures.listed in
    IfOk-weaker c.from_keys.result IsKeySet (λ _. IsSettled c.insert_rows.new.self)
    (λ set is.
    settled_now c.args.order.now.by c.args.input.now c.requires.exact c.args.order.now c.args.came.now c.requires.carried c.requires.came c.insert_rows.new.self stands c.requires.keys
    (λ key. ap (λ (handles : List Handled). is_among key (keys_of handles)) c.insert_rows.ensures.handles ∙ c.in_ok-rows.ensures.keys key)) c.from_keys.ensures.set

pub returns-clause-places : goal.returns-clause-places
returns-clause-places g c =
    let now = listed c.insert_rows.new.self in
    let rises = subst (λ by. Rises by now) (c.insert_rows.ensures.by ∙ c.enter_rows.ensures.by) c.in_ok-positions.ensures.rises in
    let stands = brought_on c.args.order.now.by c.args.input.now c.requires.exact c.args.order.now c.args.came.now c.requires.carried c.requires.came c.enter_rows.new.self c.in_ok-rows.rows.items c.enter_rows.ensures.listed c.in_ok-rows.ensures.entered.same c.insert_rows.new.self rises c.in_ok-positions.ensures.listed in
    let under = arrived_under c.args.order.now.by c.args.input.now c.requires.exact now _ c.in_ok-positions.positions.items stands (rows_are c.args.order.now.by c.args.input.now c.requires.exact c.args.order.now c.args.came.now c.requires.carried c.requires.came c.enter_rows.new.self c.in_ok-rows.rows.items c.enter_rows.ensures.listed c.in_ok-rows.ensures.entered.same) c.in_ok-positions.ensures.positions in
    IfOk-weaker c.from_keys.result (λ set. (key : ℕ) → is_among key set ≡ is_among key c.in_ok-positions.positions.items) (AreUnder (keys_in now) c.args.came.now)
    (λ set are position. are position ∙ subst (λ (some : List ℕ). AreUnder (keys_in now) some c.in_ok-positions.positions.items) (sym c.requires.came) under position) c.from_keys.ensures.keys
