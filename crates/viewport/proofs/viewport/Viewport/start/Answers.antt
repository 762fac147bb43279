use Rattle.std.proofs.Common.{◌≡◌, ap, ap₂, sym, ◌∙◌, subst, length, []}
use Rattle.std.specs.Prelude.{IfOk}
use Rattle.table_update.specs.Coalesced.{key_pairs}
use Rattle.tick_model.{specs.Changes.change_of, specs.Sources.opened, specs.Tables.keys, specs.Updates.{Tick, Update}}
use Rattle.tick_table.specs.Ticking.{Ticking, fresh}
use Rattle.viewport.{specs.Slices.cut, specs.Standing.IsStanding, specs.Watching.{Watching, message_tick}, proofs.Messages.empty_stands}
use Rattle.viewport.proofs.viewport.Viewport.start.Goals as goal

pub invariant_of-viewport : goal.invariant_of-viewport
invariant_of-viewport g c =
    let slice = c.args.slice in
    let table = c.args.table.now.new in
    let last_is : c.in_ok-last.last ≡ fresh (length c.args.slice.columns) = c.in_ok-last.ensures ∙ ap fresh c.width_of.ensures.width in
    subst (λ (made : Ticking). IsStanding slice made.new c.of.result.value.new c.none.result) (sym last_is)
    (subst (λ (seen : Ticking). IsStanding slice (fresh (length c.args.slice.columns)).new seen.new c.none.result) (sym c.of.ensures)
    (subst (λ update. IsStanding slice (fresh (length c.args.slice.columns)).new table update) (sym c.none.ensures) (empty_stands slice table c.requires c.rows-rows.ensures.table)))

pub message-requires : goal.message-requires
message-requires g c = ap (λ (seen : Ticking). seen.new) c.of.ensures

pub returns-clause-message : goal.returns-clause-message
returns-clause-message g c =
    let slice = c.args.slice in
    let table = c.args.table.now.new in
    let last_is : c.in_ok-last.last ≡ fresh (length c.args.slice.columns) = c.in_ok-last.ensures ∙ ap fresh c.width_of.ensures.width in
    let same : message_tick (record { slice = slice; last = c.in_ok-last.last.new; table = c.of.result.value.new; kept = key_pairs (keys c.in_ok-last.last.new.rows) c.none.result }) ≡ opened (cut c.args.slice c.args.table.now.new) =
    ap (λ (made : Ticking). let watching : Watching = record { slice = slice; last = made.new; table = c.of.result.value.new; kept = key_pairs (keys made.new.rows) c.none.result } in message_tick watching) last_is
    ∙ ap₂ (λ (seen : Ticking) (update : Update). let watching : Watching = record { slice = slice; last = (fresh (length c.args.slice.columns)).new; table = seen.new; kept = key_pairs [] update } in message_tick watching) c.of.ensures c.none.ensures in
    subst (λ (tick : Tick). IfOk c.message.result (λ out. out.1 ≡ change_of tick)) same c.message.ensures.change
