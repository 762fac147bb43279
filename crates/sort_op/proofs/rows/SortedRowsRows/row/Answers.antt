use Rattle.std.proofs.Common.{◌≡◌, ◌∙◌, ◌++◌, ap, arith, subst, sym, List, ℤ}
use Rattle.std.specs.Prelude.{OnOk}
use Rattle.key_lists.specs.Keys.{is_among}
use Rattle.tick_model.specs.Tables.{cells_at, keys}
use Rattle.sort_op.{specs.Sorted.entries_of, proofs.PlacedCells.{place_found, place_within}, proofs.PlacesFound.key_found}
use Rattle.sort_op.proofs.rows.SortedRowsRows.row.Goals as goal

pub index-old_key-requires : goal.index-old_key-requires
index-old_key-requires g c =
    let rows = c.args.self.now in
    let found = key_found (entries_of rows.order.now.by rows.input.now.old.rows) rows.touched rows.touched_keys.items c.in-Ok.place c.args.key 0 c.find.ensures.keys.rising (sym c.in-Ok.is ∙ c.find.ensures.position) c.requires.ready.keys_before in
    omega (arith, found.0, rows.touched_keys.ok.0)

pub row-requires : goal.row-requires
row-requires g c =
    let rows = c.args.self.now in
    let by = rows.order.now.by in
    let old = rows.input.now.old in
    let kept = key_found (entries_of by old.rows) rows.touched rows.touched_keys.items c.in-Ok.place c.args.key c.index-old_key.result.now c.find.ensures.keys.rising (sym c.in-Ok.is ∙ c.find.ensures.position) c.requires.ready.keys_before in
    let found = place_found by old c.args.key c.requires.ready.rising_before (place_within by old c.args.key (rw c.in-Before.is at c.requires.here)) in
    record { here = ap (λ key. is_among key (keys old.rows)) (c.index-old_key.ensures ∙ kept.1) ∙ found.1 }

pub returns-in-Ok-clause-cells : goal.returns-in-Ok-clause-cells
returns-in-Ok-clause-cells g c =
    let rows = c.args.self.now in
    let by = rows.order.now.by in
    let old = rows.input.now.old in
    let kept = key_found (entries_of by old.rows) rows.touched rows.touched_keys.items c.in-Ok.place c.args.key c.index-old_key.result.now c.find.ensures.keys.rising (sym c.in-Ok.is ∙ c.find.ensures.position) c.requires.ready.keys_before in
    let found = place_found by old c.args.key c.requires.ready.rising_before (place_within by old c.args.key (rw c.in-Before.is at c.requires.here)) in
    rw c.in-Before.is (subst (λ (cells : List ℤ). OnOk c.row.result (c.row.new.cells.items ≡ c.args.cells.now.items ++ cells)) (ap (λ key. cells_at key old.rows) (c.index-old_key.ensures ∙ kept.1) ∙ sym found.0) c.row.ensures.cells)

pub row_now-requires-in-Now : goal.row_now-requires-in-Now
row_now-requires-in-Now g c = record { here = rw c.in-Now.is at c.requires.here; rising = c.requires.ready.rising_now; order = c.requires.ready.order_now }
