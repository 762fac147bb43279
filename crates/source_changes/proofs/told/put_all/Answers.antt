use Rattle.std.proofs.Common.{◌≡◌, ◌<◌, ap, ap₂, ◌∙◌, ℕ, map, length, get_or, List, ℤ, arith}
use Rattle.std.{proofs.lemmas.List.{get_or-map, get_or_default, length-map}, proofs.lemmas.Option.slice_get-get_or}
use Rattle.tick_model.specs.declared.table.PlainRow.{PlainRow}
use Rattle.tick_table.specs.Placed.{put_row}
use Rattle.source_changes.{specs.Told.told_row, proofs.Mapped.{blank, put_more, told_put}}
use Rattle.source_changes.proofs.told.put_all.Goals as goal

pub row-requires : goal.row-requires
row-requires c = omega (arith, c.loop-place-test.true, ap length c.keys-key-items.ensures, length-map c.args.rows.now (λ (row : PlainRow). row.key))

pub loop-place-preserved : goal.loop-place-preserved
loop-place-preserved c =
    let rows = c.args.rows.now in
    let place = c.loop-place.place in
    let less : place < length rows = omega (arith, c.loop-place-test.true, ap length c.keys-key-items.ensures, length-map c.args.rows.now (λ (row : PlainRow). row.key)) in
    let row = get_or rows place blank in
    let key : get_or c.keys-key-items.result.now place 0 ≡ row.key = ap (λ keys. get_or keys place 0) c.keys-key-items.ensures ∙ get_or-map (λ (row : PlainRow). row.key) rows place blank 0 less in
    ap (map told_row) c.in_ok-insert.ensures.entries
    ∙ told_put (get_or c.keys-key-items.result.now place 0) c.row.result c.loop-place.told.entries
    ∙ ap₂ put_row (ap₂ (λ (key : ℕ) (cells : List ℤ). let made : PlainRow = record { key = key; cells = cells } in made) key (c.row.ensures row (slice_get-get_or rows place blank less))) c.loop-place.invariant
    ∙ put_more rows place row (map told_row c.args.told.now.entries) (get_or_default rows place blank row less) less
