use Rattle.std.proofs.Common.{◌≡◌, ◌+◌, ◌*◌, ◌<◌, ◌++◌, List, ℤ, take, drop, map, length, sym, ap, ◌∙◌, subst, arith}
use Rattle.std.{specs.Prelude.flat_map, specs.List.{AllByRecursion, zip}, proofs.lemmas.Bool.eqb-true, proofs.lemmas.List.take_at}
use Rattle.tick_model.{specs.declared.table.PlainRow.PlainRow, specs.Changes.rows_under}
use Rattle.feed_reader.{specs.Coding.{coded_cell, coded_rows}, specs.Raw.{raw_cells, raw_row, IsNumber, IsNumberedRow}, proofs.CodingLemmas.{row_coded, coded_from, rows_left, row_room, row_whole, row_numbers, left_numbered, row_step, rows_done, rows_own}, proofs.coding.coded_rows.Goals.{then-not-is_empty+else-loop-place-test, else-not-is_empty}}
use Rattle.feed_reader.proofs.coding.coded_rows.Goals as goal

pub code_row-requires-clause-within : goal.code_row-requires-clause-within
code_row-requires-clause-within c =
    let width = c.into_parts-width.result.0 in
    let keys = c.into_parts-width.result.1.items in
    let kinds = c.args.kinds.now in
    let before = c.loop-place.invariant in
    let within : c.loop-place.place < length c.into_parts-width.result.1.items = omega (arith, c.loop-place-test.true, c.len-place-end.ensures ∙ c.into_parts-width.result.1.ok.0) in
    let wide = row_whole kinds (length c.args.ranks.now) width keys c.loop-place.place c.loop-place.cells.items within before.whole before.numbered in
    omega (arith, wide, before.whole, ap length c.as_mut_slice.ensures.value, row_room width c.loop-place.place (length keys) within)

pub code_row-requires-clause-numbers : goal.code_row-requires-clause-numbers
code_row-requires-clause-numbers c =
    let width = c.into_parts-width.result.0 in
    let kinds = c.args.kinds.now in
    let before = c.loop-place.invariant in
    let within : c.loop-place.place < length c.into_parts-width.result.1.items = omega (arith, c.loop-place-test.true, c.len-place-end.ensures ∙ c.into_parts-width.result.1.ok.0) in
    subst (λ (all : List ℤ). AllByRecursion (IsNumber (length c.args.ranks.now)) (zip kinds (drop (width * c.loop-place.place) all))) (sym c.as_mut_slice.ensures.value)
    (row_numbers kinds (length c.args.ranks.now) width c.into_parts-width.result.1.items c.loop-place.place c.loop-place.cells.items within before.whole before.numbered)

pub loop-place-preserved : goal.loop-place-preserved
loop-place-preserved c =
    let width = c.into_parts-width.result.0 in
    let keys = c.into_parts-width.result.1.items in
    let kinds = c.args.kinds.now in
    let ranks = length c.args.ranks.now in
    let place = c.loop-place.place in
    let cells = c.loop-place.cells.items in
    let new = c.code_row.new.cells in
    let before = c.loop-place.invariant in
    let within : c.loop-place.place < length c.into_parts-width.result.1.items = omega (arith, c.loop-place-test.true, c.len-place-end.ensures ∙ c.into_parts-width.result.1.ok.0) in
    let value = c.as_mut_slice.ensures.value in
    let wide = row_whole kinds ranks width keys place cells within before.whole before.numbered in
    let same : length new ≡ length cells = c.code_row.ensures.len ∙ ap length value in
    let left : drop (width * place + length kinds) new ≡ drop (width * place + length kinds) cells = c.code_row.ensures.left ∙ ap (drop (width * place + length kinds)) value in
    let back : take c.loop-place.cells.len (new ++ drop (length new) cells) ≡ new = take_at new (drop (length new) cells) c.loop-place.cells.len (omega (arith, same, c.loop-place.cells.ok.0)) in
    record {
      whole = ap length back ∙ same ∙ before.whole;
      numbered = subst (λ (all : List ℤ). AllByRecursion (IsNumberedRow kinds ranks) (rows_left width keys (place + 1) all)) (sym back) (left_numbered kinds ranks width keys place cells new within wide left before.numbered);
      coded = λ texts own is.
          ap (coded_from texts own kinds width keys (place + 1)) back
          ∙ row_step kinds ranks width keys texts own place cells new within wide left
          (c.code_row.ensures.coded texts own is ∙ ap (λ (all : List ℤ). take (width * place) all ++ map (coded_cell texts) (raw_cells own kinds (drop (width * place) all))) value)
          ∙ before.coded texts own is;
    }

pub returns : goal.returns
returns c =
    let width = c.into_parts-width.result.0 in
    let keys = c.into_parts-width.result.1.items in
    let old = c.into_parts-width.result.2.items in
    let kinds = c.args.kinds.now in
    let rows = c.into_parts-width.ensures.rows in
    elim c.if-not-is_empty.branch [
      | then-not-is_empty+else-loop-place-test w ↦ λ texts own is.
          let numbered = subst (AllByRecursion (IsNumberedRow kinds (length c.args.ranks.now))) (sym rows) c.requires in
          c.of.ensures
          ∙ ap (λ cells. rows_under width keys cells.items) w.cells-is
          ∙ rows_done kinds (length c.args.ranks.now) width keys texts own w.loop-place.place old w.loop-place.cells.items (omega (arith, w.loop-place-test.false, w.loop-place.auto.place-end, w.len-place-end.ensures ∙ c.into_parts-width.result.1.ok.0)) c.into_parts-width.ensures.whole w.loop-place.invariant.whole numbered
          (w.loop-place.invariant.coded texts own is ∙ ap (flat_map (row_coded texts own kinds)) (sym rows))
          ∙ ap (λ (all : List PlainRow). coded_rows texts (map (raw_row own kinds) all)) rows
      | else-not-is_empty w ↦ λ texts own is.
          c.of.ensures ∙ ap (λ cells. rows_under width keys cells.items) w.cells-is ∙ rows ∙ sym (rows_own texts own kinds c.args.rows (subst (λ n. AllByRecursion (IsNumberedRow kinds n) c.args.rows) (eqb-true (length c.args.ranks.now) 0 (sym c.is_empty.ensures ∙ w.if-not-is_empty.false)) c.requires))
    ]
