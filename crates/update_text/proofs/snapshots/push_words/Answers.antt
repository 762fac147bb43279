use Rattle.std.proofs.Common.{ap, sym, ◌∙◌, ◌++◌, ◌+◌, map, length, drop, append_assoc}
use Rattle.std.{specs.Prelude.{flat_map, min}, specs.Int.{w64, cast_signed}, proofs.lemmas.List.{append-nil, length-map, length_push}, proofs.lemmas.Slice.Zip.{zip_end, zip_turn}}
use Rattle.tick_model.specs.Texts.{comma_before, cell_texts}
use Rattle.update_text.proofs.CellRows.{cell_texts-end, cell_texts-more_words}
use Rattle.update_text.proofs.snapshots.push_words.Goals as goal

pub returns : goal.returns
returns c =
    let columns = c.args.columns.now in
    let words = c.args.words.now in
    let ended = zip_end columns words c.loop-column.yielded c.into_iter-column-iterator.result c.loop-column.column-iterator c.next.new.self c.next.result (cc) (cc) c.loop-column.yielded_by c.in-None.is c.next.ensures.steps in
    sym (append-nil c.loop-column.text.items)
    ∙ ap (λ more. c.loop-column.text.items ++ flat_map comma_before more) (sym (cell_texts-end c.args.texts.now columns (map (cast_signed w64) words) _ (ended ∙ ap (min (length columns)) (sym (length-map words (cast_signed w64))))))
    ∙ c.loop-column.invariant

pub loop-column-preserved : goal.loop-column-preserved
loop-column-preserved c =
    let columns = c.args.columns.now in
    let words = c.args.words.now in
    let turn = zip_turn columns words c.loop-column.yielded c.into_iter-column-iterator.result c.loop-column.column-iterator c.next.new.self c.next.result (cc) (cc) c.loop-column.yielded_by _ c.in-Some.is c.next.ensures.steps in
    let next = cell_texts-more_words c.args.texts.now columns words (length c.loop-column.yielded) _ _ turn in
    let cells = map (cast_signed w64) words in
    let k = length c.loop-column.yielded in
    let rest = flat_map comma_before (cell_texts c.args.texts.now (drop (k + 1) columns) (drop (k + 1) cells)) in
    ap (λ n. c.push_next_word.new.text.items ++ flat_map comma_before (cell_texts c.args.texts.now (drop n columns) (drop n cells))) (length_push c.loop-column.yielded _)
    ∙ ap (λ text. text ++ rest) c.in_ok-push_next_word.ensures
    ∙ append_assoc c.loop-column.text.items _ rest
    ∙ ap (λ more. c.loop-column.text.items ++ flat_map comma_before more) (sym next)
    ∙ c.loop-column.invariant
