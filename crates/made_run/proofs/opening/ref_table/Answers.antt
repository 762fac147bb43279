use Rattle.std.proofs.Common.{◌≡◌, List, [], ◌∷◌, ◌++◌, length, refl, ap, sym, ◌∙◌, subst, arith}
use Rattle.std.{specs.List.{AllByRecursion, range_with_len}, proofs.lemmas.List.FromFn.map-range_with_len_more}
use Rattle.key_lists.proofs.Every.{every, every-map}
use Rattle.tick_model.specs.declared.table.PlainRow.{PlainRow}
use Rattle.made_run.specs.Tables.{ref_row}
use Rattle.made_run.proofs.opening.ref_table.Goals as goal

pub put_ref_row-requires : goal.put_ref_row-requires
put_ref_row-requires c =
    subst (AllByRecursion (λ (row : PlainRow). length row.cells ≡ 3)) (sym c.loop-symbol.invariant)
    (every-map (λ (row : PlainRow). length row.cells ≡ 3) ref_row (range_with_len 0 c.loop-symbol.symbol) (every (λ symbol. length (ref_row symbol).cells ≡ 3) (range_with_len 0 c.loop-symbol.symbol) (λ symbol. refl)))

pub loop-symbol-preserved : goal.loop-symbol-preserved
loop-symbol-preserved c =
    let symbol = c.loop-symbol.symbol in
    c.in_ok-put_ref_row.ensures
    ∙ ap (λ (rows : List PlainRow). rows ++ ref_row symbol ∷ []) c.loop-symbol.invariant
    ∙ sym (map-range_with_len_more ref_row 0 symbol symbol (omega arith))
