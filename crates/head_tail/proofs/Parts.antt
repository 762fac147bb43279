-- The rows at an end of a table are a part of it.
use Rattle.std.proofs.Common.{◌≡◌, ap, ap₂, sym, ◌∙◌, true, false, not, ◌&&◌, ℕ, ◌-◌, List, ◌++◌, filter, take, drop, length}
use Rattle.std.{proofs.lemmas.Bool.and_parts, proofs.lemmas.List.{append-nil, take-append-drop}, proofs.lemmas.List.Elements.filter-append}
use Rattle.key_lists.{specs.Keys.{is_among, IsRising}, proofs.Booleans.and_false, proofs.Every.{every_weaker, filter_all, filter_none, filter_same}}
use Rattle.tick_model.{specs.declared.table.PlainRow.PlainRow, specs.declared.table.PlainTable.PlainTable, specs.Tables.{IsTable, keys}, proofs.Among.rows_among}
use Rattle.shown_rows.specs.Shown.{IsPart}
use Rattle.head_tail.{specs.declared.end.End.End, specs.declared.end.End.TheVariants.{First, Last}, specs.Ends.end_table, proofs.Cuts.{keys_rest, not_true}}

module _ (n : ℕ) (rows : List PlainRow) (rising : IsRising (keys rows)) where
  front_part : take n rows ≡ filter (λ row. is_among row.key (keys (take n rows))) rows
  front_part =
      sym (ap (filter (λ row. is_among row.key (keys (take n rows)))) (sym (take-append-drop n rows))
      ∙ filter-append (λ row. is_among row.key (keys (take n rows))) (take n rows) (drop n rows)
      ∙ ap₂ (λ (xs ys : List PlainRow). xs ++ ys)
      (filter_same (λ row. is_among row.key (keys (take n rows))) (λ _. true) (take n rows) (rows_among (take n rows)) ∙ filter_all (take n rows))
      (filter_none (λ row. is_among row.key (keys (take n rows))) (drop n rows)
      (every_weaker (λ row. is_among row.key (keys (drop n rows)) ≡ true) (λ row. is_among row.key (keys (take n rows)) ≡ false) (drop n rows)
      (λ row own. not_true (is_among row.key (keys (take n rows))) (and_parts (is_among row.key (keys rows)) (not (is_among row.key (keys (take n rows)))) (sym (keys_rest (λ (row : PlainRow). row.key) row.key n rows rising) ∙ own)).1)
      (rows_among (drop n rows))))
      ∙ append-nil (take n rows))

  back_part : drop n rows ≡ filter (λ row. is_among row.key (keys (drop n rows))) rows
  back_part =
      sym (ap (filter (λ row. is_among row.key (keys (drop n rows)))) (sym (take-append-drop n rows))
      ∙ filter-append (λ row. is_among row.key (keys (drop n rows))) (take n rows) (drop n rows)
      ∙ ap₂ (λ (xs ys : List PlainRow). xs ++ ys)
      (filter_none (λ row. is_among row.key (keys (drop n rows))) (take n rows)
      (every_weaker (λ row. is_among row.key (keys (take n rows)) ≡ true) (λ row. is_among row.key (keys (drop n rows)) ≡ false) (take n rows)
      (λ row own. keys_rest (λ (row : PlainRow). row.key) row.key n rows rising ∙ ap (λ b. is_among row.key (keys rows) && not b) own ∙ and_false (is_among row.key (keys rows)))
      (rows_among (take n rows))))
      (filter_same (λ row. is_among row.key (keys (drop n rows))) (λ _. true) (drop n rows) (rows_among (drop n rows)) ∙ filter_all (drop n rows)))

pub end_part : (end : End) (count : ℕ) (table : PlainTable) → IsTable table → IsPart (end_table end count table) table
end_part First count table t = ap (λ rows. let some : PlainTable = record table { rows = rows } in some) (front_part count table.rows t.rising)
end_part Last count table t = ap (λ rows. let some : PlainTable = record table { rows = rows } in some) (back_part (length table.rows - count) table.rows t.rising)
