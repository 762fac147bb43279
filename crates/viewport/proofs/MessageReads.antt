-- How many rows a message reads.
use Rattle.std.proofs.Common.{refl, ap, not, ℕ, ◌+◌, ◌*◌, ◌≤◌, arith, List, length}
use Rattle.std.{proofs.Math.Nat.mul-le-mul_left, proofs.lemmas.List.length-map, proofs.lemmas.List.Filters.length-filter_both}
use Rattle.key_lists.{specs.Keys.is_among, proofs.Rising.as_filter}
use Rattle.row_changes.{specs.Parts.{AreParts, Parts}, proofs.Comparing.length-pairs_of}
use Rattle.tick_laws.proofs.ResultCells.{length-filter_most}
use Rattle.tick_model.{specs.declared.table.PlainRow.PlainRow, specs.declared.table.PlainTable.PlainTable, specs.declared.update.KeyPair.KeyPair, specs.Tables.keys, specs.Updates.new_keys}

module _ (old new : PlainTable) (parts : Parts) (kept : List KeyPair) (h : AreParts old new parts kept) where
  abbrev staying : List ℕ
  staying = new_keys kept

  abbrev now : List ℕ
  now = keys new.rows

  -- each row of now stays or comes
  each_once : length parts.compared_now + length parts.added ≤ length new.rows
  each_once =
      omega (
        arith,
        ap length h.added,
        length-filter_both (λ key. is_among key staying) (λ key. not (is_among key staying)) (λ key. refl) now,
        ap length (as_filter staying now h.tick.rising_new h.tick.new_table.rising h.tick.of_new),
        length-map kept (λ (pair : KeyPair). pair.new),
        length-map new.rows (λ (row : PlainRow). row.key),
        length-pairs_of parts.compared_before parts.compared_now h.compared.even,
        ap length h.compared.compared,
        length-filter_most (λ (pair : KeyPair). is_among pair.new parts.compared_now) kept,
      )

  pub few_reads : (width before after : ℕ) → after ≤ before + width * (2 * length parts.compared_now + length parts.added) → after ≤ before + width * (2 * length new.rows)
  few_reads width before after most = let few : 2 * length parts.compared_now + length parts.added ≤ 2 * length new.rows = omega (arith, each_once) in omega (arith, most, mul-le-mul_left width few)
