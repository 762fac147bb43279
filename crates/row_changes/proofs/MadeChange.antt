-- The change that the parts of a tick make.
use Rattle.std.proofs.Common.{◌≡◌, ap, ap₂, sym, ◌∙◌, subst, true, false, not, ◌&&◌, ℕ, zero, suc, ◌+◌, ◌-◌, arith, List, ◌++◌, filter, ℤ, inl, inr, lt-ltb, le-ltb}
use Rattle.std.{specs.Prelude.nat_lt, specs.List.{list_any, range_with_len}, proofs.lemmas.Bool.cases_lt, proofs.lemmas.Grind.flat_map-append}
use Rattle.key_lists.{specs.Keys.{is_among, IsRising}, proofs.Among.{among-filter, each_among}, proofs.Every.{every_weaker, every-map, every_unmapped, every-filter, filter_in, any_in, and_swap}, proofs.Rising.{rising_same, rising_some}}
use Rattle.row_set.{specs.declared.ranges.Range.Range, proofs.Held.{range_rises, among-in, holds-true, holds_after}}
use Rattle.shift_data.specs.Moves.{pairs_of}
use Rattle.tick_model.{specs.declared.table.PlainTable.PlainTable, specs.declared.update.KeyPair.KeyPair, specs.declared.update.ShiftRange.ShiftRange, specs.Changes.{Change, change_of}, specs.Tables.{cells_at, keys}, specs.Updates.{between, differs, differs_in, new_keys, old_keys}}
use Rattle.row_changes.{specs.Parts.{Parts, AreThere, AreParts, cells_under, tick_along}, proofs.Comparing.{old_keys-pairs_of, new_keys-pairs_of, same_column}}

-- the columns of a table
among_columns : (column width : ℕ) → is_among column (range_with_len 0 width) ≡ nat_lt column width
among_columns column zero = sym (le-ltb column 0 (omega arith))
among_columns column (suc last) =
    ap (λ n. is_among column (range_with_len 0 n)) (let all : suc last ≡ last + 1 - 0 = omega arith in all)
    ∙ among-in column columns
    ∙ elim (cases_lt column (suc last)) [
      | inl less ↦ holds-true column columns (omega arith) (omega arith) ∙ sym (lt-ltb column (suc last) less)
      | inr more ↦ holds_after column columns (omega arith) ∙ sym (le-ltb column (suc last) more)
    ]
  where
    columns : Range
    columns = record { first = 0; last = last }

abbrev made : List ℕ → List ℕ → List ℕ → List ShiftRange → List ℕ → List ℤ → Change
made removed added modified shifted columns cells = record { update = record { removed = removed; added = added; modified = modified; shifted = shifted; columns = columns }; cells = cells }

same_change : (removed added modified columns : List ℕ) (shifted : List ShiftRange) (cells : List ℤ) (change : Change)
    → removed ≡ change.update.removed → added ≡ change.update.added → modified ≡ change.update.modified → shifted ≡ change.update.shifted → columns ≡ change.update.columns → cells ≡ change.cells
    → made removed added modified shifted columns cells ≡ change
same_change removed added modified columns shifted cells change r a m s o t =
    ap (λ removed. made removed added modified shifted columns cells) r
    ∙ ap (λ added. made change.update.removed added modified shifted columns cells) a
    ∙ ap (λ modified. made change.update.removed change.update.added modified shifted columns cells) m
    ∙ ap (λ shifted. made change.update.removed change.update.added change.update.modified shifted columns cells) s
    ∙ ap (λ columns. made change.update.removed change.update.added change.update.modified change.update.shifted columns cells) o
    ∙ ap (made change.update.removed change.update.added change.update.modified change.update.shifted change.update.columns) t

-- the keys that are read are there
pub parts_there : (old new : PlainTable) (parts : Parts) (kept : List KeyPair) → AreParts old new parts kept → AreThere new parts.added × AreThere old parts.compared_before × AreThere new parts.compared_now
parts_there old new parts kept h = (
  subst (AreThere new) (sym h.added) (every-filter (λ key. is_among key (keys new.rows) ≡ true) (λ key. not (is_among key (new_keys kept))) (keys new.rows) (each_among (keys new.rows))),
  subst (AreThere old) (sym (ap old_keys h.compared.compared) ∙ old_keys-pairs_of parts.compared_before parts.compared_now h.compared.even)
      (every-map (λ key. is_among key (keys old.rows) ≡ true) (λ (pair : KeyPair). pair.old) (filter (λ pair. is_among pair.new parts.compared_now) kept)
      (every-filter (λ (pair : KeyPair). is_among pair.old (keys old.rows) ≡ true) (λ pair. is_among pair.new parts.compared_now) kept
      (every_unmapped (λ key. is_among key (keys old.rows) ≡ true) (λ (pair : KeyPair). pair.old) kept h.tick.of_old))),
  subst (AreThere new) (sym (ap new_keys h.compared.compared) ∙ new_keys-pairs_of parts.compared_before parts.compared_now h.compared.even)
      (every-map (λ key. is_among key (keys new.rows) ≡ true) (λ (pair : KeyPair). pair.new) (filter (λ pair. is_among pair.new parts.compared_now) kept)
      (every-filter (λ (pair : KeyPair). is_among pair.new (keys new.rows) ≡ true) (λ pair. is_among pair.new parts.compared_now) kept
      (every_unmapped (λ key. is_among key (keys new.rows) ≡ true) (λ (pair : KeyPair). pair.new) kept h.tick.of_new))),
)

module _ (old new : PlainTable) (parts : Parts) (kept : List KeyPair) (h : AreParts old new parts kept) where
  abbrev compared : List KeyPair
  compared = pairs_of parts.compared_before parts.compared_now

  told_is : new_keys (filter (differs old new) compared) ≡ (between (tick_along old new kept)).modified
  told_is = ap new_keys (ap (filter (differs old new)) h.compared.compared ∙ filter_in (differs old new) (λ pair. is_among pair.new parts.compared_now) kept h.compared.others)

  any_is : (column : ℕ) → list_any (differs_in old new column) compared ≡ list_any (differs_in old new column) kept
  any_is column =
      ap (list_any (differs_in old new column)) h.compared.compared
      ∙ any_in (differs_in old new column) (λ pair. is_among pair.new parts.compared_now) kept
      (every_weaker (λ (pair : KeyPair). is_among pair.new parts.compared_now ≡ false → differs old new pair ≡ false) (λ pair. is_among pair.new parts.compared_now ≡ false → differs_in old new column pair ≡ false) kept
      (λ pair f e. same_column old new column pair (f e)) h.compared.others)

  columns_is : (columns : List ℕ) → IsRising columns → ((column : ℕ) → is_among column columns ≡ (nat_lt column new.width && list_any (differs_in old new column) compared)) → columns ≡ (between (tick_along old new kept)).columns
  columns_is columns r m =
      rising_same columns (filter (λ column. list_any (differs_in old new column) kept) (range_with_len 0 new.width)) r (rising_some (λ column. list_any (differs_in old new column) kept) (range_with_len 0 new.width) (range_rises 0 new.width))
      (λ column. m column
      ∙ ap₂ (λ a b. a && b) (sym (among_columns column new.width)) (any_is column)
      ∙ and_swap (is_among column (range_with_len 0 new.width)) (list_any (differs_in old new column) kept)
      ∙ sym (among-filter (λ column. list_any (differs_in old new column) kept) column (range_with_len 0 new.width)))

  pub change_is : (modified columns : List ℕ) (cells : List ℤ) → modified ≡ new_keys (filter (differs old new) compared) → IsRising columns → ((column : ℕ) → is_among column columns ≡ (nat_lt column new.width && list_any (differs_in old new column) compared))
      → cells ≡ cells_under new parts.added ++ cells_under new modified
      → let made : Change = record { update = record { removed = parts.removed; added = parts.added; modified = modified; shifted = parts.shifted; columns = columns }; cells = cells } in made ≡ change_of (tick_along old new kept)
  change_is modified columns cells m r c t =
      same_change parts.removed parts.added modified columns parts.shifted cells (change_of (tick_along old new kept)) h.removed h.added (m ∙ told_is) h.shifted (columns_is columns r c)
      (t ∙ sym (flat_map-append (λ key. cells_at key new.rows) parts.added modified)
      ∙ ap₂ (λ added modified. cells_under new (added ++ modified)) h.added (m ∙ told_is))
