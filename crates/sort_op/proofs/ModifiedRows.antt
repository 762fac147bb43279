-- The modified rows whose sort cells change, and those whose do not.
use Rattle.std.proofs.Common.{◌≡◌, refl, ap, ap₂, sym, ◌∙◌, Bool, true, ◌&&◌, List, [], ◌∷◌, length, ℤ}
use Rattle.std.{specs.List.AllByRecursion, specs.Ordering.int_eq, proofs.lemmas.List.length-map}
use Rattle.key_lists.{specs.Keys.is_among, proofs.Every.{every_unmapped, every-filter}}
use Rattle.shown_rows.proofs.Restricted.{modified_new}
use Rattle.tick_model.{specs.declared.plan.SortBy.SortBy, specs.declared.update.KeyPair.KeyPair, specs.Sort.same_place, specs.Tables.{cell, cells_at, keys, same_cells}}
use Rattle.tick_table.{specs.Exact.{IsExact, tick_of}, specs.Ticking.Ticking}
use Rattle.sort_op.{specs.declared.entry.Entry.Entry, specs.Entries.is_in, specs.Reading.{entry_under, modified_pairs, sort_cells_alike}, specs.Sorted.{entries_of, sort_cells}, proofs.Comparing.is_same_own, proofs.Members.in_rows}

same_alike : (by : List SortBy) (xs ys : List ℤ) → same_cells (sort_cells by xs) (sort_cells by ys) ≡ sort_cells_alike by xs ys
same_alike [] xs ys = refl
same_alike (sort ∷ by) xs ys = ap (λ b. int_eq (cell xs sort.column) (cell ys sort.column) && b) (same_alike by xs ys)

module _ (t : Ticking) (e : IsExact t) where
  abbrev is_modified : KeyPair → Bool
  is_modified pair = is_among pair.new t.update.modified

  pub old_there : AllByRecursion (λ (pair : KeyPair). is_among pair.old (keys t.old.rows) ≡ true) (modified_pairs t)
  old_there = every-filter (λ (pair : KeyPair). is_among pair.old (keys t.old.rows) ≡ true) is_modified (tick_of t).kept (every_unmapped (λ key. is_among key (keys t.old.rows) ≡ true) (λ (pair : KeyPair). pair.old) (tick_of t).kept e.tick.of_old)

  pub new_there : AllByRecursion (λ (pair : KeyPair). is_among pair.new (keys t.new.rows) ≡ true) (modified_pairs t)
  new_there = every-filter (λ (pair : KeyPair). is_among pair.new (keys t.new.rows) ≡ true) is_modified (tick_of t).kept (every_unmapped (λ key. is_among key (keys t.new.rows) ≡ true) (λ (pair : KeyPair). pair.new) (tick_of t).kept e.tick.of_new)

  pub modified_count : length (modified_pairs t) ≡ length t.update.modified
  modified_count = sym (ap length (modified_new t e) ∙ length-map (modified_pairs t) (λ (pair : KeyPair). pair.new))

  -- what the order says of a row, from the cells that it has now
  pub stays_by : (by : List SortBy) (order : List Entry) (pair : KeyPair) (row : List ℤ) (answer : Bool) → order ≡ entries_of by t.old.rows → is_among pair.old (keys t.old.rows) ≡ true → row ≡ cells_at pair.new t.new.rows
      → ((entry : Entry) → is_in entry order ≡ true → entry.key ≡ pair.old → answer ≡ same_cells entry.cells (sort_cells by row)) → answer ≡ same_place by (tick_of t) pair
  stays_by by order pair row answer stands here is says =
      let entry : Entry = entry_under by t.old pair.old in
      says entry (ap (is_in entry) stands ∙ in_rows by t.old e.tick.old_table.rising entry ∙ ap₂ (λ a b. a && b) here (is_same_own entry)) refl
      ∙ ap (λ (cells : List ℤ). same_cells (sort_cells by (cells_at pair.old t.old.rows)) (sort_cells by cells)) is
      ∙ same_alike by (cells_at pair.old t.old.rows) (cells_at pair.new t.new.rows)
