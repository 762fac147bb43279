-- What is taken of right rows that a step does not touch stays the same.
use Rattle.std.proofs.Common.{◌≡◌, refl, ap, sym, ◌∙◌, subst, Bool, true, false, not, cond, ℕ, ◌⊎◌, inl, inr, List, [], ◌∷◌, map, filter, Option, Some, ℤ, true≢false}
use Rattle.std.{specs.Prelude.{option_map, unwrap_or}, specs.Cmp.Rules.signed_items, specs.List.AllByRecursion, proofs.lemmas.Bool.not-false}
use Rattle.key_lists.{specs.Keys.{is_among, without}, proofs.Among.of_among, proofs.Every.{every, every_both, every_weaker, every-filter, filter-map, filter_in, filter_passes, filter_same, map_map, map_own, map_same}, proofs.Rising.as_filter}
use Rattle.shown_rows.proofs.Restricted.{is_modified, kept, modified_by}
use Rattle.tick_model.{specs.declared.table.PlainRow.PlainRow, specs.declared.table.PlainTable.PlainTable, specs.declared.update.KeyPair.KeyPair, specs.Tables.{IsTable, cells_at, keys, row_at}, specs.Updates.{Update, differs, kept_pair, new_keys, old_keys}, proofs.Among.each_found}
use Rattle.tick_table.{specs.Exact.IsExact, specs.Ticking.Ticking}

-- what holds of the elements that pass a test holds of each that passes it
pub every_unfiltered : {X : Type 0} (P : X → Type 0) (p : X → Bool) (xs : List X) → AllByRecursion P (filter p xs) → AllByRecursion (λ x. p x ≡ true → P x) xs
every_unfiltered P p [] h = tt
every_unfiltered {X = X} P p (x ∷ xs) h = (own (p x) refl h, every_unfiltered P p xs (others (p x) h))
  where
    own : (b : Bool) → p x ≡ b → AllByRecursion P (cond b (x ∷ filter p xs) (filter p xs)) → p x ≡ true → P x
    own true e k passes = k.0
    own false e k passes = absurd (true≢false (sym passes ∙ e))

    others : (b : Bool) → AllByRecursion P (cond b (x ∷ filter p xs) (filter p xs)) → AllByRecursion P (filter p xs)
    others true k = k.1
    others false k = k

-- the cells of a table's rows, by their keys
pub cells_listed : (table : PlainTable) → IsTable table → map (λ (row : PlainRow). row.cells) table.rows ≡ map (λ key. cells_at key table.rows) (keys table.rows)
cells_listed table t =
    map_same (λ (row : PlainRow). row.cells) (λ (row : PlainRow). cells_at row.key table.rows) table.rows
    (every_weaker (λ row. row_at row.key table.rows ≡ Some row) (λ (row : PlainRow). row.cells ≡ cells_at row.key table.rows) table.rows
    (λ row found. ap (λ (o : Option PlainRow). unwrap_or (option_map (λ (row : PlainRow). row.cells) o) []) (sym found)) (each_found table.rows t.rising))
    ∙ sym (map_map (λ key. cells_at key table.rows) (λ (row : PlainRow). row.key) table.rows)

module _ (t : Ticking) (e : IsExact t) (test : List ℤ → Bool) where
  abbrev before : ℕ → List ℤ
  before key = cells_at key t.old.rows

  abbrev now : ℕ → List ℤ
  now key = cells_at key t.new.rows

  abbrev pub FailsBoth : KeyPair → Type 0
  FailsBoth pair = (test (cells_at pair.old t.old.rows) ≡ false) × (test (cells_at pair.new t.new.rows) ≡ false)

  pub staying_keys : old_keys (kept t e) ≡ without t.update.removed (keys t.old.rows)
  staying_keys = map_map (λ (pair : KeyPair). pair.old) (kept_pair t.update) (without t.update.removed (keys t.old.rows)) ∙ map_own (λ key. key) (without t.update.removed (keys t.old.rows)) (every (λ key. key ≡ key) (without t.update.removed (keys t.old.rows)) (λ key. refl))

  module _ (gone : AllByRecursion (λ key. test (cells_at key t.old.rows) ≡ false) t.update.removed) (came : AllByRecursion (λ key. test (cells_at key t.new.rows) ≡ false) t.update.added) (changed : AllByRecursion FailsBoth (filter (is_modified t e) (kept t e))) where
    of_old : filter test (map (λ (row : PlainRow). row.cells) t.old.rows) ≡ map (λ (pair : KeyPair). before pair.old) (filter (λ (pair : KeyPair). test (before pair.old)) (kept t e))
    of_old =
        ap (filter test) (cells_listed t.old e.tick.old_table)
        ∙ filter-map test before (keys t.old.rows)
        ∙ ap (map before)
        (sym (filter_in (λ key. test (before key)) (λ key. not (is_among key t.update.removed)) (keys t.old.rows)
        (every (λ key. not (is_among key t.update.removed) ≡ false → test (before key) ≡ false) (keys t.old.rows) (λ key removed. of_among (λ key. test (before key) ≡ false) key t.update.removed gone (not-false _ removed))))
        ∙ ap (filter (λ key. test (before key))) (sym staying_keys)
        ∙ filter-map (λ key. test (before key)) (λ (pair : KeyPair). pair.old) (kept t e))
        ∙ map_map before (λ (pair : KeyPair). pair.old) (filter (λ (pair : KeyPair). test (before pair.old)) (kept t e))

    absent : AllByRecursion (λ key. is_among key (new_keys (kept t e)) ≡ false → test (now key) ≡ false) (keys t.new.rows)
    absent =
        every_weaker (λ key. not (is_among key (new_keys (kept t e))) ≡ true → test (now key) ≡ false) (λ key. is_among key (new_keys (kept t e)) ≡ false → test (now key) ≡ false) (keys t.new.rows)
        (λ key f e. f (ap not e))
        (every_unfiltered (λ key. test (now key) ≡ false) (λ key. not (is_among key (new_keys (kept t e)))) (keys t.new.rows)
        (subst (AllByRecursion (λ key. test (now key) ≡ false)) (ap (λ (update : Update). update.added) e.update) came))

    of_new : filter test (map (λ (row : PlainRow). row.cells) t.new.rows) ≡ map (λ (pair : KeyPair). now pair.new) (filter (λ (pair : KeyPair). test (now pair.new)) (kept t e))
    of_new =
        ap (filter test) (cells_listed t.new e.tick.new_table)
        ∙ filter-map test now (keys t.new.rows)
        ∙ ap (map now)
        (sym (filter_in (λ key. test (now key)) (λ key. is_among key (new_keys (kept t e))) (keys t.new.rows) absent)
        ∙ ap (filter (λ key. test (now key))) (as_filter (new_keys (kept t e)) (keys t.new.rows) e.tick.rising_new e.tick.new_table.rising e.tick.of_new)
        ∙ filter-map (λ key. test (now key)) (λ (pair : KeyPair). pair.new) (kept t e))
        ∙ map_map now (λ (pair : KeyPair). pair.new) (filter (λ (pair : KeyPair). test (now pair.new)) (kept t e))

    abbrev Quiet : KeyPair → Type 0
    Quiet pair = FailsBoth pair ⊎ (before pair.old ≡ now pair.new)

    quiet : AllByRecursion Quiet (kept t e)
    quiet =
        every_both (λ pair. is_modified t e pair ≡ true → FailsBoth pair) (λ pair. is_modified t e pair ≡ differs t.old t.new pair) Quiet (kept t e)
        (λ pair fails by. either pair (is_modified t e pair) refl fails by)
        (every_unfiltered FailsBoth (is_modified t e) (kept t e) changed) (modified_by t e)
      where
        either : (pair : KeyPair) (b : Bool) → is_modified t e pair ≡ b → (is_modified t e pair ≡ true → FailsBoth pair) → is_modified t e pair ≡ differs t.old t.new pair → Quiet pair
        either pair true is fails by = inl (fails is)
        either pair false is fails by = inr ((signed_items (before pair.old) (now pair.new)).0 (not-false _ (sym by ∙ is)))

    same_test : (pair : KeyPair) → Quiet pair → test (before pair.old) ≡ test (now pair.new)
    same_test pair q = elim q [ inl f ↦ f.0 ∙ sym f.1 | inr s ↦ ap test s ]

    same_there : (pair : KeyPair) → test (before pair.old) ≡ true → Quiet pair → before pair.old ≡ now pair.new
    same_there pair passes q = elim q [ inl f ↦ absurd (true≢false (sym passes ∙ f.0)) | inr s ↦ s ]

    pub cells_stay : filter test (map (λ (row : PlainRow). row.cells) t.old.rows) ≡ filter test (map (λ (row : PlainRow). row.cells) t.new.rows)
    cells_stay =
        of_old
        ∙ map_same (λ (pair : KeyPair). before pair.old) (λ (pair : KeyPair). now pair.new) (filter (λ (pair : KeyPair). test (before pair.old)) (kept t e))
        (every_both (λ (pair : KeyPair). test (before pair.old) ≡ true) Quiet (λ (pair : KeyPair). before pair.old ≡ now pair.new) (filter (λ (pair : KeyPair). test (before pair.old)) (kept t e))
        same_there (filter_passes (λ (pair : KeyPair). test (before pair.old)) (kept t e)) (every-filter Quiet (λ (pair : KeyPair). test (before pair.old)) (kept t e) quiet))
        ∙ ap (map (λ (pair : KeyPair). now pair.new)) (filter_same (λ (pair : KeyPair). test (before pair.old)) (λ (pair : KeyPair). test (now pair.new)) (kept t e) (every_weaker Quiet (λ (pair : KeyPair). test (before pair.old) ≡ test (now pair.new)) (kept t e) same_test quiet))
        ∙ sym of_new
