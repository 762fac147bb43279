-- The update of a tick that keeps nothing, and of one that changes nothing.
use Rattle.std.proofs.Common.{◌≡◌, refl, ap, ◌∙◌, true, false, cond, not, ◌||◌, ℕ, arith, List, [], ◌∷◌, map, pos, ◌-ℤ◌}
use Rattle.std.{specs.Prelude.filter, specs.List.{AllByRecursion, list_any, range_with_len}, specs.Ordering.int_eq, specs.Cmp.signed_Decides, specs.Cmp.Rules.signed_items, proofs.lemmas.Int.ints, proofs.lemmas.List.map-id}
use Rattle.tick_model.{specs.declared.table.PlainTable.PlainTable, specs.declared.update.KeyPair.KeyPair, specs.declared.update.ShiftRange.ShiftRange, specs.Tables.{keys, cell, cells_at}, specs.Shifts.{delta, one, extend, stretches, shifted}, specs.Sources.{same_key, unchanged}, specs.Updates.{Update, new_keys, differs, differs_in, between}}
use Rattle.key_lists.{specs.Keys.{is_among, without}, proofs.Among.each_among, proofs.Every.{every, every_weaker, every-map, filter_all, filter_none, map_map}}
use Rattle.tick_laws.specs.Replaced.{replaced, whole_update, no_update}

-- the parts of an update
abbrev with_parts : List ℕ → List ℕ → List ℕ → List ShiftRange → List ℕ → Update
with_parts removed added modified shifted columns = record { removed = removed; added = added; modified = modified; shifted = shifted; columns = columns }

pub between-replaced : (old new : PlainTable) → between (replaced old new) ≡ whole_update old new
between-replaced old new =
    ap (λ removed. with_parts removed (without [] (keys new.rows)) [] [] (columns_of (range_with_len 0 new.width))) (filter_all (keys old.rows))
    ∙ ap (λ added. with_parts (keys old.rows) added [] [] (columns_of (range_with_len 0 new.width))) (filter_all (keys new.rows))
    ∙ ap (with_parts (keys old.rows) (keys new.rows) [] []) (filter_none (λ column. list_any (differs_in old new column) []) (range_with_len 0 new.width) (every (λ column. list_any (differs_in old new column) [] ≡ false) (range_with_len 0 new.width) (λ column. refl)))
  where
    columns_of : List ℕ → List ℕ
    columns_of = filter (λ column. list_any (differs_in old new column) [])

-- no range of a change in place moves its rows
still : (ks : List ℕ) → AllByRecursion (λ (range : ShiftRange). range.delta ≡ pos 0) (stretches (map same_key ks))
still [] = tt
still (key ∷ ks) = go (stretches (map same_key ks)) (still ks)
  where
    zero_delta : pos key -ℤ pos key ≡ pos 0
    zero_delta = omega (arith, ints)

    go : (ranges : List ShiftRange) → AllByRecursion (λ (range : ShiftRange). range.delta ≡ pos 0) ranges → AllByRecursion (λ (range : ShiftRange). range.delta ≡ pos 0) (extend (same_key key) ranges)
    go [] h = (zero_delta, tt)
    go (range ∷ ranges) h =
        elim (int_eq (delta (same_key key)) range.delta) as (λ b. AllByRecursion (λ (range : ShiftRange). range.delta ≡ pos 0) (cond b ((record range { begin = key }) ∷ ranges) (one (same_key key) ∷ range ∷ ranges))) [
          | true ↦ (h.0, h.1)
          | false ↦ (zero_delta, h)
        ]

pub nothing_moves : (ks : List ℕ) → shifted (map same_key ks) ≡ []
nothing_moves ks =
    filter_none (λ (range : ShiftRange). not (int_eq range.delta (pos 0))) (stretches (map same_key ks))
    (every_weaker (λ (range : ShiftRange). range.delta ≡ pos 0) (λ (range : ShiftRange). not (int_eq range.delta (pos 0)) ≡ false) (stretches (map same_key ks)) (λ range e. ap not ((signed_Decides range.delta (pos 0)).1 e)) (still ks))

none_left : (ks : List ℕ) → without ks ks ≡ []
none_left ks = filter_none (λ key. not (is_among key ks)) ks (every_weaker (λ key. is_among key ks ≡ true) (λ key. not (is_among key ks) ≡ false) ks (λ key own. ap not own) (each_among ks))

pub between-unchanged : (table : PlainTable) → between (unchanged table) ≡ no_update
between-unchanged table =
    ap (λ olds. with_parts (without olds ks) (without (new_keys kept) ks) modified (shifted kept) columns) own
    ∙ ap (λ removed. with_parts removed (without (new_keys kept) ks) modified (shifted kept) columns) (none_left ks)
    ∙ ap (λ news. with_parts [] (without news ks) modified (shifted kept) columns) own_new
    ∙ ap (λ added. with_parts [] added modified (shifted kept) columns) (none_left ks)
    ∙ ap (λ these. with_parts [] [] (new_keys these) (shifted kept) columns) (filter_none (differs table table) kept (every-map (λ pair. differs table table pair ≡ false) same_key ks (every (λ key. differs table table (same_key key) ≡ false) ks (λ key. ap not ((signed_items (cells_at key table.rows) (cells_at key table.rows)).1 refl)))))
    ∙ ap (λ ranges. with_parts [] [] [] ranges columns) (nothing_moves ks)
    ∙ ap (with_parts [] [] [] []) (filter_none (λ column. list_any (differs_in table table column) kept) (range_with_len 0 table.width) (every (λ column. list_any (differs_in table table column) kept ≡ false) (range_with_len 0 table.width) (λ column. no_column column ks)))
  where
    ks : List ℕ
    ks = keys table.rows

    kept : List KeyPair
    kept = map same_key ks

    modified : List ℕ
    modified = new_keys (filter (differs table table) kept)

    columns : List ℕ
    columns = filter (λ column. list_any (differs_in table table column) kept) (range_with_len 0 table.width)

    own : map (λ (pair : KeyPair). pair.old) kept ≡ ks
    own = map_map (λ (pair : KeyPair). pair.old) same_key ks ∙ map-id ks

    own_new : map (λ (pair : KeyPair). pair.new) kept ≡ ks
    own_new = map_map (λ (pair : KeyPair). pair.new) same_key ks ∙ map-id ks

    no_column : (column : ℕ) (these : List ℕ) → list_any (differs_in table table column) (map same_key these) ≡ false
    no_column column [] = refl
    no_column column (key ∷ these) = ap (λ b. not b || list_any (differs_in table table column) (map same_key these)) ((signed_Decides (cell (cells_at key table.rows) column) (cell (cells_at key table.rows) column)).1 refl) ∙ no_column column these
