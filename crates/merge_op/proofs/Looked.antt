-- The rows of a merge, looked up by their keys.
use Rattle.std.proofs.Common.{◌≡◌, refl, ap, ap₂, sym, ◌∙◌, subst, Bool, true, false, cond, not, ◌||◌, ℕ, ◌+◌, ◌<◌, ◌≤◌, ◌==◌, arith, List, [], ◌∷◌, ◌++◌, map, Some, true≢false, ℤ}
use Rattle.std.{specs.Prelude.{option_map, unwrap_or}, specs.List.AllByRecursion, proofs.lemmas.Bool.{ne_eqb, or_parts}, proofs.lemmas.List.map-append}
use Rattle.key_lists.{specs.Keys.is_among, proofs.Every.{every_both, every_unmapped, every_weaker, every-append, every-map, map_map}}
use Rattle.shown_rows.proofs.Restricted.{is_modified, modified_by}
use Rattle.tick_model.{specs.declared.table.PlainRow.PlainRow, specs.declared.update.KeyPair.KeyPair, specs.Merge.{merged_pairs, merged_rows, pair_from, row_from}, specs.Tables.{cells_at, keys, row_at, same_cells}, specs.Updates.differs}
use Rattle.tick_table.{specs.Exact.{IsExact, tick_of}, specs.Ticking.Ticking}
use Rattle.table_operator.specs.Inputs.{news, olds}
use Rattle.merge_op.{specs.Regions.{in_regions, room_before, room_now}, proofs.Apart.{AreBelow, all_plus, among_first, among_others, regions_above, same_plus}, proofs.Paired.{modified_now, rest_past}, proofs.Ticked.{kept_before, kept_now, kept_of, keys_before, keys_now, old_keys-pairs}}

-- the cells of a row that is found, or of the next one that may be it
abbrev found : Bool → PlainRow → List PlainRow → ℕ → List ℤ
found here row rows key = unwrap_or (option_map (λ (row : PlainRow). row.cells) (cond here (Some row) (row_at key rows))) []

-- a row of the first input
pub cells_first : (from key : ℕ) (rows rest : List PlainRow) → is_among key (keys rows) ≡ true → cells_at (key + from) (map (row_from from) rows ++ rest) ≡ cells_at key rows
cells_first from key [] rest own = absurd (true≢false (sym own))
cells_first from key (row ∷ rows) rest own =
    ap (λ b. found b (row_from from row) (map (row_from from) rows ++ rest) (key + from)) (same_plus from row.key key)
    ∙ (elim (row.key == key) as (λ b. (row.key == key) ≡ b → found b (row_from from row) (map (row_from from) rows ++ rest) (key + from) ≡ found b row rows key) [
      | true ↦ λ here. refl
      | false ↦ λ other. cells_first from key rows rest (sym (ap (λ b. b || is_among key (keys rows)) other) ∙ own)
    ]) refl

-- a row behind those with lower keys
pub cells_past : (key : ℕ) (rows rest : List PlainRow) → AllByRecursion (λ k. k < key) (keys rows) → cells_at key (rows ++ rest) ≡ cells_at key rest
cells_past key [] rest h = refl
cells_past key (row ∷ rows) rest h =
    ap (λ b. found b row (rows ++ rest) key) (ne_eqb row.key key (λ same. absurd (let less : key < key = omega (arith, same, h.0) in omega (arith, less))))
    ∙ cells_past key rows rest h.1

keys_plus : (from : ℕ) (rows : List PlainRow) → keys (map (row_from from) rows) ≡ map (λ k. k + from) (keys rows)
keys_plus from rows = map_map (λ (row : PlainRow). row.key) (row_from from) rows ∙ sym (map_map (λ k. k + from) (λ (row : PlainRow). row.key) rows)

-- whether the rows of a pair differ
abbrev rows_differ : List PlainRow → List PlainRow → KeyPair → Bool
rows_differ old new pair = not (same_cells (cells_at pair.old old) (cells_at pair.new new))

pub cells_behind : (from room key : ℕ) (rows rest : List PlainRow) → AllByRecursion (λ k. k < room) (keys rows) → from + room ≤ key → cells_at key (map (row_from from) rows ++ rest) ≡ cells_at key rest
cells_behind from room key rows rest below past =
    cells_past key (map (row_from from) rows) rest
    (subst (AllByRecursion (λ k. k < key)) (sym (keys_plus from rows))
    (every_weaker (λ k. k < from + room) (λ k. k < key) (map (λ k. k + from) (keys rows)) (λ k less. omega (arith, less, past)) (all_plus from room (keys rows) below)))

pub rest_past_old : (o n : ℕ) (ts : List Ticking) → AllByRecursion (λ (pair : KeyPair). o ≤ pair.old) (merged_pairs o n (map tick_of ts))
rest_past_old o n ts = every_unmapped (λ key. o ≤ key) (λ (pair : KeyPair). pair.old) (merged_pairs o n (map tick_of ts)) (subst (AllByRecursion (λ key. o ≤ key)) (sym (old_keys-pairs o n ts)) (regions_above room_before kept_before o ts))

-- what is known of a pair of the first input
record Knows (t : Ticking) (e : IsExact t) (pair : KeyPair) : Type 0 where
  modified : is_modified t e pair ≡ differs t.old t.new pair
  old : is_among pair.old (keys t.old.rows) ≡ true
  new : is_among pair.new (keys t.new.rows) ≡ true
  below : pair.new < room_now t

-- the pairs that have none of the modified keys do not differ
pub others : (o n : ℕ) (ts : List Ticking) → AllByRecursion IsExact ts → AreBelow room_before keys_before ts → AreBelow room_now keys_now ts → AreBelow room_now kept_now ts → AreBelow room_now modified_now ts
    → AllByRecursion (λ pair. is_among pair.new (in_regions modified_now room_now n ts) ≡ false → rows_differ (merged_rows o (olds ts)) (merged_rows n (news ts)) pair ≡ false) (merged_pairs o n (map tick_of ts))
others o n [] e b k p m = tt
others o n (t ∷ ts) e b k p m =
    every-append (λ pair. is_among pair.new (in_regions modified_now room_now n (t ∷ ts)) ≡ false → rows_differ (merged_rows o (olds (t ∷ ts))) (merged_rows n (news (t ∷ ts))) pair ≡ false) (map (pair_from o n) (kept_of t)) (merged_pairs (o + room_before t) (n + room_now t) (map tick_of ts))
    (every-map (λ pair. is_among pair.new (in_regions modified_now room_now n (t ∷ ts)) ≡ false → rows_differ (merged_rows o (olds (t ∷ ts))) (merged_rows n (news (t ∷ ts))) pair ≡ false) (pair_from o n) (kept_of t)
    (every_weaker (Knows t e.0) (λ pair. is_among (pair.new + n) (in_regions modified_now room_now n (t ∷ ts)) ≡ false → rows_differ (merged_rows o (olds (t ∷ ts))) (merged_rows n (news (t ∷ ts))) (pair_from o n pair) ≡ false) (kept_of t)
    (λ pair known absent.
    ap₂ (λ x y. not (same_cells x y)) (cells_first o pair.old t.old.rows (merged_rows (o + room_before t) (olds ts)) known.old) (cells_first n pair.new t.new.rows (merged_rows (n + room_now t) (news ts)) known.new)
    ∙ sym known.modified ∙ sym (among_first room_now modified_now n pair.new t ts known.below) ∙ absent)
    all_known))
    (every_both (λ (pair : KeyPair). (o + room_before t ≤ pair.old) × (n + room_now t ≤ pair.new)) (λ pair. is_among pair.new (in_regions modified_now room_now (n + room_now t) ts) ≡ false → rows_differ (merged_rows (o + room_before t) (olds ts)) (merged_rows (n + room_now t) (news ts)) pair ≡ false)
    (λ pair. is_among pair.new (in_regions modified_now room_now n (t ∷ ts)) ≡ false → rows_differ (merged_rows o (olds (t ∷ ts))) (merged_rows n (news (t ∷ ts))) pair ≡ false) (merged_pairs (o + room_before t) (n + room_now t) (map tick_of ts))
    (λ pair past same absent.
    ap₂ (λ x y. not (same_cells x y)) (cells_behind o (room_before t) pair.old t.old.rows (merged_rows (o + room_before t) (olds ts)) b.0 past.0) (cells_behind n (room_now t) pair.new t.new.rows (merged_rows (n + room_now t) (news ts)) k.0 past.1)
    ∙ same (sym (among_others room_now modified_now n pair.new t ts m.0 past.1) ∙ absent))
    (every_both (λ (pair : KeyPair). o + room_before t ≤ pair.old) (λ (pair : KeyPair). n + room_now t ≤ pair.new) (λ (pair : KeyPair). (o + room_before t ≤ pair.old) × (n + room_now t ≤ pair.new)) (merged_pairs (o + room_before t) (n + room_now t) (map tick_of ts)) (λ pair x y. (x, y))
    (rest_past_old (o + room_before t) (n + room_now t) ts) (rest_past (o + room_before t) (n + room_now t) ts))
    (others (o + room_before t) (n + room_now t) ts e.1 b.1 k.1 p.1 m.1))
  where
    all_known : AllByRecursion (Knows t e.0) (kept_of t)
    all_known =
        every_both (λ pair. is_modified t e.0 pair ≡ differs t.old t.new pair) (λ (pair : KeyPair). (is_among pair.old (keys t.old.rows) ≡ true) × ((is_among pair.new (keys t.new.rows) ≡ true) × (pair.new < room_now t))) (Knows t e.0) (kept_of t)
        (λ pair by are. record { modified = by; old = are.0; new = are.1.0; below = are.1.1 })
        (modified_by t e.0)
        (every_both (λ (pair : KeyPair). is_among pair.old (keys t.old.rows) ≡ true) (λ (pair : KeyPair). (is_among pair.new (keys t.new.rows) ≡ true) × (pair.new < room_now t)) (λ (pair : KeyPair). (is_among pair.old (keys t.old.rows) ≡ true) × ((is_among pair.new (keys t.new.rows) ≡ true) × (pair.new < room_now t))) (kept_of t) (λ pair a b. (a, b))
        (every_unmapped (λ key. is_among key (keys t.old.rows) ≡ true) (λ (pair : KeyPair). pair.old) (kept_of t) e.0.tick.of_old)
        (every_both (λ (pair : KeyPair). is_among pair.new (keys t.new.rows) ≡ true) (λ (pair : KeyPair). pair.new < room_now t) (λ (pair : KeyPair). (is_among pair.new (keys t.new.rows) ≡ true) × (pair.new < room_now t)) (kept_of t) (λ pair a b. (a, b))
        (every_unmapped (λ key. is_among key (keys t.new.rows) ≡ true) (λ (pair : KeyPair). pair.new) (kept_of t) e.0.tick.of_new)
        (every_unmapped (λ key. key < room_now t) (λ (pair : KeyPair). pair.new) (kept_of t) p.0)))
