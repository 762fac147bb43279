-- The keys of a merge and of its pairs, and that its tick is one.
use Rattle.std.proofs.Common.{◌≡◌, refl, ap, ap₂, sym, ◌∙◌, subst, true, ℕ, ◌+◌, ◌<◌, ◌≤◌, ◌^◌, arith, List, [], ◌∷◌, ◌++◌, map, length}
use Rattle.std.{specs.List.AllByRecursion, proofs.lemmas.List.map-append}
use Rattle.key_lists.{specs.Keys.{is_among, IsRising, without}, proofs.Among.{each_among, of_among}, proofs.Every.{every_both, every_weaker, every-append, every-map, map_map}}
use Rattle.tick_model.{specs.declared.table.PlainRow.PlainRow, specs.declared.table.PlainTable.PlainTable, specs.declared.update.KeyPair.KeyPair, specs.Merge.{merge_pairs, merged_pairs, merged_rows, pair_from, region, row_from, width_of}, specs.Tables.{IsRow, IsTable, keys}, specs.Updates.{IsTick, Tick, Update, between, new_keys, old_keys, pairs}}
use Rattle.tick_laws.{proofs.Merged.{IsPart, apart, apart_among, apart_rising, below_region, whole_part}, proofs.ResultTables.rows_of}
use Rattle.tick_table.{specs.Exact.{IsExact, tick_of}, specs.Ticking.Ticking}
use Rattle.table_operator.specs.Inputs.{news, olds}
use Rattle.merge_op.{specs.Merged.merged, specs.Regions.{in_regions, room_before, room_now}, proofs.Apart.{AreBelow, regions_same, regions_without}}

abbrev pub keys_before : Ticking → List ℕ
keys_before t = keys t.old.rows

abbrev pub keys_now : Ticking → List ℕ
keys_now t = keys t.new.rows

abbrev pub kept_of : Ticking → List KeyPair
kept_of t = pairs t.old t.update

abbrev pub kept_before : Ticking → List ℕ
kept_before t = old_keys (kept_of t)

abbrev pub kept_now : Ticking → List ℕ
kept_now t = new_keys (kept_of t)

-- the keys of merged rows
pub rows_keys : (side : Ticking → PlainTable) (from : ℕ) (ts : List Ticking) → keys (merged_rows from (map side ts)) ≡ in_regions (λ t. keys (side t).rows) (λ t. region (side t)) from ts
rows_keys side from [] = refl
rows_keys side from (t ∷ ts) =
    map-append (λ (row : PlainRow). row.key) (map (row_from from) (side t).rows) (merged_rows (from + region (side t)) (map side ts))
    ∙ ap₂ (λ (xs ys : List ℕ). xs ++ ys) (map_map (λ (row : PlainRow). row.key) (row_from from) (side t).rows ∙ sym (map_map (λ key. key + from) (λ (row : PlainRow). row.key) (side t).rows)) (rows_keys side (from + region (side t)) ts)

pub keys-olds : (from : ℕ) (ts : List Ticking) → keys (merged_rows from (olds ts)) ≡ in_regions keys_before room_before from ts
keys-olds from ts = rows_keys (λ t. t.old) from ts

pub keys-news : (from : ℕ) (ts : List Ticking) → keys (merged_rows from (news ts)) ≡ in_regions keys_now room_now from ts
keys-news from ts = rows_keys (λ t. t.new) from ts

-- the keys of the pairs
pub old_keys-pairs : (o n : ℕ) (ts : List Ticking) → old_keys (merged_pairs o n (map tick_of ts)) ≡ in_regions kept_before room_before o ts
old_keys-pairs o n [] = refl
old_keys-pairs o n (t ∷ ts) =
    map-append (λ (pair : KeyPair). pair.old) (map (pair_from o n) (kept_of t)) (merged_pairs (o + room_before t) (n + room_now t) (map tick_of ts))
    ∙ ap₂ (λ (xs ys : List ℕ). xs ++ ys) (map_map (λ (pair : KeyPair). pair.old) (pair_from o n) (kept_of t) ∙ sym (map_map (λ key. key + o) (λ (pair : KeyPair). pair.old) (kept_of t))) (old_keys-pairs (o + room_before t) (n + room_now t) ts)

pub new_keys-pairs : (o n : ℕ) (ts : List Ticking) → new_keys (merged_pairs o n (map tick_of ts)) ≡ in_regions kept_now room_now n ts
new_keys-pairs o n [] = refl
new_keys-pairs o n (t ∷ ts) =
    map-append (λ (pair : KeyPair). pair.new) (map (pair_from o n) (kept_of t)) (merged_pairs (o + room_before t) (n + room_now t) (map tick_of ts))
    ∙ ap₂ (λ (xs ys : List ℕ). xs ++ ys) (map_map (λ (pair : KeyPair). pair.new) (pair_from o n) (kept_of t) ∙ sym (map_map (λ key. key + n) (λ (pair : KeyPair). pair.new) (kept_of t))) (new_keys-pairs (o + room_before t) (n + room_now t) ts)

-- of exact inputs, all keys and those of the pairs are below the regions' ends
below_part : (room : ℕ) (all some : List ℕ) → AllByRecursion (λ k. k < room) all → AllByRecursion (λ k. is_among k all ≡ true) some → AllByRecursion (λ k. k < room) some
below_part room all some h among = every_weaker (λ k. is_among k all ≡ true) (λ k. k < room) some (λ k own. of_among (λ k. k < room) k all h own) among

each_exact : (P : Ticking → Type 0) (ts : List Ticking) → ((t : Ticking) → IsExact t → P t) → AllByRecursion IsExact ts → AllByRecursion P ts
each_exact P ts f e = every_weaker IsExact P ts f e

pub below_before : (ts : List Ticking) → AllByRecursion IsExact ts → AreBelow room_before keys_before ts
below_before ts e = each_exact (λ t. AllByRecursion (λ k. k < room_before t) (keys_before t)) ts (λ t x. below_region t.old x.tick.old_table.rising) e

pub below_now : (ts : List Ticking) → AllByRecursion IsExact ts → AreBelow room_now keys_now ts
below_now ts e = each_exact (λ t. AllByRecursion (λ k. k < room_now t) (keys_now t)) ts (λ t x. below_region t.new x.tick.new_table.rising) e

pub below_kept_before : (ts : List Ticking) → AllByRecursion IsExact ts → AreBelow room_before kept_before ts
below_kept_before ts e = each_exact (λ t. AllByRecursion (λ k. k < room_before t) (kept_before t)) ts (λ t x. below_part (room_before t) (keys_before t) (kept_before t) (below_region t.old x.tick.old_table.rising) x.tick.of_old) e

pub below_kept_now : (ts : List Ticking) → AllByRecursion IsExact ts → AreBelow room_now kept_now ts
below_kept_now ts e = each_exact (λ t. AllByRecursion (λ k. k < room_now t) (kept_now t)) ts (λ t x. below_part (room_now t) (keys_now t) (kept_now t) (below_region t.new x.tick.new_table.rising) x.tick.of_new) e

-- the rows that go and those that come are those of the inputs
pub removed_are : (ts : List Ticking) → AllByRecursion IsExact ts → in_regions (λ t. t.update.removed) room_before 0 ts ≡ (between (merged ts)).removed
removed_are ts e =
    regions_same room_before (λ t. t.update.removed) (λ t. without (kept_before t) (keys_before t)) 0 ts (each_exact (λ t. t.update.removed ≡ without (kept_before t) (keys_before t)) ts (λ t x. ap (λ (update : Update). update.removed) x.update) e)
    ∙ sym (regions_without room_before keys_before kept_before 0 ts (below_before ts e) (below_kept_before ts e))
    ∙ ap₂ without (sym (old_keys-pairs 0 0 ts)) (sym (keys-olds 0 ts))

pub added_are : (ts : List Ticking) → AllByRecursion IsExact ts → in_regions (λ t. t.update.added) room_now 0 ts ≡ (between (merged ts)).added
added_are ts e =
    regions_same room_now (λ t. t.update.added) (λ t. without (kept_now t) (keys_now t)) 0 ts (each_exact (λ t. t.update.added ≡ without (kept_now t) (keys_now t)) ts (λ t x. ap (λ (update : Update). update.added) x.update) e)
    ∙ sym (regions_without room_now keys_now kept_now 0 ts (below_now ts e) (below_kept_now ts e))
    ∙ ap₂ without (sym (new_keys-pairs 0 0 ts)) (sym (keys-news 0 ts))

-- numbers in regions, by the laws of operators
in_apart : (part : Ticking → List ℕ) (room : Ticking → ℕ) (from : ℕ) (ts : List Ticking) → in_regions part room from ts ≡ apart part room from ts
in_apart part room from [] = refl
in_apart part room from (t ∷ ts) = ap (λ (rest : List ℕ). map (λ key. key + from) (part t) ++ rest) (in_apart part room (from + room t) ts)

rows_whole : (width from : ℕ) (tables : List PlainTable) → AllByRecursion IsTable tables → AllByRecursion (λ table. table.width ≡ width) tables → AllByRecursion (λ row. length row.cells ≡ width) (merged_rows from tables)
rows_whole width from [] t w = tt
rows_whole width from (table ∷ tables) t w =
    every-append (λ row. length row.cells ≡ width) (map (row_from from) table.rows) (merged_rows (from + region table) tables)
    (every-map (λ row. length row.cells ≡ width) (row_from from) table.rows (every_weaker (IsRow table.width) (λ row. length row.cells ≡ width) table.rows (λ row is. is.whole ∙ w.0) t.0.rows))
    (rows_whole width (from + region table) tables t.1 w.1)

first_width : (width : ℕ) (tables : List PlainTable) → AllByRecursion (λ table. table.width ≡ width) tables → AllByRecursion (λ table. table.width ≡ width_of tables) tables
first_width width [] h = tt
first_width width (table ∷ tables) h = (refl, every_weaker (λ other. other.width ≡ width) (λ other. other.width ≡ table.width) tables (λ other same. same ∙ sym h.0) h.1)

module _ (width : ℕ) (ts : List Ticking) (e : AllByRecursion IsExact ts) (w : AllByRecursion (λ t. t.new.width ≡ width) ts) where
  wide_before : AllByRecursion (λ t. t.old.width ≡ width) ts
  wide_before = every_both IsExact (λ t. t.new.width ≡ width) (λ t. t.old.width ≡ width) ts (λ t x same. sym x.tick.one_width ∙ same) e w

  old_width : (merged ts).old.width ≡ (merged ts).new.width
  old_width = go ts wide_before w
    where
      go : (ts : List Ticking) → AllByRecursion (λ t. t.old.width ≡ width) ts → AllByRecursion (λ t. t.new.width ≡ width) ts → width_of (olds ts) ≡ width_of (news ts)
      go [] h k = refl
      go (t ∷ ts) h k = h.0 ∙ sym k.0

  rising_in : (part all : Ticking → List ℕ) (room : Ticking → ℕ) → AllByRecursion (IsPart all part room) ts → IsRising (in_regions part room 0 ts)
  rising_in part all room h = subst IsRising (sym (in_apart part room 0 ts)) (apart_rising all part room 0 ts h)

  among_in : (part all : Ticking → List ℕ) (room : Ticking → ℕ) → AllByRecursion (IsPart all part room) ts → AllByRecursion (λ key. is_among key (in_regions all room 0 ts) ≡ true) (in_regions part room 0 ts)
  among_in part all room h =
      subst (λ ks. AllByRecursion (λ key. is_among key (in_regions all room 0 ts) ≡ true) ks) (sym (in_apart part room 0 ts))
      (subst (λ ks. AllByRecursion (λ key. is_among key ks ≡ true) (apart part room 0 ts)) (sym (in_apart all room 0 ts)) (apart_among all part room 0 ts h))

  before_part : AllByRecursion (IsPart keys_before kept_before room_before) ts
  before_part = each_exact (IsPart keys_before kept_before room_before) ts (λ t x. record { rising = x.tick.rising_old; below = below_part (room_before t) (keys_before t) (kept_before t) (below_region t.old x.tick.old_table.rising) x.tick.of_old; among = x.tick.of_old }) e

  now_part : AllByRecursion (IsPart keys_now kept_now room_now) ts
  now_part = each_exact (IsPart keys_now kept_now room_now) ts (λ t x. record { rising = x.tick.rising_new; below = below_part (room_now t) (keys_now t) (kept_now t) (below_region t.new x.tick.new_table.rising) x.tick.of_new; among = x.tick.of_new }) e

  all_before : AllByRecursion (IsPart keys_before keys_before room_before) ts
  all_before = each_exact (IsPart keys_before keys_before room_before) ts (λ t x. whole_part (λ t. t.old) t x.tick.old_table.rising) e

  all_now : AllByRecursion (IsPart keys_now keys_now room_now) ts
  all_now = each_exact (IsPart keys_now keys_now room_now) ts (λ t x. whole_part (λ t. t.new) t x.tick.new_table.rising) e

  tables_before : AllByRecursion IsTable (olds ts)
  tables_before = every-map IsTable (λ t. t.old) ts (each_exact (λ t. IsTable t.old) ts (λ t x. x.tick.old_table) e)

  tables_now : AllByRecursion IsTable (news ts)
  tables_now = every-map IsTable (λ t. t.new) ts (each_exact (λ t. IsTable t.new) ts (λ t x. x.tick.new_table) e)

  whole : (side : Ticking → PlainTable) → AllByRecursion IsTable (map side ts) → AllByRecursion (λ t. (side t).width ≡ width) ts → AllByRecursion (λ row. length row.cells ≡ width_of (map side ts)) (merged_rows 0 (map side ts))
  whole side tables wide = rows_whole (width_of (map side ts)) 0 (map side ts) tables (first_width width (map side ts) (every-map (λ table. table.width ≡ width) side ts wide))

  -- where all merged keys are keys, the tick of the merge is one
  pub merged_is_tick : AllByRecursion (λ key. key < 2 ^ 62) (keys (merged ts).old.rows) → AllByRecursion (λ key. key < 2 ^ 62) (keys (merged ts).new.rows) → IsTick (merged ts)
  merged_is_tick small_before small_now = record {
    old_table = record { rows = rows_of (width_of (olds ts)) (merged_rows 0 (olds ts)) small_before (whole (λ t. t.old) tables_before wide_before); rising = subst IsRising (sym (keys-olds 0 ts)) (rising_in keys_before keys_before room_before all_before) };
    new_table = record { rows = rows_of (width_of (news ts)) (merged_rows 0 (news ts)) small_now (whole (λ t. t.new) tables_now w); rising = subst IsRising (sym (keys-news 0 ts)) (rising_in keys_now keys_now room_now all_now) };
    one_width = sym old_width;
    of_old = subst (λ ks. AllByRecursion (λ key. is_among key ks ≡ true) (old_keys (merge_pairs (map tick_of ts)))) (sym (keys-olds 0 ts)) (subst (λ ks. AllByRecursion (λ key. is_among key (in_regions keys_before room_before 0 ts) ≡ true) ks) (sym (old_keys-pairs 0 0 ts)) (among_in kept_before keys_before room_before before_part));
    of_new = subst (λ ks. AllByRecursion (λ key. is_among key ks ≡ true) (new_keys (merge_pairs (map tick_of ts)))) (sym (keys-news 0 ts)) (subst (λ ks. AllByRecursion (λ key. is_among key (in_regions keys_now room_now 0 ts) ≡ true) ks) (sym (new_keys-pairs 0 0 ts)) (among_in kept_now keys_now room_now now_part));
    rising_old = subst IsRising (sym (old_keys-pairs 0 0 ts)) (rising_in kept_before keys_before room_before before_part);
    rising_new = subst IsRising (sym (new_keys-pairs 0 0 ts)) (rising_in kept_now keys_now room_now now_part);
  }
