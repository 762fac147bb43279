-- The input that has a row of a merge.
use Rattle.std.proofs.Common.{◌≡◌, refl, ap, sym, ◌∙◌, subst, true, ℕ, ◌+◌, ◌-◌, ◌<◌, ◌≤◌, ◌^◌, arith, List, [], ◌∷◌, drop, get_or, length, map, true≢false}
use Rattle.std.{specs.Arc.arc_value, specs.declared.alloc.Global.Global, specs.declared.sync.Arc.Arc, specs.List.AllByRecursion}
use Rattle.key_lists.{specs.Keys.is_among, proofs.Among.of_among}
use Rattle.tick_laws.{proofs.Merged.below_region, proofs.PrintedChanges.table_keys}
use Rattle.tick_model.{specs.Merge.merged_rows, specs.Tables.{IsTable, cells_at, keys}, specs.Updates.IsTick}
use Rattle.tick_table.{specs.declared.version.Version.Version, specs.declared.version.Version.TheVariants.{Before, Now}, specs.Exact.IsExact, specs.Ticking.Ticking, specs.Versions.table_in}
use Rattle.table_operator.specs.Inputs.{tables}
use Rattle.merge_op.{specs.Merged.{merged, merged_in}, specs.Regions.{in_regions, room_in}, proofs.Apart.{among_first, among_others}, proofs.Looked.{cells_behind, cells_first}, proofs.Sharing.tables_from, proofs.Ticked.rows_keys}

abbrev pub keys_in : Version → Ticking → List ℕ
keys_in version t = keys (table_in version t).rows

-- a row of the merge before the step or now, where the inputs before `rest` do not have it
pub record IsAhead (version : Version) (ts rest : List Ticking) (from key : ℕ) : Type 0 where
  pub past : from ≤ key
  pub small : key < 2 ^ 62
  pub here : is_among key (in_regions (keys_in version) (room_in version) from rest) ≡ true
  pub cells : cells_at key (merged_rows 0 (map (table_in version) ts)) ≡ cells_at key (merged_rows from (map (table_in version) rest))

merged_table : (version : Version) (ts : List Ticking) → IsTick (merged ts) → IsTable (merged_in version ts)
merged_table Before ts tick = tick.old_table
merged_table Now ts tick = tick.new_table

exact_below : (version : Version) (t : Ticking) → IsExact t → AllByRecursion (λ key. key < room_in version t) (keys_in version t)
exact_below Before t e = below_region t.old e.tick.old_table.rising
exact_below Now t e = below_region t.new e.tick.new_table.rising

pub ahead : (version : Version) (ts : List Ticking) (key : ℕ) → IsTick (merged ts) → is_among key (keys (merged_in version ts).rows) ≡ true → IsAhead version ts ts 0 key
ahead version ts key tick own = record {
  past = omega arith;
  small = of_among (λ key. key < 2 ^ 62) key (keys (merged_in version ts).rows) (table_keys (merged_in version ts) (merged_table version ts tick)) own;
  here = ap (is_among key) (sym (rows_keys (table_in version) 0 ts)) ∙ own;
  cells = refl;
}

-- the inputs from a place on are the one there and those behind it
pub ahead_at : {version : Version} {from key : ℕ} (shared : List (Arc Ticking Global)) (i : ℕ) (item : Arc Ticking Global) (t : Ticking) → IsAhead version (tables shared) (tables (drop i shared)) from key → i < length shared → item ≡ get_or shared i item → t ≡ arc_value {X = Ticking} item → IsAhead version (tables shared) (t ∷ tables (drop (i + 1) shared)) from key
ahead_at {version} {from} {key} shared i item t h k is now = subst (λ (rest : List Ticking). IsAhead version (tables shared) rest from key) (tables_from shared i item t k is now) h

-- the row is one of the first input
pub in_first : {version : Version} {ts rest : List Ticking} {t : Ticking} {from key : ℕ} → IsAhead version ts (t ∷ rest) from key → key < from + room_in version t → (is_among (key - from) (keys_in version t) ≡ true) × (cells_at key (merged_rows 0 (map (table_in version) ts)) ≡ cells_at (key - from) (table_in version t).rows)
in_first {version} {ts} {rest} {t} {from} {key} h less =
    let back : key ≡ key - from + from = omega (arith, h.past) in
    let inside : key - from < room_in version t = omega (arith, less, h.past) in
    let own : is_among (key - from) (keys_in version t) ≡ true = sym (among_first (room_in version) (keys_in version) from (key - from) t rest inside) ∙ ap (λ k. is_among k (in_regions (keys_in version) (room_in version) from (t ∷ rest))) (sym back) ∙ h.here in
    (own, h.cells ∙ ap (λ k. cells_at k (merged_rows from (map (table_in version) (t ∷ rest)))) back ∙ cells_first from (key - from) (table_in version t).rows (merged_rows (from + room_in version t) (map (table_in version) rest)) own)

-- or of another one
pub in_others : {version : Version} {ts rest : List Ticking} {t : Ticking} {from end key : ℕ} → IsExact t → IsAhead version ts (t ∷ rest) from key → end ≡ from + room_in version t → end ≤ key → IsAhead version ts rest end key
in_others {version} {ts} {rest} {t} {from} {end} {key} e h is past =
    let behind : from + room_in version t ≤ key = omega (arith, is, past) in
    subst (λ end. IsAhead version ts rest end key) (sym is)
    (record {
      past = behind;
      small = h.small;
      here = sym (among_others (room_in version) (keys_in version) from key t rest (exact_below version t e) behind) ∙ h.here;
      cells = h.cells ∙ cells_behind from (room_in version t) key (table_in version t).rows (merged_rows (from + room_in version t) (map (table_in version) rest)) (exact_below version t e) behind;
    })

pub in_none : (version : Version) (ts : List Ticking) (from key : ℕ) → IsAhead version ts [] from key → ⊥
in_none version ts from key h = true≢false (sym h.here)
