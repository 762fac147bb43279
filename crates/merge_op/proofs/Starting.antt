-- No region begins far behind the keys, where the rows of a few inputs have keys.
use Rattle.std.proofs.Common.{◌≡◌, subst, ℕ, ◌+◌, ◌*◌, ◌/◌, ◌<◌, ◌≤◌, ◌^◌, arith, List, [], ◌∷◌, map, length}
use Rattle.std.{specs.Prelude.fold, specs.List.AllByRecursion}
use Rattle.key_lists.proofs.Parts.{every_back, every_front}
use Rattle.tick_model.{specs.declared.table.PlainRow.PlainRow, specs.Merge.last_key, specs.Tables.keys}
use Rattle.tick_table.specs.Ticking.{Ticking}
use Rattle.merge_op.{specs.Merged.merged, specs.Regions.{IsStart, in_regions, room_before, room_now, starts_of}, proofs.Going.small_plus, proofs.Ticked.{keys-news, keys-olds, keys_before, keys_now}}

last_holds : (P : ℕ → Type 0) (key : ℕ) (rows : List PlainRow) → P key → AllByRecursion P (keys rows) → P (fold (λ _ row. row.key) key rows)
last_holds P key [] p h = p
last_holds P key (row ∷ rows) p h = last_holds P row.key rows h.0 h.1

-- a region ends behind the last key, or behind those that are empty
room_end : (rows : List PlainRow) (from room : ℕ) → AllByRecursion (λ key. key + from < 2 ^ 62) (keys rows) → from ≤ 2 ^ 62 + room → from + 65536 * (last_key rows / 65536 + 1) ≤ 2 ^ 62 + (room + 65536)
room_end [] from room h below = omega (arith, below)
room_end (row ∷ rows) from room h below = within (last_key (row ∷ rows)) from room (last_holds (λ key. key + from < 2 ^ 62) row.key rows h.0 h.1)
  where
    within : (last from room : ℕ) → last + from < 2 ^ 62 → from + 65536 * (last / 65536 + 1) ≤ 2 ^ 62 + (room + 65536)
    within last from room small = omega (arith, small)

starts_from : (o n room : ℕ) (ts : List Ticking) → room + 65536 * length ts ≤ 2 ^ 20 → o ≤ 2 ^ 62 + room → n ≤ 2 ^ 62 + room → AllByRecursion (λ key. key < 2 ^ 62) (in_regions keys_before room_before o ts) → AllByRecursion (λ key. key < 2 ^ 62) (in_regions keys_now room_now n ts) → AllByRecursion IsStart (starts_of o n ts)
starts_from o n room [] few a b small_before small_now = tt
starts_from o n room (t ∷ ts) few a b small_before small_now = (
  record { before = omega (arith, few, a); now = omega (arith, few, b) },
  starts_from (o + room_before t) (n + room_now t) (room + 65536) ts (omega (arith, few))
      (room_end t.old.rows o room (small_plus o (keys_before t) (every_front (λ key. key < 2 ^ 62) (map (λ key. key + o) (keys_before t)) (in_regions keys_before room_before (o + room_before t) ts) small_before)) a)
      (room_end t.new.rows n room (small_plus n (keys_now t) (every_front (λ key. key < 2 ^ 62) (map (λ key. key + n) (keys_now t)) (in_regions keys_now room_now (n + room_now t) ts) small_now)) b)
      (every_back (λ key. key < 2 ^ 62) (map (λ key. key + o) (keys_before t)) (in_regions keys_before room_before (o + room_before t) ts) small_before)
      (every_back (λ key. key < 2 ^ 62) (map (λ key. key + n) (keys_now t)) (in_regions keys_now room_now (n + room_now t) ts) small_now),
)

pub starts_are : (ts : List Ticking) → length ts ≤ 16 → AllByRecursion (λ key. key < 2 ^ 62) (keys (merged ts).old.rows) → AllByRecursion (λ key. key < 2 ^ 62) (keys (merged ts).new.rows) → AllByRecursion IsStart (starts_of 0 0 ts)
starts_are ts few small_before small_now =
    starts_from 0 0 0 ts (omega (arith, few)) (omega arith) (omega arith)
    (subst (AllByRecursion (λ key. key < 2 ^ 62)) (keys-olds 0 ts) small_before) (subst (AllByRecursion (λ key. key < 2 ^ 62)) (keys-news 0 ts) small_now)
