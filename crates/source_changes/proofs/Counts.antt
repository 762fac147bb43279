-- How many keys two lists have together, and how many two updates.
use Rattle.std.proofs.Common.{◌≡◌, ap, ℕ, ◌+◌, ◌≤◌, ◌^◌, arith, List, length, not, None}
use Rattle.std.proofs.lemmas.List.{length-map}
use Rattle.key_lists.specs.Keys.{is_among, IsRising, without}
use Rattle.row_set.proofs.United.{length-united}
use Rattle.tick_laws.{specs.Checked.keys_after, proofs.ResultCells.length-filter_most}
use Rattle.tick_model.{specs.Rules.{landed, update_fault}, specs.Shifts.{as_key, moved}, specs.Updates.Update}
use Rattle.table_update.{specs.Coalesced.{added_by_both, modified_by_both}, proofs.CoalescedKeys.{united_added, united_modified}}

-- where keys move that stay
length-staying : (next : Update) (keys : List ℕ) → length (landed next.shifted (without next.removed keys)) ≤ length keys
length-staying next keys =
    omega (arith, length-map (without next.removed keys) (λ key. as_key (moved next.shifted key)), length-filter_most (λ key. not (is_among key next.removed)) keys)

module _ (old : List ℕ) (first next : Update) (f : update_fault (2 ^ 62) old first ≡ None) (n : update_fault (2 ^ 62) (keys_after old first) next ≡ None)
    (added_rise : IsRising first.added) where
  abbrev carried : List ℕ
  carried = landed next.shifted (without next.removed first.added)

  pub length-added : IsRising next.added → length (added_by_both old first next) ≤ length first.added + length next.added
  length-added next_rise =
      omega (arith, ap length (united_added old first next f n added_rise next_rise), length-united carried next.added, length-staying next first.added)

  pub length-modified : IsRising first.modified → IsRising next.modified → length (modified_by_both old first next) ≤ length first.modified + length next.modified
  length-modified rise next_rise =
      omega (
        arith,
        ap length (united_modified old first next f n added_rise rise next_rise),
        length-united (landed next.shifted (without next.removed first.modified)) (without carried next.modified),
        length-staying next first.modified,
        length-filter_most (λ key. not (is_among key carried)) next.modified,
      )
