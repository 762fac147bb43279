use Rattle.std.proofs.Common.{◌≡◌, ap, ◌∙◌, subst, arith, ℕ, ◌+◌, ◌≤◌, ◌^◌, Bool, true, false, cond, List, length}
use Rattle.std.specs.Prelude.{not}
use mir.Val.{bool_byte}
use Rattle.key_lists.specs.Keys.{runs}
use Rattle.row_set.{specs.Ranges.ranges_of, specs.Sets.IsKeySet, proofs.Counts.few_keys, proofs.Longest.{keys_of-ranges_of, ranges_of_apart}}
use Rattle.tick_model.specs.Changes.{is_none}
use Rattle.update_text.proofs.ChangeRecords.{length-ranges}
use Rattle.update_text.proofs.changes.count_records.Goals as goal

-- no more than there are keys
few_in_set : (ks : List ℕ) → IsKeySet ks → length ks ≤ 2 ^ 62 + 1
few_in_set ks h = subst (λ (some : List ℕ). length some ≤ 2 ^ 62 + 1) (keys_of-ranges_of ks h) (few_keys (ranges_of ks) (ranges_of_apart ks h))

-- the record of the columns is one or none
one_or_none : (n : ℕ) (empty : Bool) → n ≡ bool_byte (not empty) → n ≡ cond empty 0 1
one_or_none n true e = e
one_or_none n false e = e

at_most_one : (n : ℕ) (empty : Bool) → n ≡ cond empty 0 1 → n ≤ 1
at_most_one n true e = omega arith
at_most_one n false e = omega arith

pub overflow_add-rows : goal.overflow_add-rows
overflow_add-rows c = omega (arith, few_in_set c.added.result.now c.len.ensures.keys, few_in_set c.modified.result.now c.len-2.ensures.keys, c.len.ensures.count, c.len-2.ensures.count)

pub overflow_add-result-2 : goal.overflow_add-result-2
overflow_add-result-2 c =
    omega (arith, few_in_set c.added.result.now c.len.ensures.keys, few_in_set c.modified.result.now c.len-2.ensures.keys, c.len.ensures.count, c.len-2.ensures.count)

pub overflow_add-result-3 : goal.overflow_add-result-3
overflow_add-result-3 c =
    omega (
      arith,
      few_in_set c.added.result.now c.len.ensures.keys,
      few_in_set c.modified.result.now c.len-2.ensures.keys,
      c.len.ensures.count,
      c.len-2.ensures.count,
      at_most_one c.from-columns.result c.is_empty.result (one_or_none c.from-columns.result c.is_empty.result c.from-columns.ensures),
    )

pub returns : goal.returns
returns c =
    let removed : length c.ranges-2.result.now ≡ length (runs c.args.update.now.removed) = ap length c.ranges-2.ensures.ranges ∙ length-ranges c.removed.result.now ∙ ap (λ keys. length (runs keys)) c.removed.ensures.keys in
    let shifted : length c.ranges-3.result.now ≡ length c.args.update.now.shifted = ap length (c.ranges-3.ensures.ranges ∙ c.shifted.ensures) in
    let added : c.len.result ≡ length c.args.update.now.added = c.len.ensures.count ∙ ap length c.added.ensures.keys in
    let modified : c.len-2.result ≡ length c.args.update.now.modified = c.len-2.ensures.count ∙ ap length c.modified.ensures.keys in
    let which : c.from-columns.result ≡ cond (is_none c.args.update.now.columns) 0 1 = one_or_none c.from-columns.result c.is_empty.result c.from-columns.ensures ∙ ap (λ b. cond b 0 1) (c.is_empty.ensures ∙ ap is_none c.columns.ensures) in
    omega arith
