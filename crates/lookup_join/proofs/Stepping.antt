-- The pairs of rows that a step modifies, and what a step reads.
use Rattle.std.proofs.Common.{◌≡◌, ap, sym, ◌∙◌, subst, not, true, ℕ, ◌+◌, ◌*◌, ◌≤◌, arith, length}
use Rattle.std.{specs.List.AllByRecursion, proofs.Math.Nat.mul-le-mul_left, proofs.lemmas.List.length-map}
use Rattle.key_lists.{specs.Keys.is_among, proofs.Among.each_among, proofs.Every.{every_unmapped, every-filter}}
use Rattle.lookup_join.specs.Taken.{modified_pairs}
use Rattle.shown_rows.proofs.Restricted.{is_modified, kept, modified_new}
use Rattle.tick_model.{specs.Changes.Change, specs.declared.update.KeyPair.KeyPair, specs.Tables.keys, specs.Updates.{Update, new_keys, old_keys}}
use Rattle.tick_table.{specs.Exact.{IsExact, counted}, specs.Ticking.Ticking}

module _ (t : Ticking) (e : IsExact t) where
  pub modified_before : AllByRecursion (λ (pair : KeyPair). is_among pair.old (keys t.old.rows) ≡ true) (modified_pairs t)
  modified_before = every-filter (λ (pair : KeyPair). is_among pair.old (keys t.old.rows) ≡ true) (is_modified t e) (kept t e) (every_unmapped (λ key. is_among key (keys t.old.rows) ≡ true) (λ (pair : KeyPair). pair.old) (kept t e) e.tick.of_old)

  pub modified_now : AllByRecursion (λ (pair : KeyPair). is_among pair.new (keys t.new.rows) ≡ true) (modified_pairs t)
  modified_now = every-filter (λ (pair : KeyPair). is_among pair.new (keys t.new.rows) ≡ true) (is_modified t e) (kept t e) (every_unmapped (λ key. is_among key (keys t.new.rows) ≡ true) (λ (pair : KeyPair). pair.new) (kept t e) e.tick.of_new)

  pub removed_there : AllByRecursion (λ key. is_among key (keys t.old.rows) ≡ true) t.update.removed
  removed_there = subst (AllByRecursion (λ key. is_among key (keys t.old.rows) ≡ true)) (sym (ap (λ (update : Update). update.removed) e.update)) (every-filter (λ key. is_among key (keys t.old.rows) ≡ true) (λ key. not (is_among key (old_keys (kept t e)))) (keys t.old.rows) (each_among (keys t.old.rows)))

  pub added_there : AllByRecursion (λ key. is_among key (keys t.new.rows) ≡ true) t.update.added
  added_there = subst (AllByRecursion (λ key. is_among key (keys t.new.rows) ≡ true)) (sym (ap (λ (update : Update). update.added) e.update)) (every-filter (λ key. is_among key (keys t.new.rows) ≡ true) (λ key. not (is_among key (new_keys (kept t e)))) (keys t.new.rows) (each_among (keys t.new.rows)))

  pub modified_count : length (modified_pairs t) ≡ length t.update.modified
  modified_count = sym (length-map (modified_pairs t) (λ (pair : KeyPair). pair.new)) ∙ ap length (sym (modified_new t e))

-- the reads of bringing an index on
pub brought_reads : (width first second third modified pairs changed added : ℕ) → second ≤ first + width * pairs → third ≤ second + width * (changed + added) → changed ≤ pairs → pairs ≡ modified → third ≤ first + width * (2 * modified + added)
brought_reads width first second third modified pairs changed added h k few same = omega (arith, h, k, mul-le-mul_left width few, ap (λ n. width * n) same)

pub noted_reads : (width first second third modified pairs added : ℕ) → second ≤ first + width * (pairs + added) → third ≤ second + width * (2 * modified + added) → pairs ≡ modified → third ≤ first + width * (3 * modified + 2 * added)
noted_reads width first second third modified pairs added h k same = omega (arith, h, k, ap (λ n. width * n) same)

-- the reads of a whole step
pub step_reads : (left right taken first second third fourth notes left_removed left_added left_modified right_removed right_added right_modified removed added modified : ℕ)
    → second ≤ first + right * (3 * right_modified + 2 * right_added) → third ≤ second + left * (2 * left_modified + left_added) → fourth ≤ third + 2 * taken * notes + (left + taken) * (2 * (left_modified + modified) + left_added) → notes ≤ right_removed + right_added + 2 * right_modified
    → fourth ≤ first + 4 * (left + right + (left + taken)) * ((left_removed + left_added + 2 * left_modified) + (right_removed + right_added + 2 * right_modified) + (removed + added + 2 * modified))
step_reads left right taken first second third fourth notes left_removed left_added left_modified right_removed right_added right_modified removed added modified h k m few =
    omega (arith, h, k, m, mul-le-mul_left (2 * taken) few)

-- the reads of a step, in the words of the operator
pub step_within : (reads first left right taken own_taken both : ℕ) (made own : Change) → reads ≤ first + 4 * (left + right + (left + taken)) * (both + counted made.update) → made ≡ own → taken ≡ own_taken → reads ≤ first + 4 * (left + right + (left + own_taken)) * (both + counted own.update)
step_within reads first left right taken own_taken both made own h made_is taken_is =
    subst (λ n. reads ≤ first + 4 * (left + right + (left + n)) * (both + counted own.update)) taken_is (subst (λ (change : Change). reads ≤ first + 4 * (left + right + (left + taken)) * (both + counted change.update)) made_is h)
