-- Which rows a step of a merge reads, and how many.
use Rattle.std.proofs.Common.{◌≡◌, refl, ap, sym, ◌∙◌, subst, true, ℕ, ◌+◌, ◌*◌, ◌<◌, ◌≤◌, arith, List, [], ◌∷◌, length}
use Rattle.std.{proofs.Math.Nat.mul-le-mul_left, proofs.lemmas.List.Sums.sum_by-cons, specs.Prelude.sum_by, specs.List.AllByRecursion}
use Rattle.key_lists.{specs.Keys.is_among, proofs.Among.each_among, proofs.Every.{every_unmapped, every-filter, every-map}}
use Rattle.row_changes.{specs.Parts.{AreParts, AreThere, Parts}, proofs.Comparing.{new_keys-pairs_of, old_keys-pairs_of}}
use Rattle.tick_model.{specs.declared.table.PlainTable.PlainTable, specs.declared.update.KeyPair.KeyPair, specs.Tables.keys, specs.Updates.{Update, new_keys, old_keys}}
use Rattle.tick_table.{specs.Exact.counted, specs.Ticking.Ticking}
use Rattle.table_operator.specs.Inputs.{counted_in}
use Rattle.merge_op.specs.Merged.{merged}

-- the parts of a change name rows that are there
module _ (old new : PlainTable) (parts : Parts) (kept : List KeyPair) (h : AreParts old new parts kept) where
  pub added_there : AreThere new parts.added
  added_there = subst (AreThere new) (sym h.added) (every-filter (λ key. is_among key (keys new.rows) ≡ true) _ (keys new.rows) (each_among (keys new.rows)))

  pub before_there : AreThere old parts.compared_before
  before_there =
      subst (AreThere old) (ap old_keys (sym h.compared.compared) ∙ old_keys-pairs_of parts.compared_before parts.compared_now h.compared.even)
      (every-map (λ key. is_among key (keys old.rows) ≡ true) (λ (pair : KeyPair). pair.old) _
      (every-filter (λ (pair : KeyPair). is_among pair.old (keys old.rows) ≡ true) (λ (pair : KeyPair). is_among pair.new parts.compared_now) kept
      (every_unmapped (λ key. is_among key (keys old.rows) ≡ true) (λ (pair : KeyPair). pair.old) kept h.tick.of_old)))

  pub now_there : AreThere new parts.compared_now
  now_there =
      subst (AreThere new) (ap new_keys (sym h.compared.compared) ∙ new_keys-pairs_of parts.compared_before parts.compared_now h.compared.even)
      (every-map (λ key. is_among key (keys new.rows) ≡ true) (λ (pair : KeyPair). pair.new) _
      (every-filter (λ (pair : KeyPair). is_among pair.new (keys new.rows) ≡ true) (λ (pair : KeyPair). is_among pair.new parts.compared_now) kept
      (every_unmapped (λ key. is_among key (keys new.rows) ≡ true) (λ (pair : KeyPair). pair.new) kept h.tick.of_new)))

abbrev pub added_in : List Ticking → ℕ
added_in = sum_by (λ input. length input.update.added)

abbrev pub modified_in : List Ticking → ℕ
modified_in = sum_by (λ input. length input.update.modified)

-- the rows that are read are counted
read_counted : (ts : List Ticking) → 2 * modified_in ts + added_in ts ≤ counted_in ts
read_counted [] = omega arith
read_counted (t ∷ ts) =
    within (length t.update.removed) (length t.update.added) (length t.update.modified) (modified_in ts) (added_in ts) (counted_in ts) (modified_in (t ∷ ts)) (added_in (t ∷ ts)) (counted_in (t ∷ ts)) (read_counted ts)
    (sum_by-cons (λ (input : Ticking). length input.update.modified) t ts) (sum_by-cons (λ (input : Ticking). length input.update.added) t ts) (sum_by-cons (λ (input : Ticking). counted input.update) t ts)
  where
    within : (removed added changed modifieds addeds counts modified_all added_all count : ℕ) → 2 * modifieds + addeds ≤ counts → modified_all ≡ changed + modifieds → added_all ≡ added + addeds → count ≡ (removed + added + 2 * changed) + counts → 2 * modified_all + added_all ≤ count
    within removed added changed modifieds addeds counts modified_all added_all count h a b c = omega (arith, h, a, b, c)

pub reads_few : (count width first second modified added : ℕ) (ts : List Ticking) (output : Update) → second ≤ first + width * (2 * modified + added) → modified ≡ modified_in ts → added ≡ added_in ts → second ≤ first + 4 * (count * width + width) * (counted_in ts + counted output)
reads_few count width first second modified added ts output h a b = within count width first second (2 * modified + added) (counted_in ts) (counted output) h (let few : 2 * modified + added ≤ counted_in ts = omega (arith, read_counted ts, a, b) in few)
  where
    within : (count width first second read inputs outputs : ℕ) → second ≤ first + width * read → read ≤ inputs → second ≤ first + 4 * (count * width + width) * (inputs + outputs)
    within count width first second read inputs outputs h few = omega (arith, h, mul-le-mul_left width few)

pub merged_width : (width : ℕ) (ts : List Ticking) → AllByRecursion (λ t. t.new.width ≡ width) ts → 0 < length ts → width ≡ (merged ts).new.width
merged_width width [] h some = absurd (omega (arith, some))
merged_width width (t ∷ ts) h some = sym h.0
