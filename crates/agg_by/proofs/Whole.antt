-- A whole step: what is kept before it, and what it reads.
use Rattle.std.proofs.Common.{◌≡◌, refl, ap, ap₂, sym, ◌∙◌, subst, Bool, true, false, not, cond, ℕ, suc, ◌+◌, ◌*◌, ◌≤◌, arith, List, [], ◌∷◌, map, filter, length, None}
use Rattle.std.{specs.List.{AllByRecursion, list_any}, proofs.lemmas.Bool.and_parts, proofs.lemmas.List.{length-append, length-map}, proofs.Math.Nat.mul-le-mul_left}
use Rattle.key_lists.{specs.Keys.{is_among, IsRising, without}, proofs.Among.each_among, proofs.Every.{every_unmapped, every_weaker, every-filter, every-map, filter_passes}, proofs.Rising.{as_filter, rising-filter, rising_some}}
use Rattle.row_changes.specs.Parts.{AreThere}
use Rattle.row_groups.specs.Members.{Grouped, Numbered, groups_of}
use Rattle.row_set.proofs.United.{length-united}
use Rattle.shown_rows.proofs.Restricted.{kept, modified_even}
use Rattle.table_update.specs.Kept.{old_modified}
use Rattle.tick_model.{specs.Agg.agg_table, specs.declared.plan.Agg.Agg, specs.declared.table.PlainRow.PlainRow, specs.declared.table.PlainTable.PlainTable, specs.declared.update.KeyPair.KeyPair, specs.Tables.{keys, IsTable}, specs.Updates.{kept_pair, new_keys}}
use Rattle.tick_table.{specs.Exact.{IsExact, counted}, specs.Ticking.Ticking}
use Rattle.agg_by.{specs.Aggregator.IsColumn, specs.declared.kept.AggIndex.AggIndex, specs.declared.running.Accumulator.Accumulator, specs.declared.running.Accumulator.TheVariants.{Count, Sum, Min, Max, First, Last}, specs.Answers.IsWithin, specs.Kept.{AnswerAll, Are, IsMade, Keeps, agg_of, indexed}, specs.Steps.{come, first_keys, gone, is_touched, key_at, starts, staying, stays, touched_cells, touched_firsts}, proofs.FirstKeys.{few_firsts, first_keys_rise, firsts_are}, proofs.GroupParts.{staying_is, touched}, proofs.GroupRows.keys-agg}

within_one : (width : ℕ) (running : Accumulator) → IsColumn width (agg_of running) → IsWithin width running
within_one width Count h = tt
within_one width (Sum column sums) h = tt
within_one width (Min column index) h = tt
within_one width (Max column index) h = tt
within_one width (First column) h = h
within_one width (Last column) h = h

-- the columns that are read are the table's
pub within_all : (width : ℕ) (aggs : List Agg) (running : List Accumulator) → map agg_of running ≡ aggs → AllByRecursion (IsColumn width) aggs → AllByRecursion (IsWithin width) running
within_all width aggs running are columns =
    every_weaker (λ running. IsColumn width (agg_of running)) (IsWithin width) running (within_one width)
    (every_unmapped (IsColumn width) agg_of running (subst (AllByRecursion (IsColumn width)) (sym are) columns))

-- what is kept where all is begun
pub begun_keeps : (old new : AggIndex) (rows : List PlainRow) → IsMade old new → new.rows ≡ old.rows → ((rows : List PlainRow) → Are old.by old.rows.names old.aggs rows old.running.items → AnswerAll old.by old.rows.names old.aggs rows new.running.items)
    → groups_of old.rows ≡ indexed old.by None rows → Are old.by old.rows.names old.aggs rows old.running.items → Keeps new rows
begun_keeps old new rows made same begun indexed_rows are = record {
  rows = ap groups_of same ∙ indexed_rows ∙ ap (λ by. indexed by None rows) (sym made.by);
  running = subst (λ (by : List ℕ). AnswerAll by new.rows.names new.aggs rows new.running.items) (sym made.by)
      (subst (λ (aggs : List Agg). AnswerAll old.by new.rows.names aggs rows new.running.items) (sym made.aggs) (subst (λ (kept : Numbered). AnswerAll old.by kept.names old.aggs rows new.running.items) (sym same) (begun rows are)));
}

-- the touched rows are counted
touched_count : (t : Ticking) → IsExact t → length (gone t) + length (come t) ≤ counted t.update
touched_count t e =
    omega (arith, length-united t.update.removed (old_modified (keys t.old.rows) t.update), length-united t.update.added t.update.modified, modified_even t e)

-- the reads of noting, of bringing on, and of the operator's step
pub noted_reads : (width own come firsts all first second third : ℕ) → second ≤ first + width * come → third ≤ second + own * firsts → come ≤ all → firsts ≤ all → third ≤ first + (width + own) * all
noted_reads width own come firsts all first second third h k few fewer = omega (arith, h, k, mul-le-mul_left width few, mul-le-mul_left own fewer)

pub wider_reads : (width own first last all out : ℕ) → last ≤ first + 3 * (width + own) * all → last ≤ first + 4 * (width + own) * (all + out)
wider_reads width own first last all out h = omega (arith, h)

touched_few : (by : List ℕ) (t : Ticking) → length (touched_cells by t) ≡ length (gone t) + length (come t)
touched_few by t =
    length-append (map (key_at by t.old.rows) (gone t)) (map (key_at by t.new.rows) (come t))
    ∙ ap₂ (λ m n. m + n) (length-map (gone t) (key_at by t.old.rows)) (length-map (come t) (key_at by t.new.rows))

-- there are no more of them than of the counted rows
pub firsts_few : (by : List ℕ) (t : Ticking) → IsExact t → (rows : Numbered) (firsts : List ℕ) → IsRising firsts → ((first : ℕ) → is_among first firsts ≡ list_any (starts rows.members first) (touched_cells by t)) → length firsts ≤ counted t.update
firsts_few by t e rows firsts rising found = omega (arith, few_firsts rows.members (touched_cells by t) firsts rising found, touched_few by t, touched_count t e)

-- the reads of a whole step, as far as it goes: its groups are noted, they are brought on, and their change is made
module _ (t : Ticking) (e : IsExact t) (own first second third : ℕ) (noted : second ≤ first + (t.new.width + own) * counted t.update) (brought : third ≤ second + t.new.width * counted t.update) where
  pub brought_reads : third ≤ first + 3 * (t.new.width + own) * counted t.update
  brought_reads = omega (arith, noted, brought)

  pub changed_reads : (before begun after : AggIndex) → IsMade before begun → IsMade begun after → own ≡ length before.by + length before.aggs → (firsts : List ℕ) → IsRising firsts
      → ((first : ℕ) → is_among first firsts ≡ list_any (starts after.rows.members first) (touched_cells begun.by t)) → (fourth : ℕ) → fourth ≤ third + 2 * length after.aggs * length firsts → fourth ≤ first + 3 * (t.new.width + own) * counted t.update
  changed_reads before begun after made brought_on wide firsts rising found fourth h =
      omega (arith, noted, brought, h, mul-le-mul_left (length after.aggs) (firsts_few begun.by t e after.rows firsts rising found), mul-le-mul_left (counted t.update) few)
    where
      few : length after.aggs ≤ own
      few = omega (arith, wide, ap length (brought_on.aggs ∙ made.aggs))

-- what is found among the rows by what is kept of them
pub found_firsts : (by : List ℕ) (t : Ticking) (table : PlainTable) → IsTable table → (index : Grouped) (firsts : List ℕ) → index ≡ indexed by None table.rows → IsRising firsts
    → ((first : ℕ) → is_among first firsts ≡ list_any (starts index.members first) (touched_cells by t)) → firsts ≡ touched_firsts by t table.rows
found_firsts by t table is index firsts are rising found =
    firsts_are by table is (touched_cells by t) firsts rising (λ first. found first ∙ ap (λ (index : Grouped). list_any (starts index.members first) (touched_cells by t)) are)

-- the rows of the touched groups are there
pub touched_there : (by : List ℕ) (aggs : List Agg) (t : Ticking) (table : PlainTable) → AreThere (agg_table by aggs table) (touched_firsts by t table.rows)
touched_there by aggs t table =
    every-filter (λ key. is_among key (keys (agg_table by aggs table).rows) ≡ true) (λ key. is_touched by t (key_at by table.rows key)) (first_keys by table.rows)
    (subst (λ ks. AllByRecursion (λ key. is_among key (keys (agg_table by aggs table).rows) ≡ true) ks) (keys-agg by aggs table) (each_among (keys (agg_table by aggs table).rows)))

module _ (by : List ℕ) (aggs : List Agg) (t : Ticking) (e : IsExact t) where
  staying_among : AllByRecursion (λ key. is_among key (touched_firsts by t t.new.rows) ≡ true) (new_keys (staying by t))
  staying_among =
      every-map (λ key. is_among key (touched_firsts by t t.new.rows) ≡ true) (λ (pair : KeyPair). pair.new) (staying by t)
      (every_weaker (λ pair. stays by t pair ≡ true) (λ pair. is_among pair.new (touched_firsts by t t.new.rows) ≡ true) (staying by t) (λ pair h. (and_parts _ _ h).0)
      (filter_passes (stays by t) (map (kept_pair t.update) (without t.update.removed (touched_firsts by t t.old.rows)))))

  staying_rise : IsRising (new_keys (staying by t))
  staying_rise = subst (λ (pairs : List KeyPair). IsRising (new_keys pairs)) (sym (staying_is by aggs t e)) (rising-filter (λ (pair : KeyPair). pair.new) (touched by aggs t e) (kept t e) e.tick.rising_new)

  -- the first rows that are compared, and those that come, are the touched ones
  pub read_few : length (new_keys (staying by t)) + length (without (new_keys (staying by t)) (touched_firsts by t t.new.rows)) ≡ length (touched_firsts by t t.new.rows)
  read_few =
      ap (λ (ks : List ℕ). length ks + length (without (new_keys (staying by t)) (touched_firsts by t t.new.rows)))
      (sym (as_filter (new_keys (staying by t)) (touched_firsts by t t.new.rows) staying_rise (rising_some (λ key. is_touched by t (key_at by t.new.rows key)) (first_keys by t.new.rows) (first_keys_rise by t.new e.tick.new_table)) staying_among))
      ∙ parted (λ key. is_among key (new_keys (staying by t))) (touched_firsts by t t.new.rows)
    where
      next : (a b n : ℕ) → a + b ≡ n → suc a + b ≡ suc n
      next a b n h = omega (arith, h)

      behind : (a b n : ℕ) → a + b ≡ n → a + suc b ≡ suc n
      behind a b n h = omega (arith, h)

      parted : (p : ℕ → Bool) (xs : List ℕ) → length (filter p xs) + length (filter (λ x. not (p x)) xs) ≡ length xs
      parted p [] = refl
      parted p (x ∷ xs) =
          elim (p x) as (λ b. length (cond b (x ∷ filter p xs) (filter p xs)) + length (cond (not b) (x ∷ filter (λ x. not (p x)) xs) (filter (λ x. not (p x)) xs)) ≡ suc (length xs)) [
            | true ↦ next (length (filter p xs)) (length (filter (λ x. not (p x)) xs)) (length xs) (parted p xs)
            | false ↦ behind (length (filter p xs)) (length (filter (λ x. not (p x)) xs)) (length xs) (parted p xs)
          ]

-- the reads of a change
pub change_reads : (aggs first last compared added firsts : ℕ) → last ≤ first + aggs * (2 * compared + added) → compared + added ≡ firsts → last ≤ first + 2 * aggs * firsts
change_reads aggs first last compared added firsts h few = omega (arith, h, mul-le-mul_left aggs most)
  where
    most : 2 * compared + added ≤ 2 * firsts
    most = omega (arith, few)
