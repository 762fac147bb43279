-- Rows that are compared, pair by pair.
use Rattle.std.proofs.Common.{◌≡◌, refl, ap, sym, ◌∙◌, subst, Bool, true, false, not, ℕ, suc, ◌+◌, ◌<◌, arith, ◌-◌, ◌*◌, ◌≤◌, List, [], ◌∷◌, ◌++◌, filter, length, drop, cond, ◌&&◌, ◌||◌, ◌==◌, ap₂, append_assoc, append-nil, ℤ, inl, inr, length-append, Result, Ok, Err, OnErr}
use Rattle.std.{specs.Cmp.signed_Decides, specs.Cmp.Rules.signed_items, specs.List.{AllByRecursion, range_with_len}, specs.Ordering.int_eq, specs.Prelude.{nat_lt, ◌⊎◌}, proofs.Math.Seq.drop-append_seam, proofs.lemmas.Bool.{and_right, le-ltb, ne_eqb, not-false}, proofs.lemmas.Grind.flat_map-append}
use Rattle.key_lists.{specs.Keys.IsRising, proofs.Booleans.or_false}
use Rattle.row_set.{specs.Ranges.keys_from, specs.Sets.{united, with_key}, proofs.Windows.rising_left_out}
use Rattle.shift_data.specs.Moves.{pairs_of}
use Rattle.tick_model.{specs.declared.table.PlainTable.PlainTable, specs.declared.update.KeyPair.KeyPair, specs.Tables.{cell, cells_at, same_cells}, specs.Updates.{differs, differs_in, old_keys, new_keys}}
use Rattle.row_changes.specs.Parts.{cells_under}

-- the old and the new keys of pairs, place by place
pub old_keys-pairs_of : (before now : List ℕ) → length before ≡ length now → old_keys (pairs_of before now) ≡ before
old_keys-pairs_of [] now e = refl
old_keys-pairs_of (old ∷ before) [] e = absurd (omega (arith, e))
old_keys-pairs_of (old ∷ before) (new ∷ now) e = ap (λ rest. old ∷ rest) (old_keys-pairs_of before now (omega (arith, e)))

pub new_keys-pairs_of : (before now : List ℕ) → length before ≡ length now → new_keys (pairs_of before now) ≡ now
new_keys-pairs_of [] [] e = refl
new_keys-pairs_of [] (new ∷ now) e = absurd (omega (arith, e))
new_keys-pairs_of (old ∷ before) [] e = absurd (omega (arith, e))
new_keys-pairs_of (old ∷ before) (new ∷ now) e = ap (λ rest. new ∷ rest) (new_keys-pairs_of before now (omega (arith, e)))

pub pairs_of-keys : (pairs : List KeyPair) → pairs_of (old_keys pairs) (new_keys pairs) ≡ pairs
pairs_of-keys [] = refl
pairs_of-keys (pair ∷ pairs) = ap (λ rest. pair ∷ rest) (pairs_of-keys pairs)

pub length-pairs_of : (before now : List ℕ) → length before ≡ length now → length (pairs_of before now) ≡ length now
length-pairs_of [] now e = e
length-pairs_of (old ∷ before) [] e = refl
length-pairs_of (old ∷ before) (new ∷ now) e = ap suc (length-pairs_of before now (omega (arith, e)))

-- where one of the two lists has come to its end
pub pairs_end : (before now : List ℕ) → ((u : List ℕ) × ((before ≡ []) × (u ≡ []))) ⊎ ((u : List ℕ) × ((now ≡ []) × (u ≡ []))) → pairs_of before now ≡ []
pairs_end before now h =
    elim h [
      | inl e ↦ ap (λ keys. pairs_of keys now) e.1.0
      | inr e ↦ ap (pairs_of before) e.1.0 ∙ none before
    ]
  where
    none : (keys : List ℕ) → pairs_of keys [] ≡ []
    none [] = refl
    none (key ∷ keys) = refl

-- the new keys that are told with the next pair, behind which those of the others come
pub told_next : (p : KeyPair → Bool) (pair : KeyPair) (pairs : List KeyPair) (told : List ℕ) → (told ++ new_keys (filter p (pair ∷ []))) ++ new_keys (filter p pairs) ≡ told ++ new_keys (filter p (pair ∷ pairs))
told_next p pair pairs told =
    elim (p pair) as (λ b. (told ++ new_keys (cond b (pair ∷ []) [])) ++ new_keys (filter p pairs) ≡ told ++ new_keys (cond b (pair ∷ filter p pairs) (filter p pairs))) [
      | true ↦ append_assoc told (pair.new ∷ []) (new_keys (filter p pairs))
      | false ↦ ap (λ keys. keys ++ new_keys (filter p pairs)) (append-nil told)
    ]

pub rises_next : (p : KeyPair → Bool) (pair : KeyPair) (told now : List ℕ) → IsRising (told ++ pair.new ∷ now) → IsRising ((told ++ new_keys (filter p (pair ∷ []))) ++ now)
rises_next p pair told now rises =
    elim (p pair) as (λ b. IsRising ((told ++ new_keys (cond b (pair ∷ []) [])) ++ now)) [
      | true ↦ subst IsRising (sym (append_assoc told (pair.new ∷ []) now)) rises
      | false ↦ subst (λ keys. IsRising (keys ++ now)) (sym (append-nil told)) (rising_left_out told pair.new now rises)
    ]

-- whether a column is told with the next pair, or with one of the others
pub column_next : (told less differs others : Bool) → ((told || (less && differs)) || (less && others)) ≡ (told || (less && (differs || others)))
column_next true less differs others = refl
column_next false true differs others = refl
column_next false false differs others = refl

pub column_end : (told less : Bool) → told ≡ (told || (less && false))
column_end told less = sym (ap (λ b. told || b) (and_right less false refl) ∙ or_false told)

-- the cells of the rows under more keys
pub cells_next : (table : PlainTable) (others : List ℤ) (some : List ℕ) (key : ℕ) → (others ++ cells_under table some) ++ cells_at key table.rows ≡ others ++ cells_under table (some ++ key ∷ [])
cells_next table others some key =
    append_assoc others (cells_under table some) (cells_at key table.rows)
    ∙ ap (λ cells. others ++ cells) (sym (flat_map-append (λ key. cells_at key table.rows) some (key ∷ []) ∙ ap (λ cells. cells_under table some ++ cells) (append-nil (cells_at key table.rows))))

pub cells_more : (table : PlainTable) (others cells more : List ℤ) (told added all : List ℕ) → cells ≡ others ++ cells_under table told → all ≡ told ++ added → more ≡ cells ++ cells_under table added → more ≡ others ++ cells_under table all
cells_more table others cells more told added all h a m =
    m
    ∙ ap (λ xs. xs ++ cells_under table added) h
    ∙ append_assoc others (cells_under table told) (cells_under table added)
    ∙ ap (λ xs. others ++ xs) (sym (flat_map-append (λ key. cells_at key table.rows) told added) ∙ ap (cells_under table) (sym a))

-- the reads of one more row, and of the next pair
pub reads_next : {X : Type 0} (each first so_far more : ℕ) (some : List X) (key : X) → so_far ≤ first + each * length some → more ≤ so_far + each → more ≤ first + each * length (some ++ key ∷ [])
reads_next each first so_far more some key h e = subst (λ n. more ≤ first + each * n) (sym (length-append some (key ∷ []))) (within (length some) h)
  where
    within : (n : ℕ) → so_far ≤ first + each * n → more ≤ first + each * (n + 1)
    within n h = omega (arith, h, e)

-- where one more row is read of those of a set, no more are read than all of them
pub reads_within : {X : Type 0} (each first so_far more : ℕ) (some : List X) (key : X) (others keys : List X) → keys ≡ some ++ key ∷ others → so_far ≤ first + each * length some → more ≤ so_far + each → more ≤ first + each * length keys
reads_within each first so_far more some key others keys all h e = subst (λ n. more ≤ first + each * n) (sym (ap length all ∙ length-append some (key ∷ others))) (within (length some) (length others) h)
  where
    within : (n rest : ℕ) → so_far ≤ first + each * n → more ≤ first + each * (n + suc rest)
    within n rest h = omega (arith, h, e)

pub pair_reads : (each so_far more total n : ℕ) → so_far + each * (2 * suc n) ≤ total → more ≤ so_far + each * 2 → more + each * (2 * n) ≤ total
pair_reads each so_far more total n h e = omega (arith, h, e)

-- what is true whatever a call answers is so after a refusal
pub on_err : {X E P : Type 0} (answer : Result X E) → P → OnErr answer P
on_err (Ok x) p = tt
on_err (Err e) p = p

-- a row that stands behind others
pub behind : (others row cells now : List ℤ) (start : ℕ) → cells ≡ others ++ row → start ≡ length others → now ≡ drop start cells → now ≡ row
behind others row cells now start e n b = b ∙ ap (λ k. drop k cells) n ∙ ap (drop (length others)) e ∙ drop-append_seam others row

-- whether the two rows of a pair differ
pub differs_as : (old new : PlainTable) (pair : KeyPair) (before now : List ℤ) (answer : Bool) → before ≡ cells_at pair.old old.rows → now ≡ cells_at pair.new new.rows → answer ≡ same_cells before now → differs old new pair ≡ not answer
differs_as old new pair before now answer o n e = ap not (ap₂ same_cells (sym o) (sym n) ∙ sym e)

-- rows that do not differ do not differ in a column
pub same_column : (old new : PlainTable) (column : ℕ) (pair : KeyPair) → differs old new pair ≡ false → differs_in old new column pair ≡ false
same_column old new column pair e =
    ap (λ cells. not (int_eq (cell cells column) (cell (cells_at pair.new new.rows) column))) ((signed_items (cells_at pair.old old.rows) (cells_at pair.new new.rows)).0 (not-false _ e))
    ∙ ap not ((signed_Decides (cell (cells_at pair.new new.rows) column) (cell (cells_at pair.new new.rows) column)).1 refl)

pub no_column : (old new : PlainTable) (pair : KeyPair) (width column : ℕ) (others : Bool) → differs old new pair ≡ false → others ≡ (others || (nat_lt column width && differs_in old new column pair))
no_column old new pair width column others e = sym (ap (λ b. others || b) (and_right (nat_lt column width) (differs_in old new column pair) (same_column old new column pair e)) ∙ or_false others)

-- a key above all others comes last
with_key_last : (key : ℕ) (keys : List ℕ) → AllByRecursion (λ other. other < key) keys → with_key key keys ≡ keys ++ key ∷ []
with_key_last key [] h = refl
with_key_last key (other ∷ keys) h =
    ap (λ b. cond b (key ∷ other ∷ keys) (cond (key == other) (other ∷ keys) (other ∷ with_key key keys))) (le-ltb key other (omega (arith, h.0)))
    ∙ ap (λ b. cond b (other ∷ keys) (other ∷ with_key key keys)) (ne_eqb key other (λ e. omega (arith, h.0)))
    ∙ ap (λ rest. other ∷ rest) (with_key_last key keys h.1)

pub key_last : (key : ℕ) (keys : List ℕ) → AllByRecursion (λ other. other < key) keys → united (keys_from key key) keys ≡ keys ++ key ∷ []
key_last key keys h = ap (λ n. united (range_with_len key n) keys) (let one : key + 1 - key ≡ 1 = omega arith in one) ∙ with_key_last key keys h
