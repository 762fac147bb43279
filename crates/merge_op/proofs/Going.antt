-- What is gathered of the first inputs, where others are still to come.
use Rattle.std.proofs.Common.{◌≡◌, refl, ap, ap₂, sym, ◌∙◌, subst, Bool, true, false, cond, ℕ, ◌+◌, ◌-◌, ◌<◌, ◌≤◌, ◌^◌, arith, lt-ltb, inl, inr, List, [], ◌∷◌, ◌++◌, map, length, append_assoc, ℤ, pos, ◌+ℤ◌, ◌-ℤ◌}
use Rattle.std.{specs.Prelude.{nat_lt, sum_by}, specs.List.AllByRecursion, proofs.lemmas.Bool.cases_lt, proofs.lemmas.Int.ints, proofs.lemmas.List.{append-nil, length-append, length-map}, proofs.lemmas.List.Sums.sum_by-cons}
use Rattle.key_lists.{specs.Keys.{is_among, without}, proofs.Among.{each_among, of_among}, proofs.Every.{every_both, every_unmapped, every_weaker, every-append, every-filter, every-map}, proofs.Parts.every_back}
use Rattle.shown_rows.proofs.Restricted.{is_modified, modified_new}
use Rattle.tick_model.{specs.declared.update.KeyPair.KeyPair, specs.declared.update.ShiftRange.ShiftRange, specs.Shifts.delta_at, specs.Tables.keys, specs.Updates.{IsTick, Update, new_keys, old_keys}}
use Rattle.tick_table.{specs.Exact.IsExact, specs.Ticking.Ticking}
use Rattle.merge_op.{specs.Merged.merged, specs.Regions.{IsStart, in_regions, moves, room_before, room_now, starts_of}, specs.Steps.IsStep, proofs.Apart.{AreBelow, all_plus}, proofs.Moving.{move_others, moves_are}, proofs.Paired.{modified_before, modified_now}, proofs.Ranged.delta_behind, proofs.Ticked.{below_kept_before, keys-news, keys-olds, keys_before, keys_now, kept_of}}
use Rattle.tick_laws.{proofs.Merged.below_region, proofs.PrintedChanges.table_keys}

abbrev pub removed_of : Ticking → List ℕ
removed_of t = t.update.removed

abbrev pub added_of : Ticking → List ℕ
added_of t = t.update.added

pub record IsGathered (ts rest : List Ticking) (o n : ℕ) (removed added before now : List ℕ) (shift : List ShiftRange) : Type 0 where
  pub removed_is : removed ++ in_regions removed_of room_before o rest ≡ in_regions removed_of room_before 0 ts
  pub added_is : added ++ in_regions added_of room_now n rest ≡ in_regions added_of room_now 0 ts
  pub before_is : before ++ in_regions modified_before room_before o rest ≡ in_regions modified_before room_before 0 ts
  pub now_is : now ++ in_regions modified_now room_now n rest ≡ in_regions modified_now room_now 0 ts
  pub removed_below : AllByRecursion (λ key. key < o) removed
  pub added_below : AllByRecursion (λ key. key < n) added
  pub before_below : AllByRecursion (λ key. key < o) before
  pub now_below : AllByRecursion (λ key. key < n) now
  pub shift_below : AllByRecursion (λ range. range.end < o) shift
  pub agrees : (key : ℕ) → key < o → key < 2 ^ 62 → IsStep (moves 0 0 ts key) → delta_at shift key ≡ moves 0 0 ts key
  pub others : (key : ℕ) → o ≤ key → moves 0 0 ts key ≡ moves o n rest key
  pub starts : AllByRecursion IsStart (starts_of o n rest)
  pub small_before : AllByRecursion (λ key. key < 2 ^ 62) (in_regions keys_before room_before o rest)
  pub small_now : AllByRecursion (λ key. key < 2 ^ 62) (in_regions keys_now room_now n rest)

pub gathered_none : (ts : List Ticking) → IsTick (merged ts) → AllByRecursion IsStart (starts_of 0 0 ts) → IsGathered ts ts 0 0 [] [] [] [] []
gathered_none ts tick starts = record {
  removed_is = refl;
  added_is = refl;
  before_is = refl;
  now_is = refl;
  removed_below = tt;
  added_below = tt;
  before_below = tt;
  now_below = tt;
  shift_below = tt;
  agrees = λ key less. absurd (omega (arith, less));
  others = λ key past. refl;
  starts = starts;
  small_before = subst (AllByRecursion (λ key. key < 2 ^ 62)) (keys-olds 0 ts) (table_keys (merged ts).old tick.old_table);
  small_now = subst (AllByRecursion (λ key. key < 2 ^ 62)) (keys-news 0 ts) (table_keys (merged ts).new tick.new_table);
}

-- the rows that an exact input touches are below the ends of its regions
among_below : (room : ℕ) (all some : List ℕ) → AllByRecursion (λ k. k < room) all → AllByRecursion (λ k. is_among k all ≡ true) some → AllByRecursion (λ k. k < room) some
among_below room all some h among = every_weaker (λ k. is_among k all ≡ true) (λ k. k < room) some (λ k own. of_among (λ k. k < room) k all h own) among

module _ (t : Ticking) (e : IsExact t) where
  pub removed_below : AllByRecursion (λ k. k < room_before t) (removed_of t)
  removed_below = subst (λ (update : Update). AllByRecursion (λ k. k < room_before t) update.removed) (sym e.update) (every-filter (λ k. k < room_before t) _ (keys t.old.rows) (below_region t.old e.tick.old_table.rising))

  pub added_below : AllByRecursion (λ k. k < room_now t) (added_of t)
  added_below = subst (λ (update : Update). AllByRecursion (λ k. k < room_now t) update.added) (sym e.update) (every-filter (λ k. k < room_now t) _ (keys t.new.rows) (below_region t.new e.tick.new_table.rising))

  pub before_below : AllByRecursion (λ k. k < room_before t) (modified_before t)
  before_below = every-filter (λ k. k < room_before t) _ (without t.update.removed (keys t.old.rows)) (every-filter (λ k. k < room_before t) _ (keys t.old.rows) (below_region t.old e.tick.old_table.rising))

  pub now_below : AllByRecursion (λ k. k < room_now t) (modified_now t)
  now_below =
      subst (AllByRecursion (λ k. k < room_now t)) (sym (modified_new t e))
      (every-map (λ k. k < room_now t) (λ (pair : KeyPair). pair.new) _
      (every-filter (λ (pair : KeyPair). pair.new < room_now t) (is_modified t e) (kept_of t)
      (every_unmapped (λ k. k < room_now t) (λ (pair : KeyPair). pair.new) (kept_of t) (among_below (room_now t) (keys t.new.rows) (new_keys (kept_of t)) (below_region t.new e.tick.new_table.rising) e.tick.of_new))))

-- and they are rows of the input
module _ (t : Ticking) (e : IsExact t) where
  pub removed_there : AllByRecursion (λ k. is_among k (keys t.old.rows) ≡ true) (removed_of t)
  removed_there = subst (λ (update : Update). AllByRecursion (λ k. is_among k (keys t.old.rows) ≡ true) update.removed) (sym e.update) (every-filter (λ k. is_among k (keys t.old.rows) ≡ true) _ (keys t.old.rows) (each_among (keys t.old.rows)))

  pub added_there : AllByRecursion (λ k. is_among k (keys t.new.rows) ≡ true) (added_of t)
  added_there = subst (λ (update : Update). AllByRecursion (λ k. is_among k (keys t.new.rows) ≡ true) update.added) (sym e.update) (every-filter (λ k. is_among k (keys t.new.rows) ≡ true) _ (keys t.new.rows) (each_among (keys t.new.rows)))

  pub before_there : AllByRecursion (λ k. is_among k (keys t.old.rows) ≡ true) (modified_before t)
  before_there = every-filter (λ k. is_among k (keys t.old.rows) ≡ true) _ (without t.update.removed (keys t.old.rows)) (every-filter (λ k. is_among k (keys t.old.rows) ≡ true) _ (keys t.old.rows) (each_among (keys t.old.rows)))

  pub now_there : AllByRecursion (λ k. is_among k (keys t.new.rows) ≡ true) (modified_now t)
  now_there =
      subst (AllByRecursion (λ k. is_among k (keys t.new.rows) ≡ true)) (sym (modified_new t e))
      (every-map (λ k. is_among k (keys t.new.rows) ≡ true) (λ (pair : KeyPair). pair.new) _
      (every-filter (λ (pair : KeyPair). is_among pair.new (keys t.new.rows) ≡ true) (is_modified t e) (kept_of t)
      (every_unmapped (λ k. is_among k (keys t.new.rows) ≡ true) (λ (pair : KeyPair). pair.new) (kept_of t) e.tick.of_new)))

pub small_part : (offset : ℕ) (all some : List ℕ) → AllByRecursion (λ key. key + offset < 2 ^ 62) all → AllByRecursion (λ k. is_among k all ≡ true) some → AllByRecursion (λ key. key + offset < 2 ^ 62) some
small_part offset all some h among = every_weaker (λ k. is_among k all ≡ true) (λ key. key + offset < 2 ^ 62) some (λ k own. of_among (λ key. key + offset < 2 ^ 62) k all h own) among

pub small_plus : (offset : ℕ) (xs : List ℕ) → AllByRecursion (λ key. key < 2 ^ 62) (map (λ key. key + offset) xs) → AllByRecursion (λ key. key + offset < 2 ^ 62) xs
small_plus offset xs h = every_unmapped (λ key. key < 2 ^ 62) (λ key. key + offset) xs h

pub all_now_below : (ts : List Ticking) → AllByRecursion IsExact ts → AreBelow room_now modified_now ts
all_now_below ts e = every_weaker IsExact (λ t. AllByRecursion (λ k. k < room_now t) (modified_now t)) ts (λ t x. now_below t x) e

-- keys that are put behind others
behind_is : (part : Ticking → List ℕ) (room : Ticking → ℕ) (from : ℕ) (t : Ticking) (rest : List Ticking) (so_far new whole : List ℕ) → so_far ++ in_regions part room from (t ∷ rest) ≡ whole → new ≡ so_far ++ map (λ key. key + from) (part t) → new ++ in_regions part room (from + room t) rest ≡ whole
behind_is part room from t rest so_far new whole is new_is =
    ap (λ ks. ks ++ in_regions part room (from + room t) rest) new_is ∙ append_assoc so_far (map (λ key. key + from) (part t)) (in_regions part room (from + room t) rest) ∙ is

behind_below : (from room : ℕ) (so_far more new : List ℕ) → AllByRecursion (λ key. key < from) so_far → AllByRecursion (λ key. key < room) more → new ≡ so_far ++ map (λ key. key + from) more → AllByRecursion (λ key. key < from + room) new
behind_below from room so_far more new h k new_is =
    subst (AllByRecursion (λ key. key < from + room)) (sym new_is)
    (every-append (λ key. key < from + room) so_far (map (λ key. key + from) more) (every_weaker (λ key. key < from) (λ key. key < from + room) so_far (λ key less. omega (arith, less)) h) (all_plus from room more k))

pub gathered_next : (ts rest : List Ticking) (t : Ticking) (o n : ℕ) (removed added before now removed' added' before' now' : List ℕ) (shift shift' : List ShiftRange) → IsExact t → IsGathered ts (t ∷ rest) o n removed added before now shift
    → removed' ≡ removed ++ map (λ key. key + o) (removed_of t) → added' ≡ added ++ map (λ key. key + n) (added_of t)
    → before' ≡ before ++ map (λ key. key + o) (modified_before t) → now' ≡ now ++ map (λ key. key + n) (modified_now t)
    → AllByRecursion (λ range. range.end < o + room_before t) shift'
    → ((key : ℕ) → key < o → delta_at shift' key ≡ delta_at shift key)
    → ((key : ℕ) → o ≤ key → key < o + room_before t → key < 2 ^ 62 → IsStep (delta_at t.update.shifted (key - o) +ℤ (pos n -ℤ pos o)) → delta_at shift' key ≡ delta_at t.update.shifted (key - o) +ℤ (pos n -ℤ pos o))
    → IsGathered ts rest (o + room_before t) (n + room_now t) removed' added' before' now' shift'
gathered_next ts rest t o n removed added before now removed' added' before' now' shift shift' e h r a b w below earlier moved = record {
  removed_is = behind_is removed_of room_before o t rest removed removed' (in_regions removed_of room_before 0 ts) h.removed_is r;
  added_is = behind_is added_of room_now n t rest added added' (in_regions added_of room_now 0 ts) h.added_is a;
  before_is = behind_is modified_before room_before o t rest before before' (in_regions modified_before room_before 0 ts) h.before_is b;
  now_is = behind_is modified_now room_now n t rest now now' (in_regions modified_now room_now 0 ts) h.now_is w;
  removed_below = behind_below o (room_before t) removed (removed_of t) removed' h.removed_below (removed_below t e) r;
  added_below = behind_below n (room_now t) added (added_of t) added' h.added_below (added_below t e) a;
  before_below = behind_below o (room_before t) before (modified_before t) before' h.before_below (before_below t e) b;
  now_below = behind_below n (room_now t) now (modified_now t) now' h.now_below (now_below t e) w;
  shift_below = below;
  agrees = λ key less small step.
      elim (cases_lt key o) [
        | inl early ↦ earlier key early ∙ h.agrees key early small step
        | inr late ↦
            let own : moves 0 0 ts key ≡ delta_at t.update.shifted (key - o) +ℤ (pos n -ℤ pos o) =
            h.others key late ∙ ap (λ b. cond b (delta_at t.update.shifted (key - o) +ℤ (pos n -ℤ pos o)) (moves (o + room_before t) (n + room_now t) rest key)) (lt-ltb key (o + room_before t) less) in
            moved key late less small (subst IsStep own step) ∙ sym own
      ];
  others = λ key past. h.others key (omega (arith, past)) ∙ move_others o n t rest key past;
  starts = h.starts.1;
  small_before = every_back (λ key. key < 2 ^ 62) (map (λ key. key + o) (keys_before t)) (in_regions keys_before room_before (o + room_before t) rest) h.small_before;
  small_now = every_back (λ key. key < 2 ^ 62) (map (λ key. key + n) (keys_now t)) (in_regions keys_now room_now (n + room_now t) rest) h.small_now;
}

-- a row that stays moves by a step
step_of : (k l : ℕ) (by : ℤ) → k < 2 ^ 62 → l < 2 ^ 62 → pos l -ℤ pos k ≡ by → IsStep by
step_of k l by a b is = record { up = omega (arith, ints, a, b, is); down = omega (arith, ints, a, b, is) }

-- once all inputs are gathered, the shift moves the rows that stay as the merge does
pub all_agree : (ts : List Ticking) (o n : ℕ) (removed added before now : List ℕ) (shift : List ShiftRange) → AllByRecursion IsExact ts → IsTick (merged ts) → IsGathered ts [] o n removed added before now shift → AllByRecursion (λ key. delta_at shift key ≡ moves 0 0 ts key) (old_keys (merged ts).kept)
all_agree ts o n removed added before now shift e tick h =
    every-map (λ key. delta_at shift key ≡ moves 0 0 ts key) (λ (pair : KeyPair). pair.old) (merged ts).kept
    (every_both (λ (pair : KeyPair). (pair.old < 2 ^ 62) × (pair.new < 2 ^ 62)) (λ (pair : KeyPair). pos pair.new -ℤ pos pair.old ≡ moves 0 0 ts pair.old) (λ (pair : KeyPair). delta_at shift pair.old ≡ moves 0 0 ts pair.old) (merged ts).kept
    (λ pair small by.
    elim (cases_lt pair.old o) [
      | inl less ↦ h.agrees pair.old less small.0 (step_of pair.old pair.new (moves 0 0 ts pair.old) small.0 small.1 by)
      | inr past ↦
          delta_behind shift pair.old (every_weaker (λ (range : ShiftRange). range.end < o) (λ (range : ShiftRange). range.end < pair.old) shift (λ range less. omega (arith, less, past)) h.shift_below)
          ∙ sym (h.others pair.old past)
    ])
    (every_both (λ (pair : KeyPair). pair.old < 2 ^ 62) (λ (pair : KeyPair). pair.new < 2 ^ 62) (λ (pair : KeyPair). (pair.old < 2 ^ 62) × (pair.new < 2 ^ 62)) (merged ts).kept (λ pair a b. (a, b))
    (every_unmapped (λ key. key < 2 ^ 62) (λ (pair : KeyPair). pair.old) (merged ts).kept (among_small (keys (merged ts).old.rows) (old_keys (merged ts).kept) (table_keys (merged ts).old tick.old_table) tick.of_old))
    (every_unmapped (λ key. key < 2 ^ 62) (λ (pair : KeyPair). pair.new) (merged ts).kept (among_small (keys (merged ts).new.rows) (new_keys (merged ts).kept) (table_keys (merged ts).new tick.new_table) tick.of_new)))
    (moves_are 0 0 ts e (below_kept_before ts e)))
  where
    among_small : (all some : List ℕ) → AllByRecursion (λ k. k < 2 ^ 62) all → AllByRecursion (λ k. is_among k all ≡ true) some → AllByRecursion (λ k. k < 2 ^ 62) some
    among_small all some h among = every_weaker (λ k. is_among k all ≡ true) (λ k. k < 2 ^ 62) some (λ k own. of_among (λ k. k < 2 ^ 62) k all h own) among

pub length-regions : (part : Ticking → List ℕ) (room : Ticking → ℕ) (from : ℕ) (ts : List Ticking) → length (in_regions part room from ts) ≡ sum_by (λ t. length (part t)) ts
length-regions part room from [] = refl
length-regions part room from (t ∷ ts) =
    length-append (map (λ key. key + from) (part t)) (in_regions part room (from + room t) ts)
    ∙ ap₂ (λ a b. a + b) (length-map (part t) (λ key. key + from)) (length-regions part room (from + room t) ts)
    ∙ sym (sum_by-cons (λ t. length (part t)) t ts)

pub gathered_whole : (xs whole : List ℕ) → xs ++ [] ≡ whole → xs ≡ whole
gathered_whole xs whole is = sym (append-nil xs) ∙ is
