-- The touched groups whose first row stays the first.
use Rattle.std.proofs.Common.{◌≡◌, refl, ap, ap₂, sym, ◌∙◌, subst, Bool, true, false, not, cond, ◌&&◌, ℕ, ◌+◌, ◌^◌, ◌<◌, ◌≤◌, arith, List, [], ◌∷◌, ◌++◌, map, filter, length, take, Option, Some, None, ℤ, if◌then◌else◌}
use Rattle.std.{specs.Cmp.Rules.signed_items, specs.List.AllByRecursion, proofs.lemmas.Bool.and_parts, proofs.lemmas.List.{append-nil, length-append, length-map, map-append}, proofs.lemmas.List.Elements.filter-append, proofs.lemmas.Option.same_Some}
use Rattle.key_lists.{specs.Keys.{is_among, IsRising, without}, proofs.Among.{among-filter, each_among, of_among}, proofs.Every.{every_both, every_weaker, every-filter, every-map, filter-map, filter_filter, filter_passes}, proofs.Rising.rising_some, proofs.Parts.{every_front, take_front}}
use Rattle.row_set.proofs.Windows.{rising_before}
use Rattle.shift_data.{proofs.Lawful.{lawful, not_past}, proofs.ByRange.moves_up}
use Rattle.shown_rows.proofs.Restricted.{exact_shift}
use Rattle.tick_model.{specs.Agg.{agg_table, aggregate}, specs.declared.plan.Agg.Agg, specs.declared.table.PlainRow.PlainRow, specs.declared.update.KeyPair.KeyPair, specs.Rules.is_past, specs.Shifts.{as_key, moved}, specs.Tables.{cell, cells_at, keys, same_cells, IsRow}, specs.Updates.{kept_pair, new_keys, old_keys}}
use Rattle.tick_table.{specs.Exact.IsExact, specs.Ticking.Ticking}
use Rattle.agg_by.{specs.Kept.group_rows, specs.Steps.{first_keys, is_touched, key_at, stays, touched_firsts}, proofs.FirstKeys.first_keys_rise, proofs.GroupParts.rising_moved, proofs.GroupRows.{cells-agg, first_at}}

pub same_turned : (xs ys : List ℤ) → same_cells xs ys ≡ same_cells ys xs
same_turned xs ys = cases (same_cells xs ys) (same_cells ys xs) refl refl
  where
    cases : (a b : Bool) → same_cells xs ys ≡ a → same_cells ys xs ≡ b → a ≡ b
    cases true b e f = sym ((signed_items ys xs).1 (sym ((signed_items xs ys).0 e))) ∙ f
    cases false true e f = sym e ∙ (signed_items xs ys).1 (sym ((signed_items ys xs).0 f))
    cases false false e f = refl

pub is_false : {b : Bool} → not b ≡ true → b ≡ false
is_false {b = true} h = sym h
is_false {b = false} h = refl

-- what is chosen where something is chosen
pub chosen_is : {X : Type 0} (b : Bool) (x y : X) → Some y ≡ (if b then Some x else None) → (b ≡ true) × (x ≡ y)
chosen_is true x y e = (refl, same_Some _ _ (sym e))
chosen_is {X = X} false x y e = absurd (cc)

pub none_chosen : {X : Type 0} (b : Bool) (x : X) → None ≡ (if b then Some x else None) → b ≡ false
none_chosen {X = X} true x e = absurd (cc)
none_chosen false x e = refl

-- of the elements that stay, each changed, those that pass a test
pub staying_map : {X Y : Type 0} (test : Y → Bool) (f : X → Y) (stay : X → Bool) (xs : List X) → filter test (map f (filter stay xs)) ≡ map f (filter (λ x. stay x && test (f x)) xs)
staying_map test f stay xs = filter-map test f (filter stay xs) ∙ ap (map f) (filter_filter (λ x. test (f x)) stay xs)

-- one element more
staying_next : {X Y : Type 0} (test : Y → Bool) (f : X → Y) (stay : X → Bool) (xs : List X) (x : X)
    → filter test (map f (filter stay (xs ++ x ∷ []))) ≡ filter test (map f (filter stay xs)) ++ map f (cond (stay x && test (f x)) (x ∷ []) [])
staying_next test f stay xs x =
    staying_map test f stay (xs ++ x ∷ []) ∙ ap (map f) (filter-append (λ x. stay x && test (f x)) xs (x ∷ []))
    ∙ map-append f (filter (λ x. stay x && test (f x)) xs) (cond (stay x && test (f x)) (x ∷ []) [])
    ∙ ap (λ ys. ys ++ map f (cond (stay x && test (f x)) (x ∷ []) [])) (sym (staying_map test f stay xs))

pub staying_one : {X Y : Type 0} (test : Y → Bool) (f : X → Y) (stay : X → Bool) (xs : List X) (x : X) (made : List Y) → (stay x && test (f x)) ≡ true → made ≡ filter test (map f (filter stay xs))
    → made ++ f x ∷ [] ≡ filter test (map f (filter stay (xs ++ x ∷ [])))
staying_one test f stay xs x made passes so_far =
    ap (λ ys. ys ++ f x ∷ []) so_far ∙ sym (staying_next test f stay xs x ∙ ap (λ b. filter test (map f (filter stay xs)) ++ map f (cond b (x ∷ []) [])) passes)

pub staying_none : {X Y : Type 0} (test : Y → Bool) (f : X → Y) (stay : X → Bool) (xs : List X) (x : X) (made : List Y) → (stay x && test (f x)) ≡ false → made ≡ filter test (map f (filter stay xs))
    → made ≡ filter test (map f (filter stay (xs ++ x ∷ [])))
staying_none test f stay xs x made fails so_far =
    so_far ∙ sym (staying_next test f stay xs x ∙ ap (λ b. filter test (map f (filter stay xs)) ++ map f (cond b (x ∷ []) [])) fails ∙ append-nil (filter test (map f (filter stay xs))))

-- what is told of a row of which it is known whether it stays
pub pair_when : (by : List ℕ) (t : Ticking) (old : ℕ) (found : Option KeyPair) (b : Bool) → (not (is_among old t.update.removed) && stays by t (kept_pair t.update old)) ≡ b → found ≡ (if b then Some (kept_pair t.update old) else None)
    → found ≡ (if not (is_among old t.update.removed) && stays by t (kept_pair t.update old) then Some (kept_pair t.update old) else None)
pair_when by t old found b when is = is ∙ sym (ap (λ b. if b then Some (kept_pair t.update old) else None) when)

pub all_three : (r m s : Bool) → r ≡ false → m ≡ true → s ≡ true → (not r && (m && s)) ≡ true
all_three r m s e f g = ap₂ (λ a b. not a && b) e (ap₂ (λ a b. a && b) f g)

pub not_first : (r m s : Bool) → m ≡ false → (not r && (m && s)) ≡ false
not_first true m s f = refl
not_first false m s f = ap (λ b. b && s) f

pub not_same : (r m s : Bool) → s ≡ false → (not r && (m && s)) ≡ false
not_same true m s f = refl
not_same false true s f = f
not_same false false s f = refl

module _ (by : List ℕ) (t : Ticking) (e : IsExact t) where
  -- a first row is a row, and its key is small
  pub first_there : (key : ℕ) → is_among key (first_keys by t.old.rows) ≡ true → is_among key (keys t.old.rows) ≡ true
  first_there key own = (and_parts _ _ (sym (first_at by t.old key e.tick.old_table) ∙ own)).1

  pub small_row : (key : ℕ) → is_among key (keys t.old.rows) ≡ true → key < 2 ^ 62
  small_row key own =
      of_among (λ k. k < 2 ^ 62) key (keys t.old.rows)
      (every-map (λ k. k < 2 ^ 62) (λ (row : PlainRow). row.key) t.old.rows (every_weaker (IsRow t.old.width) (λ (row : PlainRow). row.key < 2 ^ 62) t.old.rows (λ row is. is.key) e.tick.old_table.rows)) own

  pub stays_on : (key : ℕ) → is_among key (keys t.old.rows) ≡ true → is_among key t.update.removed ≡ false → is_among key (without t.update.removed (keys t.old.rows)) ≡ true
  stays_on key there left = among-filter (λ key. not (is_among key t.update.removed)) key (keys t.old.rows) ∙ ap₂ (λ a b. not a && b) left there

  -- a row that stays lands on a key
  pub lands : (key : ℕ) → is_among key (without t.update.removed (keys t.old.rows)) ≡ true → is_past (2 ^ 62) (moved t.update.shifted key) ≡ false
  lands key own = of_among (λ key. is_past (2 ^ 62) (moved t.update.shifted key) ≡ false) key (without t.update.removed (keys t.old.rows)) (lawful t.update.shifted (without t.update.removed (keys t.old.rows)) (exact_shift t e)).inside own

  abbrev firsts : List ℕ
  firsts = touched_firsts by t t.old.rows

  pub firsts_there : AllByRecursion (λ key. is_among key (first_keys by t.old.rows) ≡ true) firsts
  firsts_there = every-filter (λ key. is_among key (first_keys by t.old.rows) ≡ true) (λ key. is_touched by t (key_at by t.old.rows key)) (first_keys by t.old.rows) (each_among (first_keys by t.old.rows))

  pub firsts_rise : IsRising firsts
  firsts_rise = rising_some (λ key. is_touched by t (key_at by t.old.rows key)) (first_keys by t.old.rows) (first_keys_rise by t.old e.tick.old_table)

  abbrev stays_first : ℕ → Bool
  stays_first key = not (is_among key t.update.removed) && stays by t (kept_pair t.update key)

  pub lands_small : (key : ℕ) → is_among key (without t.update.removed (keys t.old.rows)) ≡ true → as_key (moved t.update.shifted key) < 2 ^ 62
  lands_small key own = (not_past (2 ^ 62) (moved t.update.shifted key) (lands key own)).1

  -- those before one of them have lesser keys, before and now
  module _ (before others : List ℕ) (old : ℕ) (made : List KeyPair) (next : firsts ≡ before ++ old ∷ others) (are : made ≡ filter (stays by t) (map (kept_pair t.update) (without t.update.removed before))) where
    abbrev those : List ℕ
    those = filter stays_first before

    these : made ≡ map (kept_pair t.update) those
    these = are ∙ staying_map (stays by t) (kept_pair t.update) (λ key. not (is_among key t.update.removed)) before

    below : AllByRecursion (λ key. key < old) those
    below = every-filter (λ key. key < old) stays_first before (rising_before before old others (subst IsRising next firsts_rise))

    pub lesser_old : AllByRecursion (λ other. other < old) (old_keys made)
    lesser_old =
        subst (λ (pairs : List KeyPair). AllByRecursion (λ other. other < old) (old_keys pairs)) (sym these)
        (every-map (λ other. other < old) (λ (pair : KeyPair). pair.old) (map (kept_pair t.update) those) (every-map (λ (pair : KeyPair). pair.old < old) (kept_pair t.update) those below))

    pub lesser_new : is_among old (without t.update.removed (keys t.old.rows)) ≡ true → AllByRecursion (λ other. other < as_key (moved t.update.shifted old)) (new_keys made)
    lesser_new own =
        let land : ℕ → ℕ = λ key. as_key (moved t.update.shifted key) in
        let staying_keys : List ℕ = without t.update.removed (keys t.old.rows) in
        subst (λ (pairs : List KeyPair). AllByRecursion (λ other. other < land old) (new_keys pairs)) (sym these)
        (every-map (λ other. other < land old) (λ (pair : KeyPair). pair.new) (map (kept_pair t.update) those)
        (every-map (λ (pair : KeyPair). pair.new < land old) (kept_pair t.update) those
        (every_both (λ key. key < old) (λ key. is_among key staying_keys ≡ true) (λ key. land key < land old) those
        (λ key lesser stays. moves_up land staying_keys key old (rising_some (λ key. not (is_among key t.update.removed)) (keys t.old.rows) e.tick.old_table.rising) (rising_moved by [] t e) stays own lesser)
        below
        (every_both (λ key. is_among key (first_keys by t.old.rows) ≡ true) (λ key. stays_first key ≡ true) (λ key. is_among key staying_keys ≡ true) those
        (λ key first passes. stays_on key (first_there key first) (is_false (and_parts _ _ passes).0))
        (every-filter (λ key. is_among key (first_keys by t.old.rows) ≡ true) stays_first before (every_front (λ key. is_among key (first_keys by t.old.rows) ≡ true) before (old ∷ others) (subst (AllByRecursion (λ key. is_among key (first_keys by t.old.rows) ≡ true)) next firsts_there)))
        (filter_passes stays_first before)))))

  -- the key cells with which a noted row begins, and those of a row now
  pub has_cells : (aggs : List Agg) (old new : ℕ) (row cells : List ℤ) → is_among old (first_keys by t.old.rows) ≡ true → row ≡ cells_at old (agg_table by aggs t.old).rows → cells ≡ key_at by t.new.rows new
      → same_cells cells (take (length by) row) ≡ same_cells (key_at by t.old.rows old) (key_at by t.new.rows new)
  has_cells aggs old new row cells own noted are = ap₂ same_cells are begins ∙ same_turned (key_at by t.new.rows new) (key_at by t.old.rows old)
    where
      begins : take (length by) row ≡ key_at by t.old.rows old
      begins =
          ap₂ take (sym (length-map by (cell (cells_at old t.old.rows)))) (noted ∙ cells-agg by aggs t.old old e.tick.old_table own)
          ∙ take_front (key_at by t.old.rows old) _

  pub begins_long : (aggs : List Agg) (old : ℕ) (row : List ℤ) → is_among old (first_keys by t.old.rows) ≡ true → row ≡ cells_at old (agg_table by aggs t.old).rows → length by ≤ length row
  begins_long aggs old row own noted =
      subst (λ (n : ℕ). length by ≤ n)
      (sym (ap length (noted ∙ cells-agg by aggs t.old old e.tick.old_table own) ∙ length-append (key_at by t.old.rows old) (map (aggregate (group_rows by (key_at by t.old.rows old) t.old.rows)) aggs) ∙ ap (λ n. n + length (map (aggregate (group_rows by (key_at by t.old.rows old) t.old.rows)) aggs)) (length-map by (cell (cells_at old t.old.rows)))))
      (omega arith)

  pub touched_first : (key : ℕ) → is_among key (touched_firsts by t t.new.rows) ≡ true → is_among key (first_keys by t.new.rows) ≡ true
  touched_first key own = (and_parts _ _ (sym (among-filter (λ key. is_touched by t (key_at by t.new.rows key)) key (first_keys by t.new.rows)) ∙ own)).1
