-- How the rows of a merge move: with their inputs, and with the regions of these.
use Rattle.std.proofs.Common.{◌≡◌, refl, ap, ap₂, sym, ◌∙◌, subst, Bool, true, false, cond, ℕ, ◌+◌, ◌-◌, ◌<◌, ◌≤◌, ◌^◌, arith, lt-ltb, le-ltb, List, [], ◌∷◌, ◌++◌, map, Option, Some, None, ℤ, pos, ◌+ℤ◌, ◌-ℤ◌}
use Rattle.std.{specs.Prelude.{nat_lt, IfSome, int_le}, specs.List.AllByRecursion, proofs.lemmas.Int.ints}
use Rattle.key_lists.{specs.Keys.without, proofs.Every.{every_both, every_unmapped, every-append, every-map, map_map, map_own}}
use Rattle.shift_data.{proofs.Parting.canonical_goes, specs.Moves.{IsLawful, pair_by}}
use Rattle.shown_rows.proofs.Restricted.{exact_shift}
use Rattle.tick_model.{specs.declared.update.KeyPair.KeyPair, specs.declared.update.ShiftRange.ShiftRange, specs.declared.update.UpdateFault.UpdateFault, specs.declared.update.UpdateFault.TheVariants.ShiftBreaks, specs.Merge.{merged_pairs, pair_from}, specs.Rules.{is_past, shift_fault_after}, specs.Shifts.{as_key, delta, delta_at, moved}, specs.Tables.keys, specs.Updates.{kept_pair, old_keys}}
use Rattle.tick_table.{specs.Exact.{IsExact, tick_of}, specs.Ticking.Ticking}
use Rattle.merge_op.{specs.Regions.{moves, room_before, room_now}, proofs.Apart.AreBelow, proofs.Looked.rest_past_old, proofs.Ticked.{kept_before, kept_of}}

-- each pair of an exact input tells by how much its row moves
each_moves : (t : Ticking) (e : IsExact t) → AllByRecursion (λ (pair : KeyPair). pos pair.new -ℤ pos pair.old ≡ delta_at t.update.shifted pair.old) (kept_of t)
each_moves t e = every-map (λ (pair : KeyPair). pos pair.new -ℤ pos pair.old ≡ delta_at t.update.shifted pair.old) (kept_pair t.update) (without t.update.removed (keys t.old.rows)) (canonical_goes t.update.shifted (without t.update.removed (keys t.old.rows)) (exact_shift t e)).by

moved_on : (k l o n : ℕ) (by : ℤ) → pos l -ℤ pos k ≡ by → pos (l + n) -ℤ pos (k + o) ≡ by +ℤ (pos n -ℤ pos o)
moved_on k l o n by h = omega (arith, ints, h)

-- a key of the first region
move_first : (o n : ℕ) (t : Ticking) (ts : List Ticking) (pair : KeyPair) → pair.old < room_before t → pos pair.new -ℤ pos pair.old ≡ delta_at t.update.shifted pair.old → pos (pair.new + n) -ℤ pos (pair.old + o) ≡ moves o n (t ∷ ts) (pair.old + o)
move_first o n t ts pair below by =
    let less : pair.old + o < o + room_before t = omega (arith, below) in
    let back : pair.old + o - o ≡ pair.old = omega arith in
    moved_on pair.old pair.new o n (delta_at t.update.shifted pair.old) by
    ∙ ap (λ k. delta_at t.update.shifted k +ℤ (pos n -ℤ pos o)) (sym back)
    ∙ ap (λ b. cond b (delta_at t.update.shifted (pair.old + o - o) +ℤ (pos n -ℤ pos o)) (moves (o + room_before t) (n + room_now t) ts (pair.old + o))) (sym (lt-ltb (pair.old + o) (o + room_before t) less))

-- a key of another region
pub move_others : (o n : ℕ) (t : Ticking) (ts : List Ticking) (key : ℕ) → o + room_before t ≤ key → moves o n (t ∷ ts) key ≡ moves (o + room_before t) (n + room_now t) ts key
move_others o n t ts key past = ap (λ b. cond b (delta_at t.update.shifted (key - o) +ℤ (pos n -ℤ pos o)) (moves (o + room_before t) (n + room_now t) ts key)) (le-ltb key (o + room_before t) past)

-- all pairs of the merge move so
pub moves_are : (o n : ℕ) (ts : List Ticking) → AllByRecursion IsExact ts → AreBelow room_before kept_before ts → AllByRecursion (λ (pair : KeyPair). pos pair.new -ℤ pos pair.old ≡ moves o n ts pair.old) (merged_pairs o n (map tick_of ts))
moves_are o n [] e b = tt
moves_are o n (t ∷ ts) e b =
    every-append (λ (pair : KeyPair). pos pair.new -ℤ pos pair.old ≡ moves o n (t ∷ ts) pair.old) (map (pair_from o n) (kept_of t)) (merged_pairs (o + room_before t) (n + room_now t) (map tick_of ts))
    (every-map (λ (pair : KeyPair). pos pair.new -ℤ pos pair.old ≡ moves o n (t ∷ ts) pair.old) (pair_from o n) (kept_of t)
    (every_both (λ (pair : KeyPair). pair.old < room_before t) (λ (pair : KeyPair). pos pair.new -ℤ pos pair.old ≡ delta_at t.update.shifted pair.old) (λ (pair : KeyPair). pos (pair.new + n) -ℤ pos (pair.old + o) ≡ moves o n (t ∷ ts) (pair.old + o)) (kept_of t)
    (λ pair below by. move_first o n t ts pair below by)
    (every_unmapped (λ key. key < room_before t) (λ (pair : KeyPair). pair.old) (kept_of t) b.0) (each_moves t e.0)))
    (every_both (λ (pair : KeyPair). o + room_before t ≤ pair.old) (λ (pair : KeyPair). pos pair.new -ℤ pos pair.old ≡ moves (o + room_before t) (n + room_now t) ts pair.old) (λ (pair : KeyPair). pos pair.new -ℤ pos pair.old ≡ moves o n (t ∷ ts) pair.old) (merged_pairs (o + room_before t) (n + room_now t) (map tick_of ts))
    (λ pair past by. by ∙ sym (move_others o n t ts pair.old past))
    (rest_past_old (o + room_before t) (n + room_now t) ts)
    (moves_are (o + room_before t) (n + room_now t) ts e.1 b.1))

landed_at : (k l : ℕ) (by : ℤ) → pos l -ℤ pos k ≡ by → as_key (pos k +ℤ by) ≡ l
landed_at k l by h = ap as_key (let same : pos k +ℤ by ≡ pos l = omega (arith, ints, h) in same)

-- so a shift that moves their keys by as much makes these pairs
pub pairs_by : (shifts : List ShiftRange) (pairs : List KeyPair) (by : ℕ → ℤ) → AllByRecursion (λ (pair : KeyPair). pos pair.new -ℤ pos pair.old ≡ by pair.old) pairs → AllByRecursion (λ key. delta_at shifts key ≡ by key) (old_keys pairs) → map (pair_by shifts) (old_keys pairs) ≡ pairs
pairs_by shifts pairs by are same =
    map_map (pair_by shifts) (λ (pair : KeyPair). pair.old) pairs
    ∙ map_own (λ pair. pair_by shifts pair.old) pairs
    (every_both (λ (pair : KeyPair). pos pair.new -ℤ pos pair.old ≡ by pair.old) (λ (pair : KeyPair). delta_at shifts pair.old ≡ by pair.old) (λ pair. pair_by shifts pair.old ≡ pair) pairs
    (λ pair a b. ap (λ l. let made : KeyPair = record { old = pair.old; new = l } in made) (landed_at pair.old pair.new (delta_at shifts pair.old) (a ∙ sym b)))
    are (every_unmapped (λ key. delta_at shifts key ≡ by key) (λ (pair : KeyPair). pair.old) pairs same))

-- shifts that move the same keys by as much break the same rules
pub fault_same : (limit : ℕ) (shifts others : List ShiftRange) (before : Option ℕ) (ks : List ℕ) → IfSome before (λ key. delta_at shifts key ≡ delta_at others key) → AllByRecursion (λ key. delta_at shifts key ≡ delta_at others key) ks → shift_fault_after limit shifts before ks ≡ shift_fault_after limit others before ks
fault_same limit shifts others before [] b h = refl
fault_same limit shifts others None (key ∷ ks) b h =
    ap₂ (λ z rest. cond (is_past limit (pos key +ℤ z)) (Some (ShiftBreaks key key)) rest) h.0 (fault_same limit shifts others (Some key) ks h.0 h.1)
fault_same limit shifts others (Some before) (key ∷ ks) b h =
    ap₂ (λ z rest. cond (is_past limit (pos key +ℤ z)) (Some (ShiftBreaks key key)) (cond (int_le (pos key +ℤ z) (moved shifts before)) (Some (ShiftBreaks before key)) rest)) h.0 (fault_same limit shifts others (Some key) ks h.0 h.1)
    ∙ ap (λ z. cond (is_past limit (moved others key)) (Some (ShiftBreaks key key)) (cond (int_le (moved others key) (pos before +ℤ z)) (Some (ShiftBreaks before key)) (shift_fault_after limit others (Some key) ks))) b
