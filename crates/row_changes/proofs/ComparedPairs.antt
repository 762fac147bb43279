-- Which rows an operator compares: those under some keys of its input's rows that stay.
use Rattle.std.proofs.Common.{◌≡◌, refl, ap, ap₂, sym, ◌∙◌, subst, Bool, true, false, cond, ◌||◌, ◌==◌, ℕ, List, [], ◌∷◌, filter, length, true≢false}
use Rattle.std.specs.List.{AllByRecursion}
use Rattle.key_lists.{specs.Keys.{is_among, IsRising, without}, proofs.Among.{among_own, each_among}, proofs.Every.{every_weaker, every_both, every-map, every_unmapped, every-filter, filter-map, map_map, map_own, every}, proofs.Rising.{as_filter, rising-filter}}
use Rattle.shift_data.specs.Moves.{pairs_of, unapplied}
use Rattle.table_update.specs.Kept.{old_modified}
use Rattle.tick_model.{specs.declared.table.PlainTable.PlainTable, specs.declared.update.KeyPair.KeyPair, specs.Tables.keys, specs.Updates.{Update, differs, kept_pair, new_keys, old_keys, pairs}}
use Rattle.tick_table.{specs.Exact.IsExact, specs.Ticking.Ticking, proofs.TableColumns.length-mapped}
use Rattle.row_changes.{specs.Parts.AreCompared, proofs.Comparing.pairs_of-keys}

-- what one choice of pairs leaves out and another does not
pub compared_carried : (old new old' new' : PlainTable) (kept : List KeyPair) (before now : List ℕ) → AreCompared old new kept before now → AllByRecursion (λ pair. differs old new pair ≡ false → differs old' new' pair ≡ false) kept → AreCompared old' new' kept before now
compared_carried old new old' new' kept before now c carried = record {
  even = c.even;
  compared = c.compared;
  others =
      every_both (λ (pair : KeyPair). is_among pair.new now ≡ false → differs old new pair ≡ false) (λ pair. differs old new pair ≡ false → differs old' new' pair ≡ false) (λ pair. is_among pair.new now ≡ false → differs old' new' pair ≡ false) kept
      (λ pair f g e. g (f e)) c.others carried;
}

-- the rows that stay under new keys, with the old keys that lead to these: they are compared where the others do not differ
pub compared_at : (table : PlainTable) (update : Update) (old new : PlainTable) (now : List ℕ) → IsRising (new_keys (pairs table update)) → IsRising now → AllByRecursion (λ key. is_among key (new_keys (pairs table update)) ≡ true) now
    → AllByRecursion (λ pair. is_among pair.new now ≡ false → differs old new pair ≡ false) (pairs table update)
    → AreCompared old new (pairs table update) (unapplied update.shifted (without update.removed (keys table.rows)) now) now
compared_at table update old new now rising r there others = record {
  even = ap length olds ∙ length-mapped (λ (pair : KeyPair). pair.old) these ∙ sym (length-mapped (λ (pair : KeyPair). pair.new) these) ∙ sym (ap length news);
  compared = ap₂ pairs_of olds news ∙ pairs_of-keys these;
  others = others;
}
  where
    these : List KeyPair
    these = filter (λ pair. is_among pair.new now) (pairs table update)

    olds : unapplied update.shifted (without update.removed (keys table.rows)) now ≡ old_keys these
    olds =
        sym (ap old_keys (filter-map (λ (pair : KeyPair). is_among pair.new now) (kept_pair update) (without update.removed (keys table.rows)))
        ∙ map_map (λ (pair : KeyPair). pair.old) (kept_pair update) (unapplied update.shifted (without update.removed (keys table.rows)) now)
        ∙ map_own (λ key. key) (unapplied update.shifted (without update.removed (keys table.rows)) now) (every (λ key. key ≡ key) (unapplied update.shifted (without update.removed (keys table.rows)) now) (λ key. refl)))

    news : now ≡ new_keys these
    news = sym (as_filter now (new_keys (pairs table update)) r rising there) ∙ filter-map (λ key. is_among key now) (λ (pair : KeyPair). pair.new) (pairs table update)

-- a pair whose new key is not that of a chosen one is not chosen
pub not_chosen : (p : KeyPair → Bool) (pairs : List KeyPair) → AllByRecursion (λ pair. is_among pair.new (new_keys (filter p pairs)) ≡ false → p pair ≡ false) pairs
not_chosen p [] = tt
not_chosen p (pair ∷ pairs) = (
  here,
  every_weaker (λ (other : KeyPair). is_among other.new (new_keys (filter p pairs)) ≡ false → p other ≡ false) (λ other. is_among other.new (new_keys (filter p (pair ∷ pairs))) ≡ false → p other ≡ false) pairs
      (λ other rest e. rest (behind other.new e)) (not_chosen p pairs),
)
  where
    here : is_among pair.new (new_keys (filter p (pair ∷ pairs))) ≡ false → p pair ≡ false
    here =
        (elim (p pair) as (λ b. is_among pair.new (new_keys (cond b (pair ∷ filter p pairs) (filter p pairs))) ≡ false → b ≡ false) [
          | true ↦ λ e. absurd (true≢false (sym (among_own pair.new (new_keys (filter p pairs))) ∙ e))
          | false ↦ λ e. refl
        ])

    behind : (key : ℕ) → is_among key (new_keys (filter p (pair ∷ pairs))) ≡ false → is_among key (new_keys (filter p pairs)) ≡ false
    behind key =
        (elim (p pair) as (λ b. is_among key (new_keys (cond b (pair ∷ filter p pairs) (filter p pairs))) ≡ false → is_among key (new_keys (filter p pairs)) ≡ false) [
          | true ↦ later (pair.new == key)
          | false ↦ λ e. e
        ])
      where
        later : (b : Bool) → (b || is_among key (new_keys (filter p pairs))) ≡ false → is_among key (new_keys (filter p pairs)) ≡ false
        later true e = absurd (true≢false e)
        later false e = e

-- the modified rows of an exact table are all that differ
pub modified_compared : (t : Ticking) → IsExact t → AreCompared t.old t.new (pairs t.old t.update) (old_modified (keys t.old.rows) t.update) t.update.modified
modified_compared t e =
    compared_at t.old t.update t.old t.new t.update.modified e.tick.rising_new
    (subst IsRising (sym told) (rising-filter (λ (pair : KeyPair). pair.new) (differs t.old t.new) (pairs t.old t.update) e.tick.rising_new))
    (subst (AllByRecursion (λ key. is_among key (new_keys (pairs t.old t.update)) ≡ true)) (sym told)
    (every-map (λ key. is_among key (new_keys (pairs t.old t.update)) ≡ true) (λ (pair : KeyPair). pair.new) (filter (differs t.old t.new) (pairs t.old t.update))
    (every-filter (λ (pair : KeyPair). is_among pair.new (new_keys (pairs t.old t.update)) ≡ true) (differs t.old t.new) (pairs t.old t.update)
    (every_unmapped (λ key. is_among key (new_keys (pairs t.old t.update)) ≡ true) (λ (pair : KeyPair). pair.new) (pairs t.old t.update) (each_among (new_keys (pairs t.old t.update)))))))
    (subst (λ modified. AllByRecursion (λ (pair : KeyPair). is_among pair.new modified ≡ false → differs t.old t.new pair ≡ false) (pairs t.old t.update)) (sym told) (not_chosen (differs t.old t.new) (pairs t.old t.update)))
  where
    told : t.update.modified ≡ new_keys (filter (differs t.old t.new) (pairs t.old t.update))
    told = ap (λ (update : Update). update.modified) e.update
