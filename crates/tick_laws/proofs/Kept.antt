-- The pairs that operators keep are those of a tick.
use Rattle.std.proofs.Common.{◌≡◌, Bool, true, ◌&&◌, List, filter}
use Rattle.std.{specs.List.AllByRecursion, proofs.lemmas.Bool.and_parts}
use Rattle.tick_model.{specs.declared.table.PlainTable.PlainTable, specs.declared.update.KeyPair.KeyPair, specs.Tables.{keys, IsTable}, specs.Updates.{Tick, IsTick, both_in}}
use Rattle.key_lists.{specs.Keys.is_among, proofs.Every.{every_weaker, every-map, every-filter, filter_passes}, proofs.Rising.rising-filter}

-- some of the pairs of which both rows are in the results
pub some_both_in : (p : KeyPair → Bool) (input : Tick) (old new : PlainTable) → IsTick input → IsTable old → IsTable new → new.width ≡ old.width
    → let tick : Tick = record { old = old; new = new; kept = filter p (both_in old new input.kept) } in IsTick tick
some_both_in p input old new h o n w = record {
  old_table = o;
  new_table = n;
  one_width = w;
  of_old = every-map (λ key. is_among key (keys old.rows) ≡ true) (λ (pair : KeyPair). pair.old) kept (every_weaker (λ pair. both pair ≡ true) (λ (pair : KeyPair). is_among pair.old (keys old.rows) ≡ true) kept (λ pair e. (and_parts _ _ e).0) in_both);
  of_new = every-map (λ key. is_among key (keys new.rows) ≡ true) (λ (pair : KeyPair). pair.new) kept (every_weaker (λ pair. both pair ≡ true) (λ (pair : KeyPair). is_among pair.new (keys new.rows) ≡ true) kept (λ pair e. (and_parts _ _ e).1) in_both);
  rising_old = rising-filter (λ (pair : KeyPair). pair.old) p (both_in old new input.kept) (rising-filter (λ (pair : KeyPair). pair.old) both input.kept h.rising_old);
  rising_new = rising-filter (λ (pair : KeyPair). pair.new) p (both_in old new input.kept) (rising-filter (λ (pair : KeyPair). pair.new) both input.kept h.rising_new);
}
  where
    both : KeyPair → Bool
    both pair = is_among pair.old (keys old.rows) && is_among pair.new (keys new.rows)

    kept : List KeyPair
    kept = filter p (both_in old new input.kept)

    in_both : AllByRecursion (λ pair. both pair ≡ true) (filter p (both_in old new input.kept))
    in_both = every-filter (λ pair. both pair ≡ true) p (both_in old new input.kept) (filter_passes both input.kept)
