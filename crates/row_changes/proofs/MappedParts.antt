-- Tables under the keys of an exact input.
use Rattle.std.proofs.Common.{◌≡◌, ap, sym, ◌∙◌, subst, true, ℕ, List}
use Rattle.std.specs.List.{AllByRecursion}
use Rattle.key_lists.specs.Keys.{is_among, without}
use Rattle.tick_model.{specs.declared.table.PlainTable.PlainTable, specs.Updates.{IsTick, Update, old_keys, new_keys, pairs}}
use Rattle.tick_table.{specs.Exact.{IsExact, tick_of}, specs.Ticking.Ticking}
use Rattle.row_changes.{specs.Mapped.{IsMapped, mapped_tick}, specs.Parts.{Parts, AreCompared, AreParts}}

module _ (t : Ticking) (e : IsExact t) (old new : PlainTable) (m : IsMapped (tick_of t) old new) where
  pub mapped_is_tick : IsTick (mapped_tick old new (tick_of t))
  mapped_is_tick = record {
    old_table = m.old_table;
    new_table = m.new_table;
    one_width = m.one_width;
    of_old = subst (λ ks. AllByRecursion (λ key. is_among key ks ≡ true) (old_keys (pairs t.old t.update))) (sym m.before) e.tick.of_old;
    of_new = subst (λ ks. AllByRecursion (λ key. is_among key ks ≡ true) (new_keys (pairs t.old t.update))) (sym m.now) e.tick.of_new;
    rising_old = e.tick.rising_old;
    rising_new = e.tick.rising_new;
  }

  -- the rows that go, come and move are those of the input
  pub mapped_parts : (before now : List ℕ) → AreCompared old new (pairs t.old t.update) before now
      → let parts : Parts = record { removed = t.update.removed; added = t.update.added; shifted = t.update.shifted; compared_before = before; compared_now = now } in AreParts old new parts (pairs t.old t.update)
  mapped_parts before now c = record {
    tick = mapped_is_tick;
    removed = ap (λ (update : Update). update.removed) e.update ∙ ap (without (old_keys (pairs t.old t.update))) (sym m.before);
    added = ap (λ (update : Update). update.added) e.update ∙ ap (without (new_keys (pairs t.old t.update))) (sym m.now);
    shifted = ap (λ (update : Update). update.shifted) e.update;
    compared = c;
  }
