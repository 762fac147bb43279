-- The pairs of two ticks, one after the other, are those of a tick.
use Rattle.std.proofs.Common.{◌≡◌, ap, sym, ◌∙◌, subst, ℕ, ◌<◌, ◌==◌, true, List, [], ◌∷◌, Option, Some, None}
use Rattle.std.{specs.Prelude.{find, IfSome, option_map}, specs.List.{AllByRecursion, cons_option}, proofs.lemmas.Bool.eqb-true}
use Rattle.tick_model.{specs.declared.table.PlainTable.PlainTable, specs.declared.update.KeyPair.KeyPair, specs.Tables.keys, specs.Shifts.composed, specs.Updates.{Tick, IsTick, old_keys, new_keys}}
use Rattle.key_lists.{specs.Keys.{is_among, IsRising}, proofs.Every.{every-map, every_unmapped}}
use Rattle.tick_laws.proofs.Placed.{find_has, pairs_rise}

-- a pair, led on by the one behind it
abbrev pub led : KeyPair → Option KeyPair → Option KeyPair
led pair o = option_map (λ (further : KeyPair). let leads : KeyPair = record { old = pair.old; new = further.new } in leads) o

module _ (next : List KeyPair) where
  abbrev further : KeyPair → Option KeyPair
  further pair = find (λ (other : KeyPair). other.old == pair.new) next

  -- what holds of old keys, and of the new keys behind, holds of the composed pairs
  composed-old : (P : ℕ → Type 0) (kept : List KeyPair) → AllByRecursion (λ (p : KeyPair). P p.old) kept → AllByRecursion (λ (p : KeyPair). P p.old) (composed kept next)
  composed-old P [] h = tt
  composed-old P (pair ∷ kept) h = go (further pair) (composed-old P kept h.1)
    where
      go : (o : Option KeyPair) → AllByRecursion (λ (p : KeyPair). P p.old) (composed kept next) → AllByRecursion (λ (p : KeyPair). P p.old) (cons_option (led pair o) (composed kept next))
      go None k = k
      go (Some q) k = (h.0, k)

  composed-new : (P : ℕ → Type 0) (kept : List KeyPair) → AllByRecursion (λ (q : KeyPair). P q.new) next → AllByRecursion (λ (p : KeyPair). P p.new) (composed kept next)
  composed-new P [] h = tt
  composed-new P (pair ∷ kept) h = go (further pair) (find_has (λ (q : KeyPair). P q.new) (λ (other : KeyPair). other.old == pair.new) next h) (composed-new P kept h)
    where
      go : (o : Option KeyPair) → IfSome o (λ (q : KeyPair). P q.new × ((q.old == pair.new) ≡ true)) → AllByRecursion (λ (p : KeyPair). P p.new) (composed kept next) → AllByRecursion (λ (p : KeyPair). P p.new) (cons_option (led pair o) (composed kept next))
      go None f k = k
      go (Some q) f k = (f.0, k)

  composed_rising_old : (kept : List KeyPair) → IsRising (old_keys kept) → IsRising (old_keys (composed kept next))
  composed_rising_old [] r = tt
  composed_rising_old (pair ∷ kept) r = go (further pair) (composed_rising_old kept r.1)
    where
      go : (o : Option KeyPair) → IsRising (old_keys (composed kept next)) → IsRising (old_keys (cons_option (led pair o) (composed kept next)))
      go None k = k
      go (Some q) k = (every-map (λ key. pair.old < key) (λ (p : KeyPair). p.old) (composed kept next) (composed-old (λ key. pair.old < key) kept (every_unmapped (λ key. pair.old < key) (λ (p : KeyPair). p.old) kept r.0)), k)

  -- behind a pair that leads on by q, all lead further
  composed_above : (q : KeyPair) → AllByRecursion (λ (other : KeyPair). q.old < other.old → q.new < other.new) next → (kept : List KeyPair) → AllByRecursion (λ (p : KeyPair). q.old < p.new) kept → AllByRecursion (λ (p : KeyPair). q.new < p.new) (composed kept next)
  composed_above q rise [] h = tt
  composed_above q rise (pair ∷ kept) h =
      go (further pair) (find_has (λ (other : KeyPair). q.old < other.old → q.new < other.new) (λ (other : KeyPair). other.old == pair.new) next rise) (composed_above q rise kept h.1)
    where
      go : (o : Option KeyPair) → IfSome o (λ (other : KeyPair). (q.old < other.old → q.new < other.new) × ((other.old == pair.new) ≡ true)) → AllByRecursion (λ (p : KeyPair). q.new < p.new) (composed kept next) → AllByRecursion (λ (p : KeyPair). q.new < p.new) (cons_option (led pair o) (composed kept next))
      go None f k = k
      go (Some other) f k = (f.0 (subst (λ key. q.old < key) (sym (eqb-true other.old pair.new f.1)) h.0), k)

  composed_rising_new : (kept : List KeyPair) → IsRising (new_keys kept) → AllByRecursion (λ (q : KeyPair). AllByRecursion (λ (other : KeyPair). q.old < other.old → q.new < other.new) next) next → IsRising (new_keys (composed kept next))
  composed_rising_new [] r rise = tt
  composed_rising_new (pair ∷ kept) r rise =
      go (further pair) (find_has (λ (q : KeyPair). AllByRecursion (λ (other : KeyPair). q.old < other.old → q.new < other.new) next) (λ (other : KeyPair). other.old == pair.new) next rise) (composed_rising_new kept r.1 rise)
    where
      go : (o : Option KeyPair) → IfSome o (λ (q : KeyPair). AllByRecursion (λ (other : KeyPair). q.old < other.old → q.new < other.new) next × ((q.old == pair.new) ≡ true)) → IsRising (new_keys (composed kept next)) → IsRising (new_keys (cons_option (led pair o) (composed kept next)))
      go None f k = k
      go (Some q) f k = (
        every-map (λ key. q.new < key) (λ (p : KeyPair). p.new) (composed kept next)
            (composed_above q f.0 kept (subst (λ key. AllByRecursion (λ (p : KeyPair). key < p.new) kept) (sym (eqb-true q.old pair.new f.1)) (every_unmapped (λ key. pair.new < key) (λ (p : KeyPair). p.new) kept r.0))),
        k,
      )

-- two ticks, one after the other, are a tick from the first old table to the last new one
pub composed_tick : (s t : Tick) → IsTick s → IsTick t → s.new ≡ t.old → let tick : Tick = record { old = s.old; new = t.new; kept = composed s.kept t.kept } in IsTick tick
composed_tick s t h k e = record {
  old_table = h.old_table;
  new_table = k.new_table;
  one_width = k.one_width ∙ ap (λ (table : PlainTable). table.width) (sym e) ∙ h.one_width;
  of_old = every-map (λ key. is_among key (keys s.old.rows) ≡ true) (λ (p : KeyPair). p.old) (composed s.kept t.kept) (composed-old t.kept (λ key. is_among key (keys s.old.rows) ≡ true) s.kept (every_unmapped (λ key. is_among key (keys s.old.rows) ≡ true) (λ (p : KeyPair). p.old) s.kept h.of_old));
  of_new = every-map (λ key. is_among key (keys t.new.rows) ≡ true) (λ (p : KeyPair). p.new) (composed s.kept t.kept) (composed-new t.kept (λ key. is_among key (keys t.new.rows) ≡ true) s.kept (every_unmapped (λ key. is_among key (keys t.new.rows) ≡ true) (λ (p : KeyPair). p.new) t.kept k.of_new));
  rising_old = composed_rising_old t.kept s.kept h.rising_old;
  rising_new = composed_rising_new t.kept s.kept h.rising_new (pairs_rise t.kept k.rising_old k.rising_new);
}
