-- The rows that leave an end of an exact input and those that come to it are those that the operator removes and adds.
use Rattle.std.proofs.Common.{◌≡◌, refl, ap, ap₂, sym, ◌∙◌, subst, Bool, true, false, not, ◌&&◌, ℕ, ◌-◌, List, take, drop, length}
use Rattle.std.proofs.lemmas.List.{drop-map, length-map, take-map}
use Rattle.key_lists.{specs.Keys.{is_among, without}, proofs.Among.{among-filter, each_among}, proofs.Every.{and_swap, every, every-filter, every_weaker, filter_same}, proofs.Rising.as_filter}
use Rattle.tick_model.{specs.declared.table.PlainRow.PlainRow, specs.declared.table.PlainTable.PlainTable, specs.Tables.keys, specs.Updates.{Tick, Update, between, new_keys, old_keys}}
use Rattle.tick_table.{proofs.Between.old_keys-pairs, specs.Exact.{IsExact, tick_of}, specs.Ticking.Ticking}
use Rattle.shown_rows.{specs.Shown.through, proofs.Restricted.kept}
use Rattle.head_tail.{specs.declared.end.End.End, specs.declared.end.End.TheVariants.{First, Last}, specs.Ends.{at_end, cut, end_table, ended}, proofs.Positions.AreOf, proofs.Sides.{AreSides, end_shown, shown_pairs}}

module _ (t : Ticking) (e : IsExact t) where
  abbrev before : List ℕ
  before = keys t.old.rows

  abbrev now : List ℕ
  now = keys t.new.rows

  added_are : t.update.added ≡ without (new_keys (kept t e)) now
  added_are = ap (λ (update : Update). update.added) e.update

  -- the new rows that are not added are those that stayed
  stayed : new_keys (kept t e) ≡ without t.update.added now
  stayed =
      sym (as_filter (new_keys (kept t e)) now e.tick.rising_new e.tick.new_table.rising e.tick.of_new)
      ∙ filter_same (λ key. is_among key (new_keys (kept t e))) (λ key. not (is_among key t.update.added)) now
      (every_weaker (λ key. is_among key now ≡ true) (λ key. is_among key (new_keys (kept t e)) ≡ not (is_among key t.update.added)) now
      (λ key own.
      sym (ap (λ ks. not (is_among key ks)) added_are
      ∙ ap not (among-filter (λ key. not (is_among key (new_keys (kept t e)))) key now)
      ∙ ap (λ b. not (not (is_among key (new_keys (kept t e))) && b)) own
      ∙ twice (is_among key (new_keys (kept t e)))))
      (each_among now))
    where
      twice : (b : Bool) → not (not b && true) ≡ b
      twice true = refl
      twice false = refl

  pub from_before : AreSides (λ pair. pair.old) (λ pair. pair.new) (kept t e) before t.update.removed now t.update.added
  from_before = record { here_stay = old_keys-pairs t.old t.update; there_stay = stayed; here_rise = e.tick.rising_old; there_rise = e.tick.rising_new }

  pub from_now : AreSides (λ pair. pair.new) (λ pair. pair.old) (kept t e) now t.update.added before t.update.removed
  from_now = record { here_stay = stayed; there_stay = old_keys-pairs t.old t.update; here_rise = e.tick.rising_new; there_rise = e.tick.rising_old }

  -- the rows that do not stay are rows
  pub removed_there : AreOf t.update.removed before
  removed_there = subst (λ (update : Update). AreOf update.removed before) (sym e.update) (every-filter (λ key. is_among key before ≡ true) (λ key. not (is_among key (old_keys (kept t e)))) before (each_among before))

  pub added_there : AreOf t.update.added now
  added_there = subst (λ ks. AreOf ks now) (sym added_are) (every-filter (λ key. is_among key now ≡ true) (λ key. not (is_among key (new_keys (kept t e)))) now (each_among now))

  other_way : (shown shown_now : List ℕ) → shown_pairs (λ pair. pair.old) (λ pair. pair.new) shown shown_now (kept t e) ≡ shown_pairs (λ pair. pair.new) (λ pair. pair.old) shown_now shown (kept t e)
  other_way shown shown_now =
      filter_same (λ pair. is_among pair.old shown && is_among pair.new shown_now) (λ pair. is_among pair.new shown_now && is_among pair.old shown) (kept t e)
      (every (λ pair. (is_among pair.old shown && is_among pair.new shown_now) ≡ (is_among pair.new shown_now && is_among pair.old shown)) (kept t e) (λ pair. and_swap (is_among pair.old shown) (is_among pair.new shown_now)))

  -- what leaves and what comes, where these are shown before and now
  abbrev pub leaves : List ℕ → List ℕ → List ℕ
  leaves shown shown_now = without (old_keys (shown_pairs (λ pair. pair.old) (λ pair. pair.new) shown shown_now (kept t e))) shown

  abbrev pub comes : List ℕ → List ℕ → List ℕ
  comes shown shown_now = without (new_keys (shown_pairs (λ pair. pair.old) (λ pair. pair.new) shown shown_now (kept t e))) shown_now

  comes_is : (shown shown_now : List ℕ) → comes shown shown_now ≡ without (new_keys (shown_pairs (λ pair. pair.new) (λ pair. pair.old) shown_now shown (kept t e))) shown_now
  comes_is shown shown_now = ap (λ pairs. without (new_keys pairs) shown_now) (other_way shown shown_now)

  end_keys : (end : End) (count : ℕ) (table : PlainTable) → at_end end (cut end count (length (keys table.rows))) (keys table.rows) ≡ keys (end_table end count table).rows
  end_keys First count table = take-map (λ (row : PlainRow). row.key) count table.rows
  end_keys Last count table = ap (λ n. drop (n - count) (keys table.rows)) (length-map table.rows (λ (row : PlainRow). row.key)) ∙ drop-map (λ (row : PlainRow). row.key) (length table.rows - count) table.rows

  module _ (end : End) (count : ℕ) where
    abbrev cut_before : ℕ
    cut_before = cut end count (length before)

    abbrev cut_now : ℕ
    cut_now = cut end count (length now)

    pub end_leaves : without (at_end end (length (without t.update.added (take cut_now now))) (without t.update.removed before)) (at_end end cut_before before) ≡ (between (through (end_table end count) (tick_of t))).removed
    end_leaves = sym (end_shown _ _ (kept t e) before t.update.removed now t.update.added from_before end cut_before cut_now) ∙ ap₂ leaves (end_keys end count t.old) (end_keys end count t.new)

    pub end_comes : without (at_end end (length (without t.update.removed (take cut_before before))) (without t.update.added now)) (at_end end cut_now now) ≡ (between (through (end_table end count) (tick_of t))).added
    end_comes =
        sym (comes_is (at_end end cut_before before) (at_end end cut_now now) ∙ end_shown _ _ (kept t e) now t.update.added before t.update.removed from_now end cut_now cut_before)
        ∙ ap₂ comes (end_keys end count t.old) (end_keys end count t.new)

-- the tick of the rows at an end
pub ended_is : (end : End) (count : ℕ) (tick : Tick) → through (end_table end count) tick ≡ ended end count tick
ended_is First count tick = refl
ended_is Last count tick = refl
