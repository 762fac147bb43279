-- The rows that a step takes out or changes are there before, and those that it adds are there now.
use Rattle.std.proofs.Common.{◌≡◌, ap, sym, ◌∙◌, subst, true, not, filter}
use Rattle.std.{specs.List.AllByRecursion, proofs.lemmas.Bool.and_parts}
use Rattle.key_lists.{specs.Keys.{is_among, IsRising}, proofs.Among.{among-filter, each_among}, proofs.Every.{every_weaker, every-filter, every-map, every_unmapped}, proofs.Rising.rising_some}
use Rattle.shown_rows.proofs.Restricted.{is_modified, kept, modified_old}
use Rattle.table_update.specs.Kept.{old_modified}
use Rattle.tick_model.{specs.declared.update.KeyPair.KeyPair, specs.Tables.keys, specs.Updates.{Update, new_keys, old_keys}}
use Rattle.tick_table.{specs.Exact.IsExact, specs.Ticking.Ticking}

module _ (t : Ticking) (e : IsExact t) where
  pub removed_there : AllByRecursion (λ key. is_among key (keys t.old.rows) ≡ true) t.update.removed
  removed_there =
      every_weaker (λ key. is_among key t.update.removed ≡ true) (λ key. is_among key (keys t.old.rows) ≡ true) t.update.removed
      (λ key own. (and_parts _ _ (sym (among-filter (λ key. not (is_among key (old_keys (kept t e)))) key (keys t.old.rows)) ∙ sym (ap (λ (update : Update). is_among key update.removed) e.update) ∙ own)).1)
      (each_among t.update.removed)

  pub rising_removed : IsRising t.update.removed
  rising_removed = subst (λ (update : Update). IsRising update.removed) (sym e.update) (rising_some (λ key. not (is_among key (old_keys (kept t e)))) (keys t.old.rows) e.tick.old_table.rising)

  pub changed_there : AllByRecursion (λ key. is_among key (keys t.old.rows) ≡ true) (old_modified (keys t.old.rows) t.update)
  changed_there =
      subst (AllByRecursion (λ key. is_among key (keys t.old.rows) ≡ true)) (sym (modified_old t e))
      (every-map (λ key. is_among key (keys t.old.rows) ≡ true) (λ (pair : KeyPair). pair.old) (filter (is_modified t e) (kept t e))
      (every-filter (λ pair. is_among pair.old (keys t.old.rows) ≡ true) (is_modified t e) (kept t e)
      (every_unmapped (λ key. is_among key (keys t.old.rows) ≡ true) (λ (pair : KeyPair). pair.old) (kept t e) e.tick.of_old)))

  pub added_there : AllByRecursion (λ key. is_among key (keys t.new.rows) ≡ true) t.update.added
  added_there =
      every_weaker (λ key. is_among key t.update.added ≡ true) (λ key. is_among key (keys t.new.rows) ≡ true) t.update.added
      (λ key own. (and_parts _ _ (sym (among-filter (λ key. not (is_among key (new_keys (kept t e)))) key (keys t.new.rows)) ∙ sym (ap (λ (update : Update). is_among key update.added) e.update) ∙ own)).1)
      (each_among t.update.added)
