-- The keys of rows that an update brings on, and the rows under them.
use Rattle.std.proofs.Common.{ap₂, ◌≡◌, refl, ap, sym, ◌∙◌, Bool, true, false, not, ◌&&◌, ◌||◌, ℕ, ◌^◌, List, [], ◌∷◌, ℤ, None, true≢false}
use Rattle.std.{specs.Prelude.flat_map, specs.List.AllByRecursion, proofs.lemmas.Bool.{or_left, or_right}}
use Rattle.key_lists.{specs.Keys.{is_among, IsRising, without}, proofs.Among.{among-filter, each_among}, proofs.Every.every_weaker, proofs.Rising.{rising_same, rising_some}}
use Rattle.tick_model.{specs.declared.table.PlainRow.PlainRow, specs.declared.update.ShiftRange.ShiftRange, specs.Changes.rows_under, specs.Rules.{landed, update_fault}, specs.Shifts.{as_key, moved}, specs.Tables.cells_at, specs.Updates.{Update, removing, shifting}, proofs.RowLists.keys-rows_under}
use Rattle.tick_laws.{specs.Checked.{IsChecked, keys_after}, proofs.CheckedUpdates.{among-put_keys, keys_after-rise}}
use Rattle.tick_table.{specs.Placed.{paired, put_rows, stayed}, proofs.Applied.{added_new, modified_stay, not_added, places_rising}, proofs.Paired.row_of, proofs.Told.{at_put_rows, flat_map-same}}

-- rows that move are those under the keys to which they move
paired-moved : (shifts : List ShiftRange) (ks : List ℕ) (rows : List (List ℤ)) → paired (landed shifts ks) rows ≡ shifting shifts (paired ks rows)
paired-moved shifts [] rows = refl
paired-moved shifts (key ∷ ks) [] = refl
paired-moved shifts (key ∷ ks) (row ∷ rows) = ap (λ rest. row_of (as_key (moved shifts key)) row ∷ rest) (paired-moved shifts ks rows)

module _ (ks : List ℕ) (update : Update) (lawful : update_fault (2 ^ 62) ks update ≡ None) (added_rise : IsRising update.added) where
  abbrev places : List ℕ
  places = landed update.shifted (without update.removed ks)

  after_rise : IsRising (keys_after ks update)
  after_rise = let checked : IsChecked (2 ^ 62) ks update = record { breaks_none = lawful; added_rise = added_rise } in keys_after-rise (2 ^ 62) ks update checked

  pub added_there : AllByRecursion (λ key. is_among key (keys_after ks update) ≡ true) update.added
  added_there =
      every_weaker (λ key. is_among key update.added ≡ true) (λ key. is_among key (keys_after ks update) ≡ true) update.added
      (λ key own. among-put_keys key update.added places ∙ or_left (is_among key update.added) (is_among key places) own) (each_among update.added)

  pub modified_own : AllByRecursion (λ key. is_among key (keys_after ks update) ≡ true) update.modified
  modified_own =
      every_weaker (λ key. is_among key places ≡ true) (λ key. is_among key (keys_after ks update) ≡ true) update.modified
      (λ key own. among-put_keys key update.added places ∙ or_right (is_among key update.added) (is_among key places) own) (modified_stay ks update lawful)

  -- without the added keys they are those of the rows that stay
  pub keys_again : without update.added (keys_after ks update) ≡ places
  keys_again =
      rising_same (without update.added (keys_after ks update)) places
      (rising_some (λ key. not (is_among key update.added)) (keys_after ks update) after_rise) (places_rising ks update lawful)
      (λ key.
      among-filter (λ other. not (is_among other update.added)) key (keys_after ks update)
      ∙ ap (λ b. not (is_among key update.added) && b) (among-put_keys key update.added places)
      ∙ either (is_among key update.added) (is_among key places) (λ own new. true≢false (sym new ∙ added_new ks update lawful key own)))
    where
      either : (new own : Bool) → (own ≡ true → new ≡ true → ⊥) → (not new && (new || own)) ≡ own
      either true true apart = absurd (apart refl refl)
      either true false apart = refl
      either false own apart = refl

  -- a modified row is none of those that are added
  pub saved_before : (width : ℕ) (cells : List ℤ) (rows : List PlainRow)
      → flat_map (λ key. cells_at key (put_rows (rows_under width update.added cells) rows)) update.modified ≡ flat_map (λ key. cells_at key rows) update.modified
  saved_before width cells rows =
      flat_map-same (λ key. cells_at key (put_rows (rows_under width update.added cells) rows)) (λ key. cells_at key rows) update.modified
      (every_weaker (λ key. is_among key update.added ≡ false) (λ key. cells_at key (put_rows (rows_under width update.added cells) rows) ≡ cells_at key rows) update.modified
      (λ key absent. at_put_rows key (rows_under width update.added cells) rows (ap (is_among key) (keys-rows_under width update.added cells) ∙ absent)) (not_added ks update lawful))

  -- the rows that stay, and those with the added ones among them
  pub added_are : (width wide : ℕ) (cells : List ℤ) (was begun left joined : List (List ℤ)) (removed added after : List ℕ)
      → begun ≡ was → removed ≡ update.removed → added ≡ update.added → after ≡ keys_after ks update → wide ≡ width → paired (without removed ks) left ≡ removing removed (paired ks begun)
      → paired after joined ≡ put_rows (rows_under wide added cells) (paired (without added after) left) → paired after joined ≡ put_rows (rows_under width update.added cells) (stayed update (paired ks was))
  added_are width wide cells was begun left joined removed added after b r a f w taken put =
      put
      ∙ ap₂ (λ (n : ℕ) (some : List ℕ). put_rows (rows_under n some cells) (paired (without some after) left)) w a
      ∙ ap (put_rows (rows_under width update.added cells))
      (ap (λ all. paired (without update.added all) left) f
      ∙ ap (λ some. paired some left) keys_again
      ∙ paired-moved update.shifted (without update.removed ks) left
      ∙ ap (shifting update.shifted)
      (ap (λ some. paired (without some ks) left) (sym r)
      ∙ taken
      ∙ ap₂ (λ (some : List ℕ) (rows : List (List ℤ)). removing some (paired ks rows)) r b))
