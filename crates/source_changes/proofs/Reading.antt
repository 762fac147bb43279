-- Rows of a step that are read.
use Rattle.std.proofs.Common.{◌≡◌, refl, ap, sym, ◌∙◌, subst, Option, Bool, true, false, cond, ◌||◌, ◌==◌, ℕ, ◌<◌, ◌^◌, List, [], ◌∷◌, map, ℤ, Some, None, not, true≢false, unwrap_or}
use Rattle.std.{specs.Prelude.{find, option_map}, specs.List.AllByRecursion, specs.Option.option_or, proofs.lemmas.Bool.{and_parts, eqb-true}, proofs.lemmas.Option.none-some, proofs.lemmas.List.map-id}
use Rattle.key_lists.{specs.Keys.{is_among, without}, proofs.Among.{among-filter, each_among, of_among}, proofs.Every.{every_weaker, map_map}}
use Rattle.tick_laws.{specs.Checked.keys_after, specs.Replaced.no_update}
use Rattle.tick_model.{specs.declared.table.PlainRow.PlainRow, specs.declared.table.PlainTable.PlainTable, specs.Shifts.{as_key, moved}, specs.Sources.unchanged, specs.Tables.{IsTable, cells_at, keys, row_at}, specs.Updates.Update}
use Rattle.source_changes.{specs.Stepping.{IsStepping, Stepping, cells_now, key_before, now_of, row_now, ticked}, proofs.Standing.stands_unchanged, proofs.Ticked.{stepping, tick_is}}

pub none_of : {X : Type 0} (o : Option X) → ((x : X) → o ≡ Some x → ⊥) → o ≡ None
none_of None h = refl
none_of (Some x) h = absurd (h x refl)

module _ (step : Stepping) (key : ℕ) where
  made_at : (ks : List ℕ) → is_among key ks ≡ true → cells_at key (map (row_now step) ks) ≡ cells_now step key
  made_at [] h = absurd (true≢false (sym h))
  made_at (k ∷ ks) h =
      (elim (k == key) as (λ b. (k == key) ≡ b → (b || is_among key ks) ≡ true → unwrap_or (option_map (λ (row : PlainRow). row.cells) (cond b (Some (row_now step k)) (row_at key (map (row_now step) ks)))) [] ≡ cells_now step key) [
        | true ↦ λ e h. ap (cells_now step) (eqb-true k key e)
        | false ↦ λ e h. made_at ks h
      ]) refl h

  keys_now : keys (now_of step).rows ≡ keys_after (keys step.old.rows) step.update
  keys_now = map_map (λ (row : PlainRow). row.key) (row_now step) (keys_after (keys step.old.rows) step.update) ∙ map-id (keys_after (keys step.old.rows) step.update)

  module _ (here : is_among key (keys (now_of step).rows) ≡ true) where
    cells_are : cells_at key (now_of step).rows ≡ cells_now step key
    cells_are = made_at (keys_after (keys step.old.rows) step.update) (ap (is_among key) (sym keys_now) ∙ here)

    pub now_told : (cells : List ℤ) → Some cells ≡ option_map (λ (row : PlainRow). row.cells) (row_at key step.told) → cells_at key (now_of step).rows ≡ cells
    now_told cells e = cells_are ∙ ap (λ o. unwrap_or (option_or o (option_map (λ old. cells_at old step.old.rows) (key_before step key))) []) (sym e)

    untold : None ≡ option_map (λ (row : PlainRow). row.cells) (row_at key step.told) → cells_at key (now_of step).rows ≡ unwrap_or (option_map (λ old. cells_at old step.old.rows) (key_before step key)) []
    untold e = cells_are ∙ ap (λ o. unwrap_or (option_or o (option_map (λ old. cells_at old step.old.rows) (key_before step key))) []) (sym e)

    pub now_before : (old : ℕ) → None ≡ option_map (λ (row : PlainRow). row.cells) (row_at key step.told) → Some old ≡ key_before step key → cells_at key (now_of step).rows ≡ cells_at old step.old.rows
    now_before old e f = untold e ∙ ap (λ o. unwrap_or (option_map (λ old. cells_at old step.old.rows) o) []) (sym f)

    pub now_none : None ≡ option_map (λ (row : PlainRow). row.cells) (row_at key step.told) → None ≡ key_before step key → cells_at key (now_of step).rows ≡ []
    now_none e f = untold e ∙ ap (λ o. unwrap_or (option_map (λ old. cells_at old step.old.rows) o) []) (sym f)

    pub key_small : AllByRecursion (λ k. k < 2 ^ 62) (keys_after (keys step.old.rows) step.update) → key < 2 ^ 62
    key_small small = of_among (λ k. k < 2 ^ 62) key (keys_after (keys step.old.rows) step.update) small (ap (is_among key) (sym keys_now) ∙ here)

  found_in : (P : ℕ → Type 0) (test : ℕ → Bool) (ks : List ℕ) (old : ℕ) → AllByRecursion P ks → Some old ≡ find test ks → P old
  found_in P test [] old h e = absurd (none-some old (sym e))
  found_in P test (k ∷ ks) old h e =
      (elim (test k) as (λ b. Some old ≡ cond b (Some k) (find test ks) → P old) [
        | true ↦ λ e. subst (λ o. some_has o) (sym e) h.0
        | false ↦ λ e. found_in P test ks old h.1 e
      ]) e
    where
      some_has : Option ℕ → Type 0
      some_has None = ⊥
      some_has (Some x) = P x

  pub before_there : (old : ℕ) → Some old ≡ key_before step key → is_among old (keys step.old.rows) ≡ true
  before_there old e =
      found_in (λ k. is_among k (keys step.old.rows) ≡ true) (λ old. is_among (as_key (moved step.update.shifted old)) (key ∷ [])) (without step.update.removed (keys step.old.rows)) old
      (every_weaker (λ k. is_among k (without step.update.removed (keys step.old.rows)) ≡ true) (λ k. is_among k (keys step.old.rows) ≡ true) (without step.update.removed (keys step.old.rows))
      (λ k own. (and_parts (not (is_among k step.update.removed)) (is_among k (keys step.old.rows)) (sym (among-filter (λ k. not (is_among k step.update.removed)) k (keys step.old.rows)) ∙ own)).1)
      (each_among (without step.update.removed (keys step.old.rows)))) e

-- a source that no block has changed
pub new_step : (table : PlainTable) (update : Update) (told : List PlainRow) → IsTable table → update ≡ no_update → told ≡ [] → let step : Stepping = record { old = table; update = update; told = told } in IsStepping step × (ticked step ≡ unchanged table)
new_step table update told h u t =
    subst (λ update. let step : Stepping = record { old = table; update = update; told = told } in IsStepping step × (ticked step ≡ unchanged table)) (sym u)
    (subst (λ told. let step : Stepping = record { old = table; update = no_update; told = told } in IsStepping step × (ticked step ≡ unchanged table)) (sym t)
    (stepping (unchanged table) fresh (stands_unchanged table h), sym (tick_is (unchanged table) fresh (stands_unchanged table h))))
  where
    fresh : Stepping
    fresh = record { old = table; update = no_update; told = [] }
