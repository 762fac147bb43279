-- What was gathered of a source, and an update that is joined to it or waits.
use Rattle.std.proofs.Common.{◌≡◌, ap, sym, ◌∙◌, subst, Option, ℕ, ◌^◌, List, [], Some, None, inl, inr}
use Rattle.std.{specs.Prelude.{OnOk, Result, Ok, Err}, proofs.lemmas.Option.none-some}
use Rattle.row_set.specs.Sets.{IsKeySet}
use Rattle.table_update.specs.Coalesced.{Follow, coalesced}
use Rattle.tick_laws.specs.Checked.{keys_after}
use Rattle.tick_model.{specs.Rules.update_fault, specs.Updates.Update}
use Rattle.source_changes.{specs.declared.gathering.PendingUpdate.PendingUpdate, specs.Stepping.update_after, specs.Waiting.{AreSets, IsGathered, MayFollow, MayWait, joined, keys_with}, proofs.Settled.{settled_applies, settled_keys, settled_plain}, proofs.Waited.{both_joined, both_waits}}

abbrev pub made : List ℕ → Update → Option Update → PendingUpdate
made keys update waiting = record { keys = keys; update = update; waiting = waiting }

module _ (old : List ℕ) (old_set : IsKeySet old) (keys : List ℕ) (update : Update) where
  module _ (next : Update) (h : IsGathered old (made keys update None)) (sets : AreSets next) (applies : update_fault (2 ^ 62) keys next ≡ None) where
    follows : update_fault (2 ^ 62) (keys_after old update) next ≡ None
    follows = subst (λ ks. update_fault (2 ^ 62) ks next ≡ None) h.keys applies

    pub next_follows : Follow old update next
    next_follows = record { applies = h.applies; follows = follows }

    pub next_keys : keys_after keys next ≡ keys_after old (update_after old update next)
    next_keys =
        ap (λ ks. keys_after ks next) h.keys
        ∙ sym (settled_keys old update next h.applies follows old_set h.sets.added h.sets.modified sets.removed sets.added sets.modified)

    pub next_joins : next.columns ≡ [] → AreSets (update_after old update next) → IsGathered old (made (keys_after keys next) (update_after old update next) None)
    next_joins plain after_sets = record {
      keys = next_keys;
      plain = settled_plain old update next h.applies follows old_set h.sets.added h.sets.modified sets.removed sets.added sets.modified h.plain plain;
      applies = settled_applies old update next h.applies follows old_set h.sets.added h.sets.modified sets.removed sets.added sets.modified;
      waits = tt;
      sets = after_sets;
      waiting_sets = tt;
    }

    pub next_waits : next.shifted ≡ [] → next.columns ≡ [] → IsGathered old (made keys update (Some next))
    next_waits still plain = record {
      keys = h.keys;
      plain = h.plain;
      applies = h.applies;
      waits = record { still = still; plain = plain; applies = applies };
      sets = h.sets;
      waiting_sets = sets;
    }

  module _ (waiting : Update) (h : IsGathered old (made keys update (Some waiting))) where
    -- without the update that waits
    pub before_waiting : IsGathered old (made keys update None)
    before_waiting = record { keys = h.keys; plain = h.plain; applies = h.applies; waits = tt; sets = h.sets; waiting_sets = tt }

    module _ (next : Update) (sets : AreSets next) (still : next.shifted ≡ []) (plain : next.columns ≡ []) (applies : update_fault (2 ^ 62) (keys_after keys waiting) next ≡ None) where
      waits_old : MayWait (keys_after old update) waiting
      waits_old = subst (λ ks. MayWait ks waiting) h.keys h.waits

      applies_old : update_fault (2 ^ 62) (keys_after (keys_after old update) waiting) next ≡ None
      applies_old = subst (λ ks. update_fault (2 ^ 62) (keys_after ks waiting) next ≡ None) h.keys applies

      pub both_follow : Follow keys waiting next
      both_follow = record { applies = h.waits.applies; follows = applies }

      pub both_wait : AreSets (coalesced keys waiting next) → IsGathered old (made keys update (Some (coalesced keys waiting next)))
      both_wait both_sets = record {
        keys = h.keys;
        plain = h.plain;
        applies = h.applies;
        waits =
            subst (λ ks. MayWait ks (coalesced ks waiting next)) (sym h.keys)
            (both_waits old update waiting next h.applies waits_old applies_old still plain h.plain old_set h.sets.added h.sets.modified h.waiting_sets.removed h.waiting_sets.added h.waiting_sets.modified sets.removed sets.added sets.modified);
        sets = h.sets;
        waiting_sets = both_sets;
      }

      pub both_join : update_after old update (coalesced keys waiting next) ≡ update_after old (update_after old update waiting) next
      both_join =
          ap (λ ks. update_after old update (coalesced ks waiting next)) h.keys
          ∙ both_joined old update waiting next h.applies waits_old applies_old still plain h.plain old_set h.sets.added h.sets.modified h.waiting_sets.removed h.waiting_sets.added h.waiting_sets.modified sets.removed sets.added sets.modified

  -- the keys of now
  pub keys_joined : (waiting : Option Update) → IsGathered old (made keys update waiting) → keys_with keys waiting ≡ keys_after old (joined old update waiting)
  keys_joined None h = h.keys
  keys_joined (Some waiting) h = next_keys waiting (before_waiting waiting h) h.waiting_sets h.waits.applies

-- two facts that hold where a call ends well
pub on_both : {X E A B C : Type 0} (r : Result X E) → OnOk r A → OnOk r B → (A → B → C) → OnOk r C
on_both (Ok x) a b f = f a b
on_both (Err e) a b f = tt

-- an update follows one that waits only where it moves nothing
pub still_behind : (waiting next : Update) → MayFollow (Some waiting) next → next.shifted ≡ []
still_behind waiting next (inl e) = absurd (none-some waiting (sym e))
still_behind waiting next (inr still) = still
