-- Choices that callers may make: each call at the last step, and what they have kept in the end.
use Rattle.std.proofs.Common.{◌≡◌, refl, sym, ap, ◌∙◌, subst, ℕ, zero, suc, ◌+◌, ◌<◌, ◌≤◌, arith, length, List, [], ◌∷◌, get_or, replicate}
use Rattle.std.{specs.Prelude.map, specs.List.AllByRecursion, proofs.lemmas.List.{get_or-replicate, length-map, length-replicate}}
use Rattle.tick_model.{specs.declared.feed.Run.Run, specs.Choices.{IsCalls, IsChoice, NeverFalls}}
use Rattle.replay.{specs.declared.readers.KeptSnapshot.KeptSnapshot, specs.Snapshots.{AreLast, all_steps, steps_of}}

all_same : {X : Type 0} (P : X → Type 0) (n : ℕ) (x : X) → P x → AllByRecursion P (replicate n x)
all_same P zero x here = tt
all_same P (suc n) x here = (here, all_same P n x here)

same_never_falls : (n step : ℕ) → NeverFalls (replicate n step)
same_never_falls zero step = tt
same_never_falls (suc n) step = (all_same (λ later. step ≤ later) n step (omega arith), same_never_falls n step)

module _ (callers snaps last : ℕ) where
  calls_at_last : IsCalls snaps last (replicate (snaps + 1) last)
  calls_at_last = record {
    count = length-replicate (snaps + 1) last;
    never_falls = same_never_falls (snaps + 1) last;
    none_past = all_same (λ step. step ≤ last) (snaps + 1) last (omega arith);
    ends = get_or-replicate (snaps + 1) snaps last 0 (omega arith);
  }

  pub may_be_last : IsChoice callers snaps last (replicate callers (replicate (snaps + 1) last))
  may_be_last = record {
    count = length-replicate callers (replicate (snaps + 1) last);
    each = all_same (IsCalls snaps last) callers (replicate (snaps + 1) last) calls_at_last;
  }

pub choice_kept : (run : Run) (callers snaps last : ℕ) (all : List (List KeptSnapshot)) → length all ≡ callers → AreLast run snaps last 0 all → IsChoice callers snaps last (all_steps all)
choice_kept run callers snaps last all count ends = record { count = length-map all steps_of ∙ count; each = each_calls 0 all ends }
  where
    each_calls : (caller : ℕ) (all : List (List KeptSnapshot)) → AreLast run snaps last caller all → AllByRecursion (IsCalls snaps last) (all_steps all)
    each_calls caller [] ends = tt
    each_calls caller (kept ∷ others) ends = (ends.0.calls, each_calls (caller + 1) others ends.1)
