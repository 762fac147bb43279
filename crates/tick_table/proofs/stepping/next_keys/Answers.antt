use Rattle.std.proofs.Common.{◌≡◌, sym, ◌∙◌, subst, ◌^◌, None, List, ℕ}
use Rattle.tick_model.specs.Rules.{update_fault}
use Rattle.tick_table.proofs.stepping.next_keys.Goals as goal

pub apply_to_keys-requires : goal.apply_to_keys-requires
apply_to_keys-requires c =
    subst (λ (ks : List ℕ). update_fault (2 ^ 62) ks c.args.update.now ≡ None) (sym (c.in_ok-copy_from.ensures.keys ∙ c.requires.after)) c.requires.follow.follows
