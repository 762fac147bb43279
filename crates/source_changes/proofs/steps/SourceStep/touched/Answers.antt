use Rattle.std.proofs.Common.{◌≡◌, ap, sym, ◌∙◌, subst, ℕ, ◌^◌, None, List}
use Rattle.tick_model.{specs.Rules.update_fault, specs.Tables.keys}
use Rattle.source_changes.{specs.Stepping.{Stepping, ticked}, proofs.Standing.first_applies}
use Rattle.source_changes.proofs.steps.SourceStep.touched.Goals as goal

pub modified_before-requires : goal.modified_before-requires
modified_before-requires c =
    ap (λ (ks : List ℕ). update_fault (2 ^ 62) ks c.self.inside.update) c.rows.ensures.keys
    ∙ subst (λ (step : Stepping). update_fault (2 ^ 62) (keys step.old.rows) step.update ≡ None) (sym c.self.view_is) (first_applies (ticked c.args.self.now) c.args.self.now c.requires)
