use Rattle.std.proofs.Common.{◌≡◌, ap, sym, ◌∙◌, not, ◌^◌, ℕ, inr, rules, tests}
use Rattle.std.{specs.Prelude.{find, option_map}, proofs.lemmas.Iterator.Consumers.YieldsList-from_first, proofs.lemmas.Iterator.Adapters.option_map_id, proofs.lemmas.Iterator.Search.find_from_yields_List}
use Rattle.key_lists.specs.Keys.{is_among}
use Rattle.tick_model.specs.declared.update.UpdateFault.TheVariants.{ModifiedAbsent}
use Rattle.source_changes.proofs.Behind.{absent_alone}
use Rattle.source_changes.proofs.checks.check_update.Goals as goal

pub returns-in-None-clause-ok : goal.returns-in-None-clause-ok
returns-in-None-clause-ok c =
    let keys = c.args.keys.now in
    let found : option_map (λ (key : ℕ). key) c.find.result ≡ find (λ key. not (is_among key keys)) c.modified.result.now =
    find_from_yields_List (λ key. not (is_among key keys)) _ _ c.find.result c.find.ensures.ran (YieldsList-from_first (λ key. key) (λ rest. rest) c.modified.result.now c.iter.ensures.rest) (λ x b q k. search (rules, tests)) in
    absent_alone (2 ^ 40) keys c.args.update.now (sym c.if-not-only_modifies.ensures) c.ranges-2.ensures.keys.rising c.requires
    ∙ ap (option_map ModifiedAbsent) (ap (find (λ key. not (is_among key keys))) (sym c.modified.ensures.keys) ∙ sym found ∙ option_map_id c.find.result ∙ c.in-None.is)

pub returns-in-Some-clause-fault : goal.returns-in-Some-clause-fault
returns-in-Some-clause-fault c =
    let keys = c.args.keys.now in
    let found : option_map (λ (key : ℕ). key) c.find.result ≡ find (λ key. not (is_among key keys)) c.modified.result.now =
    find_from_yields_List (λ key. not (is_among key keys)) _ _ c.find.result c.find.ensures.ran (YieldsList-from_first (λ key. key) (λ rest. rest) c.modified.result.now c.iter.ensures.rest) (λ x b q k. search (rules, tests)) in
    inr (absent_alone (2 ^ 40) keys c.args.update.now (sym c.if-not-only_modifies.ensures) c.ranges-2.ensures.keys.rising c.requires
    ∙ ap (option_map ModifiedAbsent) (ap (find (λ key. not (is_among key keys))) (sym c.modified.ensures.keys) ∙ sym found ∙ option_map_id c.find.result ∙ c.in-Some.is))
