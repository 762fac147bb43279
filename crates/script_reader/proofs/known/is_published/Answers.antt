use Rattle.std.proofs.Common.{◌∙◌, sym, rules, tests}
use Rattle.std.{specs.Prelude.◌==◌, proofs.lemmas.Iterator.YieldsList-from_slice, proofs.lemmas.Iterator.Search.any_from_yields_List}
use Rattle.tick_model.specs.declared.plan.Published.{Published}
use Rattle.script_reader.proofs.Places.{list_any-map}
use Rattle.script_reader.proofs.known.is_published.Goals as goal

pub returns : goal.returns
returns c =
    any_from_yields_List (λ (publication : Published). c.args.node == publication.node) _ _ _ c.any.ensures.ran (YieldsList-from_slice c.args.published.now cc) (λ x b q k. search (rules, tests))
    ∙ sym (list_any-map (λ other. c.args.node == other) (λ (publication : Published). publication.node) c.args.published.now)
