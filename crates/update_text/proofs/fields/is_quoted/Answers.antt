use Rattle.std.proofs.Common.{rules, tests}
use Rattle.std.{proofs.lemmas.Iterator.Search.any_from_yields_List, proofs.lemmas.Iterator.YieldsList-from_slice}
use Rattle.tick_model.specs.Texts.{needs_quotes}
use Rattle.update_text.proofs.fields.is_quoted.Goals as goal

pub returns : goal.returns
returns c = any_from_yields_List needs_quotes _ _ _ c.any.ensures.ran (YieldsList-from_slice c.args.field.now cc) (λ x b q k. search (rules, tests))
