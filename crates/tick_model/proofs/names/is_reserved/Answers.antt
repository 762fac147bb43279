use Rattle.std.proofs.Common.{List, ℕ, Bor, rules, tests}
use Rattle.std.{proofs.lemmas.Iterator.YieldsList-from_slice, proofs.lemmas.Iterator.Search.any_from_yields_List}
use Rattle.tick_model.specs.Names.{same_name}
use Rattle.tick_model.proofs.names.is_reserved.Goals as goal

pub returns : goal.returns
returns c = let h = c.iter.ensures.rest in any_from_yields_List (λ (w : Bor (List ℕ)). same_name c.args.word.now w.now) _ _ _ c.any.ensures.ran (YieldsList-from_slice _ h) (λ x b q k. search (rules, tests))
