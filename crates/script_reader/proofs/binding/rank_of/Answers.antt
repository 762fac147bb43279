use Rattle.std.proofs.Common.{Ok, Err, rules, tests}
use Rattle.std.{proofs.lemmas.Fn.always_returns_same, specs.Ordering.nat_cmp, specs.Cmp.Lexicographic.slice_cmp}
use Rattle.script_reader.proofs.Ranked.{ranked}
use Rattle.script_reader.proofs.binding.rank_of.Goals as goal

pub returns-in-Ok : goal.returns-in-Ok
returns-in-Ok c =
    ranked c.args.text.now c.args.texts.now (Ok c.in-Ok.rank) c.requires c.in-Ok.ensures.bound (c.in-Ok.ensures.position (λ other. slice_cmp nat_cmp other c.args.text.now) (always_returns_same _ _ _ (λ a r q k. search (rules, tests))))

pub returns-in-Err : goal.returns-in-Err
returns-in-Err c =
    ranked c.args.text.now c.args.texts.now (Err c.in-Err.field-0) c.requires c.in-Err.ensures.bound (c.in-Err.ensures.position (λ other. slice_cmp nat_cmp other c.args.text.now) (always_returns_same _ _ _ (λ a r q k. search (rules, tests))))
