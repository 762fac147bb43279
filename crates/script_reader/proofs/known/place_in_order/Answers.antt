use Rattle.std.proofs.Common.{◌≡◌, ◌∙◌, ap, length, rules, tests}
use Rattle.std.{specs.Prelude.{nat_lt, unwrap_or, position}, proofs.lemmas.Iterator.YieldsList-from_slice, proofs.lemmas.Iterator.Search.position_from_yields_List}
use Rattle.script_reader.proofs.Places.{position_or_end}
use Rattle.script_reader.proofs.known.place_in_order.Goals as goal

pub returns-clause-place : goal.returns-clause-place
returns-clause-place c =
    let found : c.position.result ≡ position (λ other. nat_lt c.args.node other) c.args.printed.now =
    position_from_yields_List (λ other. nat_lt c.args.node other) _ _ _ c.position.ensures.ran (YieldsList-from_slice c.args.printed.now cc) (λ x b q k. search (rules, tests)) in
    c.unwrap_or.ensures ∙ ap (λ place. unwrap_or place (length c.args.printed.now)) found ∙ position_or_end (λ other. nat_lt c.args.node other) c.args.printed.now
