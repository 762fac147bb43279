use Rattle.std.proofs.Common.{◌≡◌, ◌∙◌, sym, rules, tests}
use Rattle.std.{specs.Prelude.position, proofs.lemmas.Iterator.YieldsList-from_slice, proofs.lemmas.Iterator.Search.position_from_yields_List}
use Rattle.script_lines.proofs.LineLemmas.{is_feed, lines_of-at, lines_of-none}
use Rattle.script_lines.proofs.reading.first_line.Goals as goal

pub returns-in-Some-clause-next : goal.returns-in-Some-clause-next
returns-in-Some-clause-next c =
    let bytes = c.args.bytes.now in
    let found : c.position.result ≡ position is_feed bytes =
    position_from_yields_List is_feed _ _ c.position.result c.position.ensures.ran (YieldsList-from_slice bytes cc) (λ x b q k. search (rules, tests)) in
    lines_of-at bytes c.in-Some.end c.without_return.result.now (sym found ∙ c.in-Some.is) c.without_return.ensures

pub returns-in-None-clause-last : goal.returns-in-None-clause-last
returns-in-None-clause-last c =
    let bytes = c.args.bytes.now in
    let found : c.position.result ≡ position is_feed bytes =
    position_from_yields_List is_feed _ _ c.position.result c.position.ensures.ran (YieldsList-from_slice bytes cc) (λ x b q k. search (rules, tests)) in
    lines_of-none bytes (sym found ∙ c.in-None.is)
