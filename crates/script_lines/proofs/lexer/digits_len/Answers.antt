use Rattle.std.proofs.Common.{◌≡◌, rules, tests}
use Rattle.std.{specs.Prelude.not, specs.List.position, proofs.lemmas.Iterator.YieldsList-from_slice, proofs.lemmas.Iterator.Search.position_from_yields_List}
use Rattle.script_lines.{specs.Tokens.is_digit, proofs.LexemeLemmas.run_len-position}
use Rattle.script_lines.proofs.lexer.digits_len.Goals as goal

pub returns : goal.returns
returns c =
    let bytes = c.args.bytes.now in
    let found : c.position.result ≡ position (λ byte. not (is_digit byte)) bytes =
    position_from_yields_List (λ byte. not (is_digit byte)) _ _ c.position.result c.position.ensures.ran (YieldsList-from_slice bytes cc) (λ x b q k. search (rules, tests)) in
    run_len-position is_digit bytes c.position.result c.unwrap_or.result found c.unwrap_or.ensures
