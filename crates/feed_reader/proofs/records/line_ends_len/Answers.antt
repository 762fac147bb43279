use Rattle.std.proofs.Common.{◌≡◌, rules, tests}
use Rattle.std.{specs.Prelude.not, specs.List.position, proofs.lemmas.Iterator.YieldsList-from_slice, proofs.lemmas.Iterator.Search.position_from_yields_List}
use Rattle.script_lines.proofs.LexemeLemmas.{run_len-position}
use Rattle.feed_reader.specs.Records.{ends_line}
use Rattle.feed_reader.proofs.records.line_ends_len.Goals as goal

pub returns : goal.returns
returns c =
    let text = c.args.text.now in
    let found : c.position.result ≡ position (λ byte. not (ends_line byte)) text =
    position_from_yields_List (λ byte. not (ends_line byte)) _ _ c.position.result c.position.ensures.ran (YieldsList-from_slice text cc) (λ x b q k. search (rules, tests)) in
    run_len-position ends_line text c.position.result c.unwrap_or.result found c.unwrap_or.ensures
