use Rattle.std.proofs.Common.{◌≡◌, ◌∙◌, sym, ap, rules, tests}
use Rattle.std.{specs.Prelude.{ℕ, not, find, option_map}, specs.Borrow.Bor, proofs.lemmas.Iterator.YieldsList-from_slice, proofs.lemmas.Iterator.Search.find_from_yields_List}
use Rattle.script_lines.{specs.Tokens.is_blank, proofs.LineLemmas.{says_nothing, is_skipped-find}}
use Rattle.script_lines.proofs.reading.is_skipped.Goals as goal

pub returns-in-None : goal.returns-in-None
returns-in-None c =
    let line = c.args.line.now in
    let found : option_map (λ (byte : Bor ℕ). byte.now) c.find.result ≡ find (λ byte. not (is_blank byte)) line =
    find_from_yields_List (λ byte. not (is_blank byte)) _ _ c.find.result c.find.ensures.ran (YieldsList-from_slice line cc) (λ x b q k. search (rules, tests)) in
    sym (is_skipped-find line ∙ ap says_nothing (sym found) ∙ ap (λ o. says_nothing (option_map (λ (byte : Bor ℕ). byte.now) o)) c.in-None.is)

pub returns-in-Some : goal.returns-in-Some
returns-in-Some c =
    let line = c.args.line.now in
    let found : option_map (λ (byte : Bor ℕ). byte.now) c.find.result ≡ find (λ byte. not (is_blank byte)) line =
    find_from_yields_List (λ byte. not (is_blank byte)) _ _ c.find.result c.find.ensures.ran (YieldsList-from_slice line cc) (λ x b q k. search (rules, tests)) in
    sym (is_skipped-find line ∙ ap says_nothing (sym found) ∙ ap (λ o. says_nothing (option_map (λ (byte : Bor ℕ). byte.now) o)) c.in-Some.is)
