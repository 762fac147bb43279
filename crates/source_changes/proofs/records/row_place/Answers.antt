use Rattle.std.proofs.Common.{◌≡◌, ap₂, sym, ◌∙◌, ◌==◌, ℕ, Bool, rules, tests, unwrap_or}
use Rattle.std.{specs.List.position, proofs.lemmas.Iterator.YieldsList-from_slice, proofs.lemmas.Iterator.Search.position_from_yields_List, proofs.lemmas.List.length-map}
use Rattle.tick_model.{specs.declared.table.PlainRow.PlainRow, specs.Tables.keys}
use Rattle.source_changes.proofs.Placed.{place_of_key, place_or_all}
use Rattle.source_changes.proofs.records.row_place.Goals as goal

pub returns : goal.returns
returns c =
    let all = c.args.rows.now in
    let test : ℕ → Bool = λ own. own == c.args.key in
    let found : c.position.result ≡ position test (keys all) =
    position_from_yields_List test _ _ c.position.result c.position.ensures.ran (YieldsList-from_slice (keys all) cc) (λ x b q k. search (rules, tests)) in
    c.unwrap_or.ensures ∙ ap₂ unwrap_or found (c.len.ensures ∙ sym (length-map all (λ (row : PlainRow). row.key))) ∙ place_or_all test (keys all) ∙ place_of_key c.args.key all
