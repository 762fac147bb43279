use Rattle.std.proofs.Common.{◌++◌, ◌∷◌, [], ◌∙◌, ap, sym, get_or, take, append_assoc, List, ℕ}
use Rattle.feed_run.{specs.Summaries.{size_record, sizes}, proofs.SummaryLemmas.sizes_next}
use Rattle.feed_run.proofs.summary.push_sizes.Goals as goal

pub loop-number-preserved : goal.loop-number-preserved
loop-number-preserved c =
    let rows = c.args.rows.now in
    let nodes = c.args.nodes.now in
    let i = c.loop-number.number in
    let node = c.index-nodes-number.result in
    let before = sizes rows 0 (take i nodes) in
    let next = size_record node.name (get_or rows i 0) ∷ [] in
    c.in_ok-push.ensures.ok
    ∙ ap (λ (own : List (List (List ℕ))). own ++ c.in_ok-size_record.field-0 ∷ []) c.loop-number.invariant
    ∙ ap (λ (own : List (List ℕ)). (c.args.records.now ++ before) ++ own ∷ []) (c.in_ok-size_record.ensures ∙ ap (size_record node.name) c.rows_at.ensures)
    ∙ append_assoc c.args.records.now before next
    ∙ ap (λ (own : List (List (List ℕ))). c.args.records.now ++ own) (sym (sizes_next rows nodes i node c.loop-number-test.true c.index-nodes-number.is))
