use Rattle.std.proofs.Common.{◌≡◌, ◌++◌, sym, subst}
use Rattle.std.specs.Prelude.{IfOk}
use Rattle.tick_model.specs.declared.table.NodeFault.{NodeFault}
use Rattle.feed_run.{specs.FaultWords.node_fields, proofs.FieldLemmas.{one_more, two, four}}
use Rattle.feed_run.proofs.fault_words.with_node_fault.Goals as goal

pub returns-in_ok-number-in-DuplicateRight-2 : goal.returns-in_ok-number-in-DuplicateRight-2
returns-in_ok-number-in-DuplicateRight-2 c =
    subst (λ (of : NodeFault). IfOk c.number-in-DuplicateRight-2.result (λ told. told ≡ c.args.fields ++ node_fields of)) (sym c.in-DuplicateRight.is)
    (one_more c.number-in-DuplicateRight-2.result _ _ _
    (four c.args.fields _ _ _ _ _ _ _ (c.in_ok-number-in-DuplicateRight-2.ensures) (c.in_ok-number-in-DuplicateRight.ensures) (c.in_ok-text-in-DuplicateRight.ensures)) c.number-in-DuplicateRight-2.ensures)

pub returns-in_ok-text-in-TooManyRows : goal.returns-in_ok-text-in-TooManyRows
returns-in_ok-text-in-TooManyRows c =
    subst (λ (of : NodeFault). IfOk c.number-in-TooManyRows.result (λ told. told ≡ c.args.fields ++ node_fields of)) (sym c.in-TooManyRows.is)
    (one_more c.number-in-TooManyRows.result _ _ _ (two c.args.fields _ _ _ (c.in_ok-text-in-TooManyRows.ensures)) c.number-in-TooManyRows.ensures)
