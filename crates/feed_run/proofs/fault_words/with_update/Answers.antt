use Rattle.std.proofs.Common.{◌≡◌, ◌++◌, sym, subst}
use Rattle.std.specs.Prelude.{IfOk}
use Rattle.tick_model.specs.declared.update.UpdateFault.{UpdateFault}
use Rattle.feed_run.{specs.FaultWords.update_fields, proofs.FieldLemmas.{one_more, two, three}}
use Rattle.feed_run.proofs.fault_words.with_update.Goals as goal

pub returns-in_ok-text-in-RemovedAbsent : goal.returns-in_ok-text-in-RemovedAbsent
returns-in_ok-text-in-RemovedAbsent c =
    subst (λ (of : UpdateFault). IfOk c.number.result (λ told. told ≡ c.args.fields ++ update_fields of)) (sym c.in-RemovedAbsent.is)
    (one_more c.number.result _ _ _ (two c.args.fields _ _ _ (c.in_ok-text-in-RemovedAbsent.ensures)) c.number.ensures)

pub returns-in_ok-number-in-ShiftBreaks : goal.returns-in_ok-number-in-ShiftBreaks
returns-in_ok-number-in-ShiftBreaks c =
    subst (λ (of : UpdateFault). IfOk c.number-in-ShiftBreaks-2.result (λ told. told ≡ c.args.fields ++ update_fields of)) (sym c.in-ShiftBreaks.is)
    (one_more c.number-in-ShiftBreaks-2.result _ _ _ (three c.args.fields _ _ _ _ _ (c.in_ok-number-in-ShiftBreaks.ensures) (c.in_ok-text-in-ShiftBreaks.ensures)) c.number-in-ShiftBreaks-2.ensures)

pub returns-in_ok-text-in-AddedTaken : goal.returns-in_ok-text-in-AddedTaken
returns-in_ok-text-in-AddedTaken c =
    subst (λ (of : UpdateFault). IfOk c.number-in-AddedTaken.result (λ told. told ≡ c.args.fields ++ update_fields of)) (sym c.in-AddedTaken.is)
    (one_more c.number-in-AddedTaken.result _ _ _ (two c.args.fields _ _ _ (c.in_ok-text-in-AddedTaken.ensures)) c.number-in-AddedTaken.ensures)

pub returns-in_ok-text-in-ModifiedAbsent : goal.returns-in_ok-text-in-ModifiedAbsent
returns-in_ok-text-in-ModifiedAbsent c =
    subst (λ (of : UpdateFault). IfOk c.number-in-ModifiedAbsent.result (λ told. told ≡ c.args.fields ++ update_fields of)) (sym c.in-ModifiedAbsent.is)
    (one_more c.number-in-ModifiedAbsent.result _ _ _ (two c.args.fields _ _ _ (c.in_ok-text-in-ModifiedAbsent.ensures)) c.number-in-ModifiedAbsent.ensures)

pub returns-in_ok-text-in-ModifiedAdded : goal.returns-in_ok-text-in-ModifiedAdded
returns-in_ok-text-in-ModifiedAdded c =
    subst (λ (of : UpdateFault). IfOk c.number-in-ModifiedAdded.result (λ told. told ≡ c.args.fields ++ update_fields of)) (sym c.in-ModifiedAdded.is)
    (one_more c.number-in-ModifiedAdded.result _ _ _ (two c.args.fields _ _ _ (c.in_ok-text-in-ModifiedAdded.ensures)) c.number-in-ModifiedAdded.ensures)
