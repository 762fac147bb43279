-- One message, to the mirror and in print.
use Rattle.std.proofs.Common.{◌≡◌, refl, sym, ap, ◌∙◌, subst, ℕ, List, length, inl, inr, ◌⊎◌, Option, Some, None}
use Rattle.tick_laws.proofs.PrintedChanges.{change_printable}
use Rattle.tick_model.{specs.declared.plan.ColumnSpec.ColumnSpec, specs.declared.table.PlainTable.PlainTable, specs.Changes.{Change, change_of}, specs.Printable.IsPrintable, specs.Texts.change_records, specs.Updates.{IsTick, Tick}}
use Rattle.tick_table.{specs.Exact.ticking, specs.Ticking.Ticking}
use Rattle.update_text.{specs.Told.told_change, specs.declared.fault.WriteFault.WriteFault, specs.declared.fault.WriteFault.TheVariants.{Memory as OutOfMemory, Failed}}
use Rattle.replay.{specs.declared.outcome.Outcome.Outcome, specs.declared.outcome.Outcome.TheVariants.{Done, Memory, Kept, Feed, Node, Publish, Write}, specs.Outcomes.IsTold, specs.Stopped.outcome_of_write}
use Rattle.viewport.{specs.declared.mirror.MirrorFault.MirrorFault, specs.Mirrored.mirror_fault, proofs.Mirroring.tick_taken}
use Rattle.viewport.specs.declared.mirror.MirrorFault.TheVariants as faults
use Rattle.watched_run.specs.Told.{IsMessage}

-- a failed write is no cause, and neither is want of memory
pub write_untold : (fault : WriteFault) → IsTold (outcome_of_write fault) → ⊥
write_untold OutOfMemory told = told
write_untold Failed told = told

pub told_unless : (outcome : Outcome) → (outcome ≡ Memory → ⊥) → (outcome ≡ Write → ⊥) → IsTold outcome
told_unless (Done step records rows) memory write = tt
told_unless Memory memory write = absurd (memory refl)
told_unless (Kept words) memory write = tt
told_unless (Feed step number fault) memory write = tt
told_unless (Node step node kind) memory write = tt
told_unless (Publish step number rows limit) memory write = tt
told_unless Write memory write = absurd (write refl)

module _ (columns : List ColumnSpec) (texts : ℕ) (old : PlainTable) (message : Change) (m : IsMessage columns texts old message) where
  takes : mirror_fault old message ≡ None
  takes = ap (λ (table : PlainTable). mirror_fault table message) m.old_is ∙ ap (mirror_fault m.tick.old) m.message_is ∙ tick_taken m.tick m.is_tick

  -- a mirror takes it
  pub not_refused : (fault : MirrorFault) → (fault ≡ faults.Memory → ⊥) → (fault ≡ faults.Memory) ⊎ (mirror_fault old message ≡ Some fault) → ⊥
  not_refused fault other (inl memory) = other memory
  not_refused fault other (inr refused) = let none : None ≡ Some fault = sym takes ∙ refused in cc

  -- and tells it
  module _ (table : Ticking) (exact : (tick : Tick) → IsTick tick → old ≡ tick.old → message ≡ change_of tick → table ≡ ticking tick) where
    left : table ≡ ticking m.tick
    left = exact m.tick m.is_tick m.old_is m.message_is

    pub told_width : table.new.width ≡ length columns
    told_width = ap (λ (t : Ticking). t.new.width) left ∙ m.width

    pub told_is : told_change table ≡ message
    told_is = ap told_change left ∙ sym m.message_is

pub told_printable : (columns : List ColumnSpec) (texts : List (List ℕ)) (old : PlainTable) (message : Change) (m : IsMessage columns (length texts) old message) (table : Ticking)
    → ((tick : Tick) → IsTick tick → old ≡ tick.old → message ≡ change_of tick → table ≡ ticking tick) → IsPrintable columns texts (told_change table)
told_printable columns texts old message m table exact =
    subst (IsPrintable columns texts) (sym (told_is columns (length texts) old message m table exact ∙ m.message_is)) (change_printable columns texts m.tick m.is_tick m.width m.fits)

pub told_or_not : (outcome : Outcome) → IsTold outcome ⊎ (IsTold outcome → ⊥)
told_or_not (Done step records rows) = inl tt
told_or_not Memory = inr (λ told. told)
told_or_not (Kept words) = inl tt
told_or_not (Feed step number fault) = inl tt
told_or_not (Node step node kind) = inl tt
told_or_not (Publish step number rows limit) = inl tt
told_or_not Write = inr (λ told. told)
