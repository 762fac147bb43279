-- A mirror takes the changes of ticks.
use Rattle.std.proofs.Common.{◌≡◌, refl, ap, sym, ◌∙◌, cond, ℕ, ◌*◌, ◌^◌, None, Some, Option, length, inl, inr, ◌⊎◌}
use Rattle.std.{specs.Prelude.option_map, specs.Option.option_or, proofs.lemmas.Bool.eq-eqb}
use Rattle.tick_model.{specs.declared.table.PlainTable.PlainTable, specs.declared.update.UpdateFault.UpdateFault, specs.declared.update.UpdateFault.TheVariants.{Memory as NoMemory, RemovedAbsent, ShiftBreaks, AddedTaken, ModifiedAbsent, ModifiedAdded}, specs.Changes.{Change, change_of, told_keys}, specs.Rules.update_fault, specs.Tables.keys, specs.Updates.{Tick, IsTick}}
use Rattle.tick_table.{proofs.Between.between_lawful, proofs.ExactAgain.change_whole}
use Rattle.viewport.{specs.declared.mirror.MirrorFault.MirrorFault, specs.declared.mirror.MirrorFault.TheVariants.{Memory, Update as ByUpdate, CellCount}, specs.Mirrored.{count_fault, fault_of, mirror_fault}}

pub whole_counts : (width : ℕ) (change : Change) → length change.cells ≡ length (told_keys change.update) * width → count_fault width change ≡ None
whole_counts width change whole =
    ap (λ b. cond b None (Some (CellCount (length change.cells) (length (told_keys change.update) * width)))) (eq-eqb (length change.cells) (length (told_keys change.update) * width) whole)

pub tick_taken : (tick : Tick) → IsTick tick → mirror_fault tick.old (change_of tick) ≡ None
tick_taken tick h =
    ap (λ (fault : Option UpdateFault). option_or (option_map ByUpdate fault) (count_fault tick.old.width (change_of tick))) (between_lawful tick h)
    ∙ whole_counts tick.old.width (change_of tick) (change_whole tick h)

-- the fault of a change, by what its update and its cells show
pub by_update : (table : PlainTable) (change : Change) (fault : UpdateFault) → update_fault (2 ^ 62) (keys table.rows) change.update ≡ Some fault → mirror_fault table change ≡ Some (ByUpdate fault)
by_update table change fault e = ap (λ (fault : Option UpdateFault). option_or (option_map ByUpdate fault) (count_fault table.width change)) e

-- what the check of the update gives is the fault, memory aside
pub told_fault : (table : PlainTable) (change : Change) (fault : UpdateFault) → (fault ≡ NoMemory) ⊎ (update_fault (2 ^ 62) (keys table.rows) change.update ≡ Some fault) → (fault_of fault ≡ Memory) ⊎ (mirror_fault table change ≡ Some (fault_of fault))
told_fault table change NoMemory h = inl refl
told_fault table change (RemovedAbsent key) h = elim h [ inl e ↦ absurd (cc) | inr e ↦ inr (by_update table change (RemovedAbsent key) e) ]
told_fault table change (ShiftBreaks first second) h = elim h [ inl e ↦ absurd (cc) | inr e ↦ inr (by_update table change (ShiftBreaks first second) e) ]
told_fault table change (AddedTaken key) h = elim h [ inl e ↦ absurd (cc) | inr e ↦ inr (by_update table change (AddedTaken key) e) ]
told_fault table change (ModifiedAbsent key) h = elim h [ inl e ↦ absurd (cc) | inr e ↦ inr (by_update table change (ModifiedAbsent key) e) ]
told_fault table change (ModifiedAdded key) h = elim h [ inl e ↦ absurd (cc) | inr e ↦ inr (by_update table change (ModifiedAdded key) e) ]

pub by_count : (table : PlainTable) (change : Change) (fault : Option MirrorFault) → update_fault (2 ^ 62) (keys table.rows) change.update ≡ None → fault ≡ count_fault table.width change → mirror_fault table change ≡ fault
by_count table change fault e counted = ap (λ (fault : Option UpdateFault). option_or (option_map ByUpdate fault) (count_fault table.width change)) e ∙ sym counted
