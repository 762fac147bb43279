-- A merge as an operator of a plan.
--     merge_made merge      what it is made of
--     CanMerge op widths      it can be made of this operator of a plan, for inputs of these widths
--     of_merge fault      what a fault of a merge is among those of all operators
use Rattle.std.{specs.Prelude.{◌≡◌, ℕ, ◌≤◌, List, length, replicate, slice_index}, specs.List.{AllByRecursion, range_with_len}}
use Rattle.tick_model.{specs.declared.plan.Op.Op, specs.declared.plan.Op.TheVariants.Merge, specs.declared.table.NodeFault.TheVariants.TooManyRows as ManyRows}
use Rattle.table_operator.{specs.declared.fault.StepFault.StepFault, specs.declared.fault.StepFault.TheVariants.{Memory, Node}, specs.Made.Made}
use Rattle.merge_op.{specs.declared.fault.MergeFault.MergeFault, specs.declared.fault.MergeFault.TheVariants.{Memory as MergeMemory, TooManyRows}, specs.Merged.Merging}

abbrev pub merge_made : Merging → Made
merge_made merge = record { op = Merge (range_with_len 0 merge.count); widths = replicate merge.count merge.width }

abbrev pub CanMerge : Op → List ℕ → Type 0
CanMerge op widths =
    elim op [
      | Merge inputs ↦ (2 ≤ length inputs) × (length inputs ≤ 16) × (slice_index widths 0 ≤ 32) × AllByRecursion (λ width. width ≡ slice_index widths 0) widths
      | _ ↦ ⊥
    ]

abbrev pub of_merge : MergeFault → StepFault
of_merge MergeMemory = Memory
of_merge (TooManyRows rows) = Node (ManyRows rows)
