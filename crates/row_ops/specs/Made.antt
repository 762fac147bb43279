-- A filter and a view as operators of a plan.
--     filter_made filter, view_made view      what it is made of
--     CanFilter op widths, CanView op widths      it can be made of this operator of a plan, for inputs of these widths
use Rattle.std.{specs.Prelude.{ℕ, ◌+◌, ◌≤◌, List, [], ◌∷◌, length, slice_index}, specs.List.AllByRecursion}
use Rattle.tick_model.{specs.declared.plan.Op.Op, specs.declared.plan.Op.TheVariants.{Keep, View}, specs.Formulas.{IsTestWithin, IsWithin}}
use Rattle.table_operator.specs.Made.{Made}
use Rattle.row_ops.{specs.Filter.RowTest, specs.Viewer.Viewer}

abbrev pub filter_made : RowTest → Made
filter_made filter = record { op = Keep 0 filter.test; widths = filter.width ∷ [] }

abbrev pub view_made : Viewer → Made
view_made viewer = record { op = View 0 viewer.exprs; widths = viewer.width ∷ [] }

abbrev pub CanFilter : Op → List ℕ → Type 0
CanFilter op widths = elim op [ Keep input test ↦ IsTestWithin (slice_index widths 0) test | _ ↦ ⊥ ]

abbrev pub CanView : Op → List ℕ → Type 0
CanView op widths = elim op [ View input exprs ↦ (slice_index widths 0 + length exprs ≤ 32) × AllByRecursion (IsWithin (slice_index widths 0)) exprs | _ ↦ ⊥ ]
