-- A head and a tail as operators of a plan.
--     made_at end limit      what it is made of
--     IsAt end op      it is made of this operator of a plan
use Rattle.std.specs.Prelude.{ℕ, [], ◌∷◌}
use Rattle.tick_model.{specs.declared.plan.Op.Op, specs.declared.plan.Op.TheVariants.{Head, Tail}}
use Rattle.table_operator.specs.Made.{Made}
use Rattle.head_tail.{specs.declared.end.End.End, specs.declared.end.End.TheVariants.{First, Last}, specs.Ends.Limit}

abbrev pub op_at : End → ℕ → Op
op_at First count = Head 0 count
op_at Last count = Tail 0 count

abbrev pub made_at : End → Limit → Made
made_at end limit = record { op = op_at end limit.count; widths = limit.width ∷ [] }

abbrev pub IsAt : End → Op → Type 0
IsAt First op = elim op [ Head input rows ↦ Unit {0} | _ ↦ ⊥ ]
IsAt Last op = elim op [ Tail input rows ↦ Unit {0} | _ ↦ ⊥ ]
