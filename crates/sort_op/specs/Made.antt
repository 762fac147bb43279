-- A sort as an operator of a plan.
--     sort_made sort      what it is made of
--     HasEntries sort tables      its entries are those of the rows in order
--     CanSort op      it can be made of this operator of a plan
use Rattle.std.specs.Prelude.{◌≡◌, List, [], ◌∷◌}
use Rattle.tick_model.{specs.declared.plan.Op.Op, specs.declared.plan.Op.TheVariants.Sort, specs.declared.table.PlainTable.PlainTable, specs.Ready.table_in}
use Rattle.table_operator.specs.Made.{Made}
use Rattle.sort_op.{specs.Sorted.entries_of, specs.Sorter.Sorter}

abbrev pub sort_made : Sorter → Made
sort_made sort = record { op = Sort 0 sort.by; widths = sort.width ∷ [] }

abbrev pub HasEntries : Sorter → List PlainTable → Type 0
HasEntries sort tables = sort.entries ≡ entries_of sort.by (table_in tables 0).rows

abbrev pub CanSort : Op → Type 0
CanSort op = elim op [ Sort input by ↦ Unit {0} | _ ↦ ⊥ ]
