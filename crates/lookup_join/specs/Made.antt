-- The joins as operators of a plan.
--     join_made join, as_of_made join      what it is made of
--     StandsForBoth join tables, MatchesBoth join tables      it stands for the rows of both inputs: the natural join, and the as-of join
--     CanTake take widths      the taken columns are those of the right input, and the result has few
--     CanJoin op widths, CanMatch op widths      it can be made of this operator of a plan, for inputs of these widths
--     of_join fault      what a fault of a join is among those of all operators
use Rattle.std.{specs.Prelude.{ℕ, ◌+◌, ◌<◌, ◌≤◌, List, [], ◌∷◌, length, slice_index}, specs.List.AllByRecursion}
use Rattle.tick_model.{specs.declared.plan.Op.Op, specs.declared.plan.Op.TheVariants.{AsOf, Join}, specs.declared.table.NodeFault.TheVariants.DuplicateRight as TwoMatches, specs.declared.table.PlainTable.PlainTable, specs.Ready.table_in}
use Rattle.table_operator.{specs.declared.fault.StepFault.StepFault, specs.declared.fault.StepFault.TheVariants.{Memory, Node}, specs.Made.Made}
use Rattle.lookup_join.{specs.declared.join_op.JoinFault.JoinFault, specs.declared.join_op.JoinFault.TheVariants.{Memory as JoinMemory, DuplicateRight}, specs.Joiner.{Joiner, Stands as StandsJoined}, specs.Matcher.{Matcher, Stands as StandsMatched}}

abbrev pub join_made : Joiner → Made
join_made join = record { op = Join 0 1 join.on join.take join.choice; widths = join.left_width ∷ join.right_width ∷ [] }

abbrev pub as_of_made : Matcher → Made
as_of_made join = record { op = AsOf 0 1 join.on join.at join.take; widths = join.left_width ∷ join.right_width ∷ [] }

abbrev pub StandsForBoth : Joiner → List PlainTable → Type 0
StandsForBoth join tables = StandsJoined join (table_in tables 0) (table_in tables 1)

abbrev pub MatchesBoth : Matcher → List PlainTable → Type 0
MatchesBoth join tables = StandsMatched join (table_in tables 0) (table_in tables 1)

abbrev pub CanTake : List ℕ → List ℕ → Type 0
CanTake take widths = (slice_index widths 0 + length take ≤ 32) × AllByRecursion (λ column. column < slice_index widths 1) take

abbrev pub CanJoin : Op → List ℕ → Type 0
CanJoin op widths = elim op [ Join left right on take choice ↦ CanTake take widths | _ ↦ ⊥ ]

abbrev pub CanMatch : Op → List ℕ → Type 0
CanMatch op widths = elim op [ AsOf left right on at take ↦ CanTake take widths | _ ↦ ⊥ ]

abbrev pub of_join : JoinFault → StepFault
of_join JoinMemory = Memory
of_join (DuplicateRight left_key first second) = Node (TwoMatches left_key first second)
