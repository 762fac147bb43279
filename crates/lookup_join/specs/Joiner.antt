-- What a join keeps.
--     Joiner      what it was made of, and the rows of both inputs by their key cells; `IsMatcher` holds of its columns
--     Stands joiner left right      it stands for these rows, of which no left row has two matches where there is to be one
--     joined_ticks on take choice left right      the tick of a join, from those of its inputs
--     joiner_of on take choice left_width right_width      the join that has seen no rows
--     IsCause fault own      what a join answers in place of a change, where its inputs' tables have this fault
use Rattle.std.specs.Prelude.{◌≡◌, ℕ, ◌==◌, List, [], Option, None, Some, if◌then◌else◌}
use Rattle.lookup_join.{specs.declared.join_op.JoinFault.JoinFault, specs.declared.join_op.JoinFault.TheVariants.{Memory, DuplicateRight}, specs.declared.keyed.Side.TheVariants.{Left, Right}, specs.Keyed.indexed, specs.Matched.pick_of}
use Rattle.row_groups.specs.Members.{Grouped}
use Rattle.tick_model.{specs.declared.plan.Choice.Choice, specs.declared.plan.OnPair.OnPair, specs.declared.plan.Op.TheVariants.Join, specs.declared.table.NodeFault.NodeFault, specs.declared.table.NodeFault.TheVariants.DuplicateRight as TwoMatches, specs.declared.table.PlainTable.PlainTable, specs.Join.join_fault, specs.Updates.Tick}
use Rattle.tick_laws.specs.Operated.{operated}

pub record Joiner : Type 0 where
  pub on : List OnPair
  pub take : List ℕ
  pub choice : Choice
  pub left_width : ℕ
  pub right_width : ℕ
  pub left : Grouped
  pub right : Grouped

abbrev pub joiner_of : List OnPair → List ℕ → Choice → ℕ → ℕ → Joiner
joiner_of on take choice left_width right_width = record { on = on; take = take; choice = choice; left_width = left_width; right_width = right_width; left = indexed Left on (pick_of choice) []; right = indexed Right on (pick_of choice) [] }

pub record Stands (joiner : Joiner) (left right : PlainTable) : Type 0 where
  pub left_rows : joiner.left ≡ indexed Left joiner.on (pick_of joiner.choice) left.rows
  pub right_rows : joiner.right ≡ indexed Right joiner.on (pick_of joiner.choice) right.rows
  pub sound : join_fault joiner.on joiner.choice left right ≡ None

-- the joiner that stands for these rows
abbrev pub standing : Joiner → PlainTable → PlainTable → Joiner
standing joiner left right = record joiner { left = indexed Left joiner.on (pick_of joiner.choice) left.rows; right = indexed Right joiner.on (pick_of joiner.choice) right.rows }

abbrev pub joined_ticks : List OnPair → List ℕ → Choice → Tick → Tick → Tick
joined_ticks on take choice left right = operated (Join 0 1 on take choice) (λ input. if input == 0 then left else right)

abbrev pub IsCause : JoinFault → Option NodeFault → Type 0
IsCause Memory own = Unit {0}
IsCause (DuplicateRight left_key first second) own = own ≡ Some (TwoMatches left_key first second)
