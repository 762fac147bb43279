-- Why a join is refused, as one of all operators.
use Rattle.std.proofs.Common.{Option}
use Rattle.tick_model.specs.declared.table.NodeFault.{NodeFault}
use Rattle.table_operator.specs.Made.{IsCause as IsStepCause}
use Rattle.lookup_join.{specs.declared.join_op.JoinFault.JoinFault, specs.declared.join_op.JoinFault.TheVariants.{Memory, DuplicateRight}, specs.Joiner.IsCause, specs.Made.of_join}

pub cause_is : (fault : JoinFault) (own : Option NodeFault) → IsCause fault own → IsStepCause (of_join fault) own
cause_is Memory own h = tt
cause_is (DuplicateRight left_key first second) own h = h
