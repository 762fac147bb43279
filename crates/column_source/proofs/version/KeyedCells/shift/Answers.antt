use Rattle.column_source.{proofs.Made.moved_on, proofs.Paired.{are_of, shown}}
use Rattle.column_source.proofs.version.KeyedCells.shift.Goals as goal

pub apply-requires : goal.apply-requires
apply-requires c =
    let own = are_of c.self.invariant c.self.view_is in
    rw own.keys_are c.requires

pub returns-clause-ok : goal.returns-clause-ok
returns-clause-ok c = shown (moved_on (are_of c.self.invariant c.self.view_is) c.args.shifts.now c.in_ok-self-inside.field-0 c.in_ok-self-inside.ensures)
