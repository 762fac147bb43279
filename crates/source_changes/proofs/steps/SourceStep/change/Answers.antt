use Rattle.std.proofs.Common.{◌≡◌, sym, subst, ◌+◌, ◌*◌, ◌≤◌, length}
use Rattle.row_changes.specs.Parts.{AreParts, AreThere, Parts}
use Rattle.source_changes.{specs.Stepping.{now_of, ticked}, proofs.Ticked.{even, parts_are, ready, there}}
use Rattle.source_changes.proofs.steps.SourceStep.change.Goals as goal

pub change_of_touched-requires-clause-ready : goal.change_of_touched-requires-clause-ready
change_of_touched-requires-clause-ready g c = ready c.args.self.now c.requires

pub change_of_touched-requires-clause-even : goal.change_of_touched-requires-clause-even
change_of_touched-requires-clause-even g c = subst (λ (parts : Parts). length parts.compared_before ≡ length parts.compared_now) (sym c.in_ok-touched.ensures) (even c.args.self.now c.requires)

pub change_of_touched-requires-clause-added : goal.change_of_touched-requires-clause-added
change_of_touched-requires-clause-added g c = subst (λ (parts : Parts). AreThere (now_of c.args.self.now) parts.added) (sym c.in_ok-touched.ensures) (there c.args.self.now c.requires).0

pub change_of_touched-requires-clause-before : goal.change_of_touched-requires-clause-before
change_of_touched-requires-clause-before g c = subst (λ (parts : Parts). AreThere c.args.self.now.old parts.compared_before) (sym c.in_ok-touched.ensures) (there c.args.self.now c.requires).1

pub change_of_touched-requires-clause-now : goal.change_of_touched-requires-clause-now
change_of_touched-requires-clause-now g c = subst (λ (parts : Parts). AreThere (now_of c.args.self.now) parts.compared_now) (sym c.in_ok-touched.ensures) (there c.args.self.now c.requires).2

pub returns-clause-change : goal.returns-clause-change
returns-clause-change g c =
    let tick = ticked c.args.self.now in
    c.in_ok-change.ensures.change tick.kept
    (subst (λ (parts : Parts). AreParts tick.old tick.new parts tick.kept) (sym c.in_ok-touched.ensures) (parts_are c.args.self.now c.requires))

pub returns-in_err-change-clause-reads : goal.returns-in_err-change-clause-reads
returns-in_err-change-clause-reads g c =
    subst (λ (parts : Parts). c.change_of_touched.new.reads ≤ c.args.reads.now + c.args.self.now.old.width * (2 * length parts.compared_now + length parts.added)) c.in_ok-touched.ensures c.change_of_touched.ensures.reads

pub returns-clause-reads : goal.returns-clause-reads
returns-clause-reads g c =
    subst (λ (parts : Parts). c.change_of_touched.new.reads ≤ c.args.reads.now + c.args.self.now.old.width * (2 * length parts.compared_now + length parts.added)) c.in_ok-touched.ensures c.change_of_touched.ensures.reads
