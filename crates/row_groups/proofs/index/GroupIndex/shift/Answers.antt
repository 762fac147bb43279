use Rattle.std.proofs.Common.{ap}
use Rattle.std.proofs.lemmas.Result.{on_ok_weaker}
use Rattle.row_groups.proofs.Indexed.{index_moved, members_shifted}
use Rattle.row_groups.proofs.index.GroupIndex.shift.Goals as goal

pub returns-clause-sound : goal.returns-clause-sound
returns-clause-sound c = index_moved c.shift.result c.args.shifts.now c.args.self.now c.shift.new.self c.requires.sound c.requires.lawful c.shift.ensures.rows c.shift.ensures.refused

pub returns-clause-ok : goal.returns-clause-ok
returns-clause-ok c =
    let old = c.args.self.now in
    on_ok_weaker c.shift.result (λ is. ap (λ members. record { width = old.width; members = members }) (members_shifted c.args.shifts.now old.table old.lists.groups old.handles c.shift.new.self is)) c.shift.ensures.rows
