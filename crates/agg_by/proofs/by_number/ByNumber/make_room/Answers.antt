use Rattle.std.proofs.Common.{ap, ◌∙◌, ◌≤◌, arith, length}
use Rattle.agg_by.{specs.ByNumber.changed_at, proofs.ByNumber.changed_room}
use Rattle.agg_by.proofs.by_number.ByNumber.make_room.Goals as goal

pub loop-self-preserved : goal.loop-self-preserved
loop-self-preserved g c = λ change.
    let entries = c.loop-self.self-inside.entries in
    let le : length entries.items ≤ c.args.number = omega (arith, entries.ok.0) in
    ap (changed_at g.T.OfCells.none c.args.number change) c.in_ok-push.ensures.items
    ∙ changed_room g.T.OfCells.none c.args.number change entries.items c.new-none.result c.new-none.ensures le ∙ c.loop-self.invariant change
