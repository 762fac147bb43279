use Rattle.std.proofs.Common.{◌<◌, length, arith, add-one}
use Rattle.std.proofs.lemmas.List.{set_split}
use Rattle.row_set.proofs.edits.put.Goals as goal

pub returns-then-at-to-clause-replaced : goal.returns-then-at-to-clause-replaced
returns-then-at-to-clause-replaced c =
    λ lt. let within : c.args.at < length c.args.ranges.now.items = omega (arith, c.args.ranges.now.ok.0) in
    rw add-one (set_split c.args.ranges.now.items c.args.at c.args.range within)
