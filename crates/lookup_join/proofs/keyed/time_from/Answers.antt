use Rattle.std.proofs.Common.{ap, ◌∙◌, rules, w64, SFits}
use Rattle.std.{proofs.lemmas.Int.to_z-of_z, proofs.lemmas.List.take_rest}
use Rattle.lookup_join.specs.Keyed.{time_of}
use Rattle.lookup_join.proofs.keyed.time_from.Goals as goal

pub returns : goal.returns
returns c =
    let fits : SFits w64 c.time.result = search rules in
    to_z-of_z w64 c.time.result fits ∙ c.time.ensures ∙ ap (time_of c.args.side c.args.pick) (take_rest c.args.cells.now c.args.start)
