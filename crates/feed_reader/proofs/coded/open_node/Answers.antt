use Rattle.std.proofs.Common.{◌≡◌, ◌∷◌, ◌++◌, Option, ap, ◌∙◌, arith}
use Rattle.std.{specs.Option.option_to_list, specs.Vec.Iter.into_iter_items}
use Rattle.tick_model.specs.LawfulRuns.{sources_of}
use Rattle.feed_reader.{specs.declared.raw.RawTable.RawTable, specs.Runs.opening_of, proofs.OpeningLemmas.none_left}
use Rattle.feed_reader.proofs.coded.open_node.Goals as goal

pub returns-in-None-clause-opens : goal.returns-in-None-clause-opens
returns-in-None-clause-opens c = λ later.
    let tables = into_iter_items c.args.tables.now in
    let same : tables ≡ into_iter_items c.next.new.self = c.next.ensures.items ∙ ap (λ (next : Option RawTable). option_to_list next ++ into_iter_items c.next.new.self) c.in-None.is in
    let none = rw c.in-None.is at c.next.ensures.cases in
    ap (λ more. c.args.opening.now ++ more)
    (none_left c.args.ranks.now (sources_of (c.args.node.now ∷ later)) (sources_of later) tables (omega (arith, none.0, c.requires.whole))
    ∙ ap (opening_of c.args.ranks.now (sources_of later)) same)
