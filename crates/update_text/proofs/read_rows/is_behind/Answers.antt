use Rattle.std.proofs.Common.{◌≡◌, sym}
use Rattle.std.proofs.lemmas.Bool.{ltb-true, lt-ltb}
use Rattle.update_text.proofs.ReadRows.{last_greatest, last_below, none_last}
use Rattle.update_text.proofs.read_rows.is_behind.Goals as goal

pub returns-in-Some-clause-behind : goal.returns-in-Some-clause-behind
returns-in-Some-clause-behind c test = last_greatest c.args.keys.now c.args.key c.in-Some.last c.in-Some.ensures.keys.rising (sym c.in-Some.ensures.key) (ltb-true c.in-Some.last c.args.key test)

pub returns-in-Some-clause-told : goal.returns-in-Some-clause-told
returns-in-Some-clause-told c all = lt-ltb c.in-Some.last c.args.key (last_below c.args.keys.now c.args.key c.in-Some.last (sym c.in-Some.ensures.key) all)

pub returns-in-None-clause-behind : goal.returns-in-None-clause-behind
returns-in-None-clause-behind c _ = none_last c.args.keys.now c.args.key c.in-None.ensures.key
