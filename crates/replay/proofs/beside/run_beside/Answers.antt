use Rattle.std.proofs.Common.{◌<◌, ◌^◌, arith, rules}
use Rattle.replay.proofs.PublishedTables.{tables_few}
use Rattle.replay.proofs.beside.run_beside.Goals as goal

pub overflow_cast-published : goal.overflow_cast-published
overflow_cast-published g c =
    let small : c.len.result < 2 ^ 32 = omega (arith, tables_few c.args.run.now c.requires.lawful, c.len.ensures) in
    search rules
