use Rattle.std.proofs.Common.{◌≡◌, ap, ap₂, ◌∙◌, ◌*◌, arith}
use Rattle.tick_model.{specs.Tables.keys, specs.Updates.Update}
use Rattle.source_changes.{specs.Reads.read_rows, specs.Waiting.joined, proofs.Turned.starts}
use Rattle.source_changes.proofs.taking.TakenBlocks.new.Goals as goal

pub returns-clause-taking : goal.returns-clause-taking
returns-clause-taking c =
    (starts (record { table = c.args.table; gathered = c.new.result; told = c.new-2.result }) c.rows-rows.ensures.table (c.new.ensures.keys ∙ c.requires) c.new.ensures.update c.new.ensures.waiting c.new-2.ensures).0

pub returns-clause-tick : goal.returns-clause-tick
returns-clause-tick c =
    (starts (record { table = c.args.table; gathered = c.new.result; told = c.new-2.result }) c.rows-rows.ensures.table (c.new.ensures.keys ∙ c.requires) c.new.ensures.update c.new.ensures.waiting c.new-2.ensures).1

pub returns-clause-reads : goal.returns-clause-reads
returns-clause-reads c =
    let none : c.args.table.now.new.width * 0 ≡ 0 = omega arith in
    ap (λ (update : Update). c.args.table.now.new.width * read_rows update) (ap₂ (joined (keys c.args.table.now.new.rows)) c.new.ensures.update c.new.ensures.waiting) ∙ none
