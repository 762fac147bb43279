use Rattle.std.proofs.Common.{◌≡◌, ◌∙◌}
use Rattle.update_text.proofs.ReadRows.{united_range}
use Rattle.update_text.proofs.read_rows.put_last.Goals as goal

pub returns-in_ok-insert_range-clause-put : goal.returns-in_ok-insert_range-clause-put
returns-in_ok-insert_range-clause-put c =
    c.in_ok-insert_range.ensures.ok ∙ united_range c.args.first c.args.last c.args.keys.now (c.is_behind.ensures.behind c.if-is_behind.true) c.is_behind.ensures.set
