use Rattle.std.proofs.Common.{◌≡◌, subst}
use Rattle.std.specs.Prelude.{OnOk}
use Rattle.row_changes.proofs.Comparing.{key_last}
use Rattle.row_changes.proofs.told.ChangedRows.put.Goals as goal

pub returns-clause-modified : goal.returns-clause-modified
returns-clause-modified c = subst (λ keys. OnOk c.insert_range.result (c.insert_range.new.self ≡ keys)) (key_last c.args.key c.args.self.now.modified c.requires.above) c.insert_range.ensures.ok
