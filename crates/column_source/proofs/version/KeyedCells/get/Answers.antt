use Rattle.std.proofs.Common.{sym, ◌∙◌}
use Rattle.column_source.{proofs.Made.{entry_list, got, none_got}, proofs.Paired.are_of}
use Rattle.column_source.proofs.version.KeyedCells.get.Goals as goal

pub returns-in-Ok-clause-cell : goal.returns-in-Ok-clause-cell
returns-in-Ok-clause-cell c =
    c.copied.ensures ∙ c.get.ensures ∙ got c.in-Ok.ensures.keys (are_of c.self.invariant c.self.view_is) c.args.key c.in-Ok.position (sym c.in-Ok.ensures.position)

pub returns-in-Ok-clause-keys : goal.returns-in-Ok-clause-keys
returns-in-Ok-clause-keys c = entry_list c.self.inside.keys c.args.self.now (are_of c.self.invariant c.self.view_is).keys_are c.in-Ok.ensures.keys

pub returns-in-Err-clause-cell : goal.returns-in-Err-clause-cell
returns-in-Err-clause-cell c = sym (none_got c.in-Err.ensures.keys (are_of c.self.invariant c.self.view_is) c.args.key c.in-Err.field-0 (sym c.in-Err.ensures.position))

pub returns-in-Err-clause-keys : goal.returns-in-Err-clause-keys
returns-in-Err-clause-keys c = entry_list c.self.inside.keys c.args.self.now (are_of c.self.invariant c.self.view_is).keys_are c.in-Err.ensures.keys
