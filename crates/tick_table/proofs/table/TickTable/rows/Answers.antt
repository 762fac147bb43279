use Rattle.std.proofs.Common.{subst}
use Rattle.tick_model.specs.Tables.{IsTable}
use Rattle.tick_table.{specs.Ticking.Ticking, proofs.Before.now_keys}
use Rattle.tick_table.proofs.table.TickTable.rows.Goals as goal

pub returns-clause-keys : goal.returns-clause-keys
returns-clause-keys c = let s = c.self.inside in now_keys s.rows s.prev_rows s.placed s.update s.told c.self.invariant c.args.self.now c.self.view_is

pub returns-clause-table : goal.returns-clause-table
returns-clause-table c = subst (λ (table : Ticking). IsTable table.new) c.self.view_is c.self.invariant.now_table
