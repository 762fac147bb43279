use Rattle.std.proofs.Common.{◌+◌, ◌∙◌, ap}
use Rattle.viewport.specs.Watching.{Watching}
use Rattle.watched_run.proofs.WatchedRows.{exact, passes, stands_before}
use Rattle.watched_run.proofs.teller.Teller.pass.Goals as goal

pub pass-requires-clause-exact : goal.pass-requires-clause-exact
pass-requires-clause-exact c =
    exact c.args.run.now c.requires.lawful c.args.watch.now c.requires.watch c.args.self.last c.args.self.since c.requires.reached c.args.table.now c.requires.table

pub pass-requires-clause-stands : goal.pass-requires-clause-stands
pass-requires-clause-stands c =
    ap (λ (watching : Watching). watching.table) c.requires.stands.viewport_is
    ∙ stands_before c.args.run.now c.requires.lawful c.args.watch.now c.requires.watch c.args.self.last c.args.self.since c.requires.reached c.args.table.now c.requires.table

pub returns-clause-stands : goal.returns-clause-stands
returns-clause-stands c = record {
  printed_is = c.requires.stands.printed_is;
  viewport_is = c.in_ok-viewport.ensures
      ∙ passes c.args.run.now c.requires.lawful c.args.watch.now c.requires.watch c.args.self.last c.args.self.since c.requires.reached c.args.table.now c.requires.table c.args.self.viewport c.requires.stands.viewport_is;
  mirror_is = c.requires.stands.mirror_is;
}
