use Rattle.std.proofs.Common.{◌%◌, ap, ◌∙◌}
use Rattle.snapshot_store.{specs.Lines.spot, proofs.Calls.first_place}
use Rattle.tick_model.specs.declared.feed.Run.{Run}
use Rattle.snapshot_store.proofs.store.Store.first_word.Goals as goal

pub returns-clause-value : goal.returns-clause-value
returns-clause-value c =
    first_place c.self.inside.board.shared.key.value c.self.inside.layout (c.args.step % 2) c.bank.result c.start.result c.args.number c.self.invariant.laid c.bank.ensures.value c.start.ensures.value
    ∙ ap (λ (z : Run). spot z (c.args.step % 2) c.args.number 0) (ap (λ z. z.run) c.self.view_is)
