use Rattle.std.proofs.Common.{ap, ◌∙◌, sym, subst, arith, Some}
use Rattle.snapshot_store.{specs.Lines.count, specs.Models.IsAt, specs.declared.writers.Phase.TheVariants.Begun, proofs.Keeps.ticks, proofs.Calls.{at_begun, all_stored, all_whole}}
use Rattle.snapshot_store.proofs.store.Store.finish.Goals as goal

pub store-requires : goal.store-requires
store-requires c = let e = ap (λ z. z.run) c.self.view_is in
    let phase = ap (λ z. z.phase) c.writer.view_is ∙ (c.requires.all ∙ ap (λ z. Begun (count z)) (sym e)) in
    let at = at_begun c.writer.inside.place.me.0 c.self.inside.board.shared.key.value c.writer.inside.step _ (ap (λ z. z.run) c.writer.view_is ∙ (c.requires.own.1 ∙ ap Some (sym e)))
    (subst (IsAt c.writer.inside.place.me.0 c.writer.inside.step) phase c.writer.invariant.at) in (
      ap (λ z. z.table) c.writer.view_is ∙ (c.requires.own.0 ∙ sym (ap (λ z. z.table) c.self.view_is)),
      (let w = c.self.invariant.words in omega arith),
      ticks c.self.inside.board.shared.key.value _ _ _ c.writer.inside.step _ _ at.2 at.3 (let f = at.0 in let n = c.idle-clock.ensures in omega arith)
          (all_stored c.self.inside.board.shared.key.value c.writer.inside.step _ (let n = c.idle-clock.ensures in omega arith)) (all_whole c.self.inside.board.shared.key.value c.writer.inside.step _ (let n = c.idle-clock.ensures in omega arith) at.4),
    )
