use Rattle.std.proofs.Common.{◌≡◌, ap, ◌∙◌, sym, subst, arith, vec_capacity}
use Rattle.snapshot_store.{specs.Models.IsAt, specs.declared.writers.Phase.TheVariants.Idle, specs.declared.board.Doing.TheVariants.Writing, proofs.Calls.room_on, proofs.Keeps.ticks}
use Rattle.tick_model.specs.Clock.{completed}
use Rattle.snapshot_store.proofs.store.Store.try_begin.Goals as goal

-- a caller has the turn
pub invariant_of-writer : goal.invariant_of-writer
invariant_of-writer c = let at = subst (IsAt c.writer.inside.place.me.0 c.writer.inside.step) (ap (λ z. z.phase) c.writer.view_is ∙ c.requires.idle) c.writer.invariant.at in let p = c.try_turn.ensures.place in let r = c.try_turn.ensures.refused c.if-not-try_turn.true in record {
  alone = p.0.2 ∙ c.writer.invariant.alone;
  small = c.writer.invariant.small;
  room = room_on c.writer.inside.place.me.0 c.try_turn.new.place.me.0 (vec_capacity c.writer.inside.words) p.1.0 c.writer.invariant.room;
  at = subst (IsAt c.try_turn.new.place.me.0 c.writer.inside.step) (sym (ap (λ z. z.phase) c.writer.view_is ∙ c.requires.idle)) (p.1.2 ∙ at.0, r.0 ∙ at.1, p.1.3 ∙ at.2);
}

pub store-requires : goal.store-requires
store-requires c = let at = subst (IsAt c.writer.inside.place.me.0 c.writer.inside.step) (ap (λ z. z.phase) c.writer.view_is ∙ c.requires.idle) c.writer.invariant.at in
    let p = c.try_turn.ensures.place in (
      p.0.0 ∙ (ap (λ z. z.table) c.writer.view_is ∙ (c.requires.own.0 ∙ sym (ap (λ z. z.table) c.self.view_is))),
      (let w = c.self.invariant.words in omega arith),
      ticks c.self.inside.board.shared.key.value _ _ _ c.writer.inside.step 0 _ (p.1.3 ∙ at.2) (c.try_turn.ensures.taken c.if-not-try_turn.false) (let f = at.0 in let k = p.1.2 in let n = c.updating-clock.ensures in omega arith) (λ d e. absurd (let n = c.updating-clock.ensures in omega arith)) (λ d p e. absurd (let n = c.updating-clock.ensures in omega arith)),
    )

pub invariant_of-writer-2 : goal.invariant_of-writer-2
invariant_of-writer-2 c = let t = c.store.ensures.2 in let p = c.try_turn.ensures.place in let r = t.1.0 ∙ (p.1.0 ∙ (ap (λ z. z.run) c.writer.view_is ∙ c.requires.own.1)) in
    let e : completed c.updating-clock.result.0 ≡ c.writer.inside.step = (let n = c.updating-clock.ensures in omega arith) in record {
      alone = t.0 ∙ (p.0.2 ∙ c.writer.invariant.alone);
      small = c.writer.invariant.small;
      room = room_on c.writer.inside.place.me.0 c.store.new.seat.me.0 (vec_capacity c.writer.inside.words) (t.1.0 ∙ p.1.0) c.writer.invariant.room;
      at = (t.1.2 ∙ c.updating-clock.ensures, t.1.4 ∙ c.try_turn.ensures.taken c.if-not-try_turn.false, (let r = c.requires.room in let s = ap (λ z. z.step) c.writer.view_is in omega arith), (c.args.self.now.run, r, t.1.3 ∙ ap (λ z. Writing z 0) e, λ p l. absurd (omega arith)));
    }
