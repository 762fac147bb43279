use Rattle.std.proofs.Common.{ap, ◌∙◌, sym, subst, arith, vec_capacity}
use Rattle.snapshot_store.{specs.declared.board.StoreView.StoreView, specs.Models.{IsAt, HasRoom}, proofs.Keeps.parts}
use Rattle.snapshot_store.proofs.store.Store.note.Goals as goal

pub split_seat-place-requires : goal.split_seat-place-requires
split_seat-place-requires c = (
  ap (λ z. z.table) c.writer.view_is ∙ (c.requires.own.0 ∙ sym (ap (λ z. z.table) c.self.view_is)),
  (let w = c.self.invariant.words in omega arith),
  parts _ _ _,
)

pub invariant_of-writer : goal.invariant_of-writer
invariant_of-writer c = let t = c.split_seat-place.ensures in record {
  alone = ap (λ z. z.1) t.2 ∙ c.writer.invariant.alone;
  small = c.writer.invariant.small;
  room = subst (λ (z : StoreView). HasRoom z (vec_capacity c.writer.inside.words)) (sym (ap (λ z. z.0) t.2)) c.writer.invariant.room;
  at = subst (λ z. IsAt z c.writer.inside.step c.writer.inside.phase) (sym (ap (λ z. z.0) t.2)) c.writer.invariant.at;
}
