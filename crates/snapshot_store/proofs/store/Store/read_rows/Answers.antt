use Rattle.std.proofs.Common.{◌≡◌, ℕ, ◌+◌, ◌*◌, ◌%◌, List, [], ◌∷◌, length, get_or, ap, ◌∙◌, sym, arith}
use Rattle.std.proofs.Math.ListN.{get_or-append}
use Rattle.snapshot_store.{specs.Lines.{width, spot}, specs.declared.board.Doing.TheVariants.Reading, proofs.Calls.place_read, proofs.Keeps.reads}
use Rattle.tick_model.specs.Clock.{completed}
use Rattle.snapshot_store.proofs.store.Store.read_rows.Goals as goal

pub overflow_add-start : goal.overflow_add-start
overflow_add-start c = let p = place_read c.self.inside.board.shared.key.value c.args.self.now.run c.args.first c.args.number c.loop-i.i c.args.end c.first_word-start.result c.completed.result
    c.self.invariant.lawful (ap (λ z. z.run) c.self.view_is) c.requires.number c.requires.size.1 c.loop-i-test.true c.completed.ensures.value c.first_word-start.ensures.value in let s = p.2 in omega arith

pub load-word-requires : goal.load-word-requires
load-word-requires c = let p = place_read c.self.inside.board.shared.key.value c.args.self.now.run c.args.first c.args.number c.loop-i.i c.args.end c.first_word-start.result c.completed.result
    c.self.invariant.lawful (ap (λ z. z.run) c.self.view_is) c.requires.number c.requires.size.1 c.loop-i-test.true c.completed.ensures.value c.first_word-start.ensures.value in
    let as_many : length c.loop-i.words.items ≡ c.loop-i.i = omega arith in (
      c.loop-i.invariant.stays.0.0 ∙ (c.requires.own ∙ sym (ap (λ z. z.table) c.self.view_is)),
      (let a = p.1 in let w = c.self.invariant.words in omega arith),
      reads c.self.inside.board.shared.key.value _ _ _ c.args.first c.args.number _ c.loop-i.words.items c.loop-i.invariant.reading
          (p.0 ∙ ap (λ (z : ℕ). spot c.self.inside.board.shared.key.value (completed c.args.first % 2) c.args.number z) (sym as_many))
          (omega arith)
          (let head : get_or c.loop-i.words.items 0 0 ≡ get_or c.args.words.now.items 0 0 = c.loop-i.invariant.head in let e = ap (λ z. z.run) c.self.view_is in
          let size : c.args.end ≡ 1 + get_or c.loop-i.words.items 0 0 * (1 + width c.self.inside.board.shared.key.value c.args.number) = c.requires.size.0 ∙ (λ i. 1 + sym head i * (1 + width (sym e i) c.args.number)) in omega arith),
    )

pub loop-i-preserved : goal.loop-i-preserved
loop-i-preserved c = let t = c.load-word.ensures in let old = c.loop-i.invariant.stays in let s = t.2.1 in let more = c.push_reserved.ensures in record {
  stays = ((t.0 ∙ old.0.0, t.1 ∙ old.0.1, t.2.0 ∙ old.0.2), (s.0 ∙ old.1.0, s.1 ∙ old.1.1, s.2 ∙ old.1.2, s.3 ∙ old.1.3, s.4 ∙ old.1.4));
  reading = t.2.2 c.args.number c.args.first c.loop-i.words.items c.loop-i.invariant.reading ∙ ap (λ z. Reading c.args.number c.args.first z) (sym more.items);
  as_many = omega arith;
  head = ap (λ (z : List ℕ). get_or z 0 0) more.items ∙ (get_or-append c.loop-i.words.items (c.load-word.result ∷ []) 0 0 (omega arith) ∙ c.loop-i.invariant.head);
  room = more.capacity ∙ c.loop-i.invariant.room;
}
