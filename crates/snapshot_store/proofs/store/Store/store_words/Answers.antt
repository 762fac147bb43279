use Rattle.std.proofs.Common.{◌≡◌, ◌≢◌, ℕ, ◌+◌, ◌<◌, length, get_or, ap, ◌∙◌, sym, arith, List, refl}
use Rattle.snapshot_store.{specs.Lines.line_of, specs.Models.words_of, proofs.Calls.place_stored, proofs.Keeps.{finds, stores}}
use Rattle.snapshot_store.proofs.store.Store.store_words.Goals as goal

pub overflow_add-word : goal.overflow_add-word
overflow_add-word c = let p = place_stored c.self.inside.board.shared.key.value c.args.self.now.run (c.args.step + 1) c.args.number c.loop-i.i (length c.args.table.now) c.first_word-start.result
    c.self.invariant.lawful (ap (λ z. z.run) c.self.view_is) c.requires.number c.requires.size.0 c.loop-i-test.true c.first_word-start.ensures.value in let s = p.2 in omega arith

pub load-found-requires : goal.load-found-requires
load-found-requires c =
    let run = c.args.self.now.run in
    let line = line_of run (c.args.step + 1) c.args.number in
    let p = place_stored c.self.inside.board.shared.key.value run (c.args.step + 1) c.args.number c.loop-i.i (length c.args.table.now) c.first_word-start.result
    c.self.invariant.lawful (ap (λ z. z.run) c.self.view_is) c.requires.number c.requires.size.0 c.loop-i-test.true c.first_word-start.ensures.value in
    let long : length c.args.table.now ≡ length line = ap length c.requires.table in (
      c.loop-i.invariant.stays.0.0 ∙ (c.requires.own.0 ∙ sym (ap (λ z. z.table) c.self.view_is)),
      (let a = p.1 in let w = c.self.invariant.words in omega arith),
      rw (ap (λ z. z.run) c.self.view_is) (finds run _ _ _ c.args.step (words_of run (c.args.step + 1) c.args.number + c.loop-i.i) c.args.number c.loop-i.i _ c.loop-i.invariant.writing
          (let f = c.loop-i.invariant.stays.1.2 ∙ c.requires.step.1 in omega arith) c.requires.number (omega arith) p.3 p.0 refl
          (λ z. let few = c.requires.size.1 in let e : get_or line c.loop-i.i 0 ≡ get_or c.args.table.now 0 0 = sym (ap (λ (z : List ℕ). get_or z c.loop-i.i 0) c.requires.table) ∙ ap (λ (k : ℕ). get_or c.args.table.now k 0) z in omega arith)),
    )

pub store-requires : goal.store-requires
store-requires c =
    let run = c.args.self.now.run in
    let line = line_of run (c.args.step + 1) c.args.number in
    let i = c.loop-i.i in
    let stays = c.loop-i.invariant.stays in
    let looked = c.load-found.ensures in
    let p = place_stored c.self.inside.board.shared.key.value run (c.args.step + 1) c.args.number i (length c.args.table.now) c.first_word-start.result
    c.self.invariant.lawful (ap (λ z. z.run) c.self.view_is) c.requires.number c.requires.size.0 c.loop-i-test.true c.first_word-start.ensures.value in
    let long : length c.args.table.now ≡ length line = ap length c.requires.table in
    let inside : i < length line = (let t = c.loop-i-test.true in omega arith) in
    let value : get_or c.args.table.now i 0 ≡ get_or line i 0 = ap (λ (z : List ℕ). get_or z i 0) c.requires.table in
    let other : c.load-found.result ≢ get_or line i 0 = λ (e : c.load-found.result ≡ get_or line i 0). (let h = c.if-found-value.true in omega arith) in
    let told = looked.2.2 run c.args.step (words_of run (c.args.step + 1) c.args.number + i) c.args.number i (stays.1.0 ∙ c.requires.own.1) c.loop-i.invariant.writing inside refl in (
      looked.0 ∙ (stays.0.0 ∙ (c.requires.own.0 ∙ sym (ap (λ z. z.table) c.self.view_is))),
      (let a = p.1 in let w = c.self.invariant.words in omega arith),
      rw (ap (λ z. z.run) c.self.view_is) (stores run _ _ _ c.args.step (words_of run (c.args.step + 1) c.args.number + i) c.args.number i _ _ (told.1 other ∙ c.loop-i.invariant.writing)
          (let f = looked.2.1.2 ∙ (stays.1.2 ∙ c.requires.step.1) in omega arith) c.requires.number inside p.3 p.0 value refl
          (λ z. let few = c.requires.size.1 in let e : get_or c.args.table.now i 0 ≡ get_or c.args.table.now 0 0 = ap (λ (k : ℕ). get_or c.args.table.now k 0) z in omega arith)),
    )
