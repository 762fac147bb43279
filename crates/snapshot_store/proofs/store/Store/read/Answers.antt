use Rattle.std.proofs.Common.{◌≡◌, ℕ, ◌+◌, ◌*◌, ◌<◌, List, [], ◌∷◌, ◌++◌, length, get_or, ap, ◌∙◌, sym, arith, Some}
use Rattle.tick_model.{specs.declared.feed.Run.Run, specs.Clock.completed, specs.declared.plan.Published.Published}
use Rattle.snapshot_store.{specs.Lines.{count, width, width_in}, proofs.Calls.place_read, proofs.Published.line_named, proofs.Places.whole_line, proofs.Keeps.{looks, counts, looks_again}}
use Rattle.snapshot_store.proofs.store.Store.read.Goals as goal

pub load-first-requires : goal.load-first-requires
load-first-requires c = (
  c.requires.own.0 ∙ sym (ap (λ z. z.table) c.self.view_is),
  (let w = c.self.invariant.words in omega arith),
  looks _ _ _ _,
)

pub load-rows-requires : goal.load-rows-requires
load-rows-requires c = let e = ap (λ z. z.run) c.self.view_is in
    let inside : c.args.number < count c.self.inside.board.shared.key.value = rw e c.requires.number in
    let p = place_read c.self.inside.board.shared.key.value c.args.self.now.run c.load-first.result c.args.number 0 1 c.first_word-start.result c.completed.result
    c.self.invariant.lawful e c.requires.number (omega arith) (omega arith) c.completed.ensures.value c.first_word-start.ensures.value in
    let t = c.load-first.ensures in (
      t.0 ∙ (c.requires.own.0 ∙ sym (ap (λ z. z.table) c.self.view_is)),
      (let a = p.1 in let w = c.self.invariant.words in omega arith),
      counts _ _ _ _ c.load-first.result c.args.number _ (t.2.1.0 ∙ (c.requires.own.1 ∙ ap Some (sym e))) t.2.2 inside (let q = p.0 in omega arith),
    )

pub load-last-requires : goal.load-last-requires
load-last-requires c = let t = c.load-first.ensures in let u = c.load-rows.ensures in (
  c.read_rows.ensures.place.0.0 ∙ (u.0 ∙ (t.0 ∙ (c.requires.own.0 ∙ sym (ap (λ z. z.table) c.self.view_is)))),
  (let w = c.self.invariant.words in omega arith),
  looks_again _ _ _ _,
)

run_is : (c : goal.After-load-last) → c.read_rows.new.place.me.0.run ≡ Some c.args.self.now.run
run_is c = let t = c.load-first.ensures in let u = c.load-rows.ensures in c.read_rows.ensures.place.1.0 ∙ (u.2.1.0 ∙ (t.2.1.0 ∙ c.requires.own.1))

long_enough : (c : goal.After-load-last) → length c.read_rows.new.words.items ≡ 1 + get_or c.read_rows.new.words.items 0 0 * (1 + width c.args.self.now.run c.args.number)
long_enough c =
    let w : c.width.result ≡ width c.args.self.now.run c.args.number = c.width.ensures.value ∙ (ap (λ (z : List Published). width_in z c.args.number) c.self.invariant.laid ∙ ap (λ (z : Run). width z c.args.number) (ap (λ z. z.run) c.self.view_is)) in
    let items : c.push_reserved.new.self.items ≡ c.load-rows.result ∷ [] = c.push_reserved.ensures.items ∙ ap (λ (z : List ℕ). z ++ c.load-rows.result ∷ []) c.clear.ensures.items in
    let first : get_or c.read_rows.new.words.items 0 0 ≡ c.load-rows.result = c.read_rows.ensures.words.1 ∙ ap (λ (z : List ℕ). get_or z 0 0) items in
    let long : length c.read_rows.new.words.items ≡ 1 + c.load-rows.result * (1 + c.width.result) = (let l = c.read_rows.ensures.words.0 in omega arith) in
    long ∙ (λ i. 1 + sym first i * (1 + w i))

pub returns-clause-reading : goal.returns-clause-reading
returns-clause-reading c = let t = c.load-first.ensures in let u = c.load-rows.ensures in let z = c.load-last.ensures in let g = c.read_rows.ensures.place in
    let turn : c.read_rows.new.place.me.0.turn ≡ c.args.place.now.me.0.turn = g.1.3 ∙ (u.2.1.3 ∙ t.2.1.5) in
    let floor : c.read_rows.new.place.me.0.floor ≡ c.load-first.result = g.1.2 ∙ (u.2.1.2 ∙ t.2.1.2) in
    let read = z.2.3 c.args.self.now.run c.args.number c.load-first.result c.read_rows.new.words.items (run_is c) c.read_rows.ensures.reading in record {
      same = (z.0 ∙ (g.0.0 ∙ (u.0 ∙ t.0)), z.1 ∙ (g.0.1 ∙ (u.1 ∙ t.1)), z.2.0 ∙ (g.0.2 ∙ (u.2.0 ∙ t.2.0)));
      names = z.2.1.0 ∙ (g.1.0 ∙ (u.2.1.0 ∙ t.2.1.0));
      turn = z.2.1.5 ∙ turn;
      refusals = z.2.1.6 ∙ (g.1.4 ∙ (u.2.1.4 ∙ t.2.1.6));
      rests = z.2.2;
      looks = z.2.1.1 ∙ ap (λ (l : List ℕ). l ++ c.load-last.result ∷ []) (g.1.1 ∙ (u.2.1.1 ∙ t.2.1.1));
      later = t.2.1.3;
      rises = (let low = z.2.1.3 in omega arith);
      floor = z.2.1.2;
      started = t.2.1.4;
      line_is = λ near. let told = read.0 near in
          whole_line c.args.self.now.run (completed c.load-first.result) c.args.number c.read_rows.new.words.items told.1 (long_enough c) told.0 ∙ line_named c.args.self.now.run (completed c.load-first.result) c.args.number;
      still = λ has. read.1 (turn ∙ has);
    }
