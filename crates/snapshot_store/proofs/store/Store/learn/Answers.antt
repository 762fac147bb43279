use Rattle.std.proofs.Common.{◌≡◌, ℕ, ◌≤◌, max, List, [], ◌∷◌, ◌++◌, ap, ◌∙◌, sym, subst, arith, Some}
use Rattle.snapshot_store.{specs.Looks.{last_or, NeverFalls}, proofs.Keeps.{meets, learns}, proofs.Calls.{last_more, never_falls_more}}
use Rattle.snapshot_store.proofs.store.Store.learn.Goals as goal

pub join_seat-requires : goal.join_seat-requires
join_seat-requires c = let own = sym (ap (λ z. z.table) c.self.view_is) in (
  ap (λ z. z.table) c.caller.view_is ∙ (c.requires.own.0 ∙ own),
  ap (λ z. z.table) c.note.view_is ∙ (c.requires.note.0 ∙ own),
  c.note.invariant.alone,
  (let w = c.self.invariant.words in omega arith),
  meets _ _ _ _ _ c.note.invariant.free,
)

pub load-caller-inside-requires : goal.load-caller-inside-requires
load-caller-inside-requires c = (
  c.join_seat.ensures.0 ∙ (ap (λ z. z.table) c.caller.view_is ∙ (c.requires.own.0 ∙ sym (ap (λ z. z.table) c.self.view_is))),
  (let w = c.self.invariant.words in omega arith),
  learns _ _ _ _,
)

looks_are : (c : goal.After-caller-1) → c.load-caller-inside.new.seat.me.0.looks ≡ c.caller.inside.place.me.0.looks ++ c.load-caller-inside.result ∷ []
looks_are c = c.load-caller-inside.ensures.2.1.1 ∙ ap (λ z. z.0.looks ++ c.load-caller-inside.result ∷ []) c.join_seat.ensures.2

floors : (c : goal.After-caller-1) → max c.caller.inside.place.me.0.floor c.note.inside.place.me.0.floor ≤ c.load-caller-inside.result
floors c = let e = ap (λ z. z.0.floor) c.join_seat.ensures.2 in let l = c.load-caller-inside.ensures.2.1.3 in omega arith

rises : (c : goal.After-caller-1) → NeverFalls 1 c.load-caller-inside.new.seat.me.0.looks
rises c = subst (NeverFalls 1) (sym (looks_are c)) (never_falls_more 1 c.caller.inside.place.me.0.looks c.load-caller-inside.result c.caller.invariant.rises
    (let f = floors c in let a = c.caller.invariant.last in let b = c.caller.invariant.below_floor in omega arith))

last_is : (c : goal.After-caller-1) → last_or 1 c.load-caller-inside.new.seat.me.0.looks ≡ c.load-caller-inside.result
last_is c = ap (λ (x : List ℕ). last_or 1 x) (looks_are c) ∙ last_more 1 c.caller.inside.place.me.0.looks c.load-caller-inside.result

pub invariant_of-caller : goal.invariant_of-caller
invariant_of-caller c = let z = c.load-caller-inside.ensures in let j = c.join_seat.ensures.2 in record {
  rests = z.2.2;
  free = z.2.1.5 ∙ (ap (λ x. x.0.turn) j ∙ c.caller.invariant.free);
  alone = z.2.0 ∙ (ap (λ x. x.1) j ∙ c.caller.invariant.alone);
  last = last_is c;
  below_floor = (let e = z.2.1.2 in omega arith);
  started = z.2.1.4;
  rises = rises c;
  room = λ run p named inside. c.caller.invariant.room run p (sym (ap (λ x. x.0.run) j) ∙ (sym z.2.1.0 ∙ named)) inside;
}

pub returns-clause-rises : goal.returns-clause-rises
returns-clause-rises c = rises c

pub returns-clause-told : goal.returns-clause-told
returns-clause-told c = let f = floors c in let n = c.note.invariant.completed_is in let s = ap (λ z. z.step) c.note.view_is in let l = last_is c in omega arith

pub returns-clause-met : goal.returns-clause-met
returns-clause-met c =
    let key = c.self.inside.board.shared.key in
    let run_is : key.value ≡ c.args.self.now.run = ap (λ z. z.run) c.self.view_is in
    let met = c.load-caller-inside.ensures.2.3 key.value (ap (λ x. x.0.run) c.join_seat.ensures.2 ∙ (ap (λ z. z.run) c.caller.view_is ∙ (c.requires.own.1 ∙ ap Some (sym run_is)))) in
    (key, met.0, run_is, met.1, last_is c ∙ sym met.2)
