use Rattle.std.proofs.Common.{sym, vec_capacity, le_of_eq}
use Rattle.snapshot_store.proofs.Calls.{refused_on, turns_on}
use Rattle.snapshot_store.proofs.store.Store.read_with_turn.Goals as goal

pub invariant_of-caller : goal.invariant_of-caller
invariant_of-caller c = let t = c.try_turn.ensures.place in
    refused_on c.caller.inside.place c.try_turn.new.place c.caller.inside.seen (vec_capacity c.caller.inside.words) c.caller.invariant t.0.2 t.1 (c.try_turn.ensures.refused c.if-not-try_turn.true).0

pub invariant_of-caller-2 : goal.invariant_of-caller-2
invariant_of-caller-2 c = let t = c.try_turn.ensures.place in let b = c.give_turn.ensures.place in
    (turns_on _ _ _ _ _ _ _ c.caller.inside.seen (vec_capacity c.caller.inside.words) c.read-first.ensures.reading c.caller.inside.place (t.0.2, t.1.0, t.1.1, t.1.2) c.caller.invariant c.give_turn.new.place (b.0.2, b.1) c.give_turn.ensures.turn
    (vec_capacity c.read-first.new.words) (le_of_eq (sym c.read-first.ensures.room))).3

pub returns-clause-rises : goal.returns-clause-rises
returns-clause-rises c = let t = c.try_turn.ensures.place in let b = c.give_turn.ensures.place in
    (turns_on _ _ _ _ _ _ _ c.caller.inside.seen (vec_capacity c.caller.inside.words) c.read-first.ensures.reading c.caller.inside.place (t.0.2, t.1.0, t.1.1, t.1.2) c.caller.invariant c.give_turn.new.place (b.0.2, b.1) c.give_turn.ensures.turn
    (vec_capacity c.read-first.new.words) (le_of_eq (sym c.read-first.ensures.room))).2
