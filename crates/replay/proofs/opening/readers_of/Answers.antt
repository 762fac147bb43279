use Rattle.std.proofs.Common.{◌≡◌, ◌+◌, ◌++◌, ◌∷◌, [], sym, ap, subst, arith, length, length-append, Some}
use Rattle.std.{specs.List.All, proofs.lemmas.List.Elements.{All-pop, All-push}}
use Rattle.snapshot_store.specs.Models.{IsNewCaller}
use Rattle.replay.proofs.KeptInEnd.{IsNewReader, new_is_reader}
use Rattle.replay.proofs.opening.readers_of.Goals as goal

pub loop-caller-preserved : goal.loop-caller-preserved
loop-caller-preserved c =
    let so_far = c.loop-caller.invariant in
    let popped = All-pop (IsNewCaller c.args.store.now) c.loop-caller.callers.items c.pop.new.self.items (Some c.in-Some.caller) c.in-Some.ensures.items so_far.left in
    record {
      left = popped.0;
      new = subst (All (IsNewReader c.args.store.now)) (sym c.in_ok-push.ensures.items)
          (All-push (IsNewReader c.args.store.now) c.loop-caller.readers.items c.new.result so_far.new
          (record { new = subst (IsNewCaller c.args.store.now) (sym c.new.ensures.caller) popped.1; nothing = c.new.ensures.nothing }));
      count = omega (arith, so_far.count, ap length c.in_ok-push.ensures.items, ap length c.in-Some.ensures.items, length-append c.loop-caller.readers.items (c.new.result ∷ []), length-append c.pop.new.self.items (c.in-Some.caller ∷ []));
    }

pub returns-clause-each : goal.returns-clause-each
returns-clause-each c = λ attempts i d less. new_is_reader c.args.store.now attempts i _ (c.loop-caller.invariant.new i d less)
