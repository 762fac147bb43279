use Rattle.std.proofs.Common.{rules, ◌≡◌, ◌++◌, [], ◌∷◌, sym, subst}
use Rattle.steal_workers.{specs.Hands.AllRested, proofs.Marking.{AllBare, bare_crewed, bare_more, rested_more}}
use Rattle.steal_workers.proofs.raising.bare_hands.Goals as goal

pub loop-place-preserved : goal.loop-place-preserved
loop-place-preserved c =
    let i = c.loop-place.invariant in
    let hands = c.loop-place.hands.items in
    let h = c.in_ok-bare_hand.field-0 in
    let told = c.in_ok-bare_hand.ensures in
    let now : c.push_reserved.new.self.items ≡ hands ++ h ∷ [] = search rules in
    record {
      len = search rules;
      room = search rules;
      bare = subst AllBare (sym now) (bare_more hands h i.bare told.bare);
      rested = subst AllRested (sym now) (rested_more hands h i.rested told.rested);
    }

pub returns-clause-crew : goal.returns-clause-crew
returns-clause-crew c = bare_crewed c.loop-place.hands.items c.loop-place.invariant.bare c.loop-place.invariant.rested
