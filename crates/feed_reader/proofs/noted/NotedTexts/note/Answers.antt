use Rattle.std.proofs.Common.{◌≡◌, ℕ, List, map, false, ◌∙◌, sym, ap, subst}
use Rattle.std.{specs.Borrow.Bor, specs.BTreeSet.{BTreeSet, insert_key}, proofs.lemmas.Bool.cond-false}
use Rattle.tick_model.{specs.Changes.is_none, specs.LawfulRuns.AreTexts}
use Rattle.feed_reader.{specs.Noted.noted, proofs.OrderLemmas.{order, are_inserted}, proofs.TextLemmas.{inserted_same, not_none}}
use Rattle.feed_reader.proofs.noted.NotedTexts.note.Goals as goal

-- the list of the set with one more text
with_one : (text : Bor (List ℕ)) (old new : BTreeSet (Bor (List ℕ))) → new.keys ≡ insert_key (λ (x y : Bor (List ℕ)). order x.now y.now) old.keys text → noted new ≡ insert_key order (noted old) text.now
with_one text old new is = ap (map (λ (t : Bor (List ℕ)). t.now)) is ∙ inserted_same text old.keys

pub invariant_of-self-2 : goal.invariant_of-self-2
invariant_of-self-2 c =
    let some : is_none c.args.text.now ≡ false = not_none c.args.text.now (sym c.is_empty.ensures ∙ c.if-is_empty.false) in
    subst AreTexts (sym (with_one c.args.text c.self.inside.ordered c.insert.new.self c.in_ok-insert.ensures.keys)) (are_inserted (noted c.self.inside.ordered) c.args.text.now some c.self.invariant)

pub returns : goal.returns
returns c =
    let some : is_none c.args.text.now ≡ false = not_none c.args.text.now (sym c.is_empty.ensures ∙ c.if-is_empty.false) in
    with_one c.args.text c.self.inside.ordered c.insert.new.self c.in_ok-insert.ensures.keys
    ∙ ap (λ (texts : List (List ℕ)). insert_key order texts c.args.text.now) c.self.view_is
    ∙ sym (cond-false (is_none c.args.text.now) _ _ some)
