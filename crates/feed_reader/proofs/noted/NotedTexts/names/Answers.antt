use Rattle.std.proofs.Common.{◌≡◌, ℕ, List, map, ◌∙◌, sym, ap, rules}
use Rattle.std.{specs.Borrow.Bor, specs.Map.Iter.deref, proofs.lemmas.Map.Iter.iter_end}
use Rattle.key_lists.proofs.Every.{map_map}
use Rattle.feed_reader.proofs.noted.NotedTexts.names.Goals as goal

pub returns : goal.returns
returns c =
    let all : map (deref {X = Bor (List ℕ)}) c.loop-text.yielded ≡ c.self.inside.ordered.keys = search (rules, iter_end) in
    c.loop-text.invariant
    ∙ sym (map_map (λ (text : Bor (List ℕ)). text.now) (deref {X = Bor (List ℕ)}) c.loop-text.yielded)
    ∙ ap (map (λ (text : Bor (List ℕ)). text.now)) all
    ∙ c.self.view_is
