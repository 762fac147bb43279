use Rattle.std.proofs.Common.{◌-◌, ◌∙◌, ℕ, List, Option, Some, ap, cond, arith}
use Rattle.std.{specs.Borrow.Bor, specs.HashMap.get_by, specs.Str.bytes_eq, proofs.lemmas.Cmp.nat_list_eq_equiv, proofs.lemmas.Map.Text.hash_map_updates_str}
use Rattle.feed_reader.proofs.TextLemmas.{ranked_more}
use Rattle.feed_reader.proofs.ranks.Ranks.of.Goals as goal

pub loop-rank-preserved : goal.loop-rank-preserved
loop-rank-preserved c =
    let rank = c.loop-rank.rank - 1 in
    let x = c.index-texts-rank.result in
    let key = c.as_str.result in (
      omega arith,
      λ text.
          let found : Option ℕ = get_by (λ (k : Bor (List ℕ)). bytes_eq text k.now) c.loop-rank.ranks in
          hash_map_updates_str key.now c.loop-rank.ranks c.insert.new.self (Some rank) c.in_ok-insert.ensures.updates text
          ∙ ap (λ same. cond same (Some rank) found) (nat_list_eq_equiv.symm key.now text)
          ∙ ap (λ y. cond (bytes_eq text y) (Some rank) found) c.as_str.ensures
          ∙ ranked_more text c.args.texts.now rank c.loop-rank.rank x found (omega arith) (omega arith) c.index-texts-rank.is (c.loop-rank.invariant.1 text),
    )
