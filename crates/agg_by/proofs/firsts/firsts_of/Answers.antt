use Rattle.std.proofs.Common.{◌≡◌, ap, sym, ◌∙◌, subst, Bool, true, false, ◌||◌, ◌==◌, ℕ, ◌+◌, ◌<◌, List, length, get_or, take, refl}
use Rattle.std.{specs.List.list_any, proofs.lemmas.List.Folds.list_any_more}
use Rattle.key_lists.specs.Keys.{IsRising, is_among}
use Rattle.row_set.{specs.Ranges.keys_from, specs.Sets.united, proofs.United.{among-with_key, one_key, united_rises}}
use Rattle.agg_by.specs.declared.firsts.LedGroup.{LedGroup}
use Rattle.agg_by.proofs.firsts.firsts_of.Goals as goal

abbrev blank : LedGroup
blank = record { first = 0; number = 0 }

last_first : (a b : Bool) → (a || b) ≡ (b || a)
last_first true true = refl
last_first true false = refl
last_first false true = refl
last_first false false = refl

among_more : (first : ℕ) (set : List ℕ) (led : List LedGroup) (i : ℕ) → i < length led → is_among first set ≡ list_any (λ (group : LedGroup). group.first == first) (take i led)
    → is_among first (united (keys_from (get_or led i blank).first (get_or led i blank).first) set) ≡ list_any (λ (group : LedGroup). group.first == first) (take (i + 1) led)
among_more first set led i within so_far =
    let key = (get_or led i blank).first in
    ap (λ (keys : List ℕ). is_among first (united keys set)) (one_key key) ∙ among-with_key first key set ∙ last_first (key == first) (is_among first set)
    ∙ ap (λ b. b || (key == first)) so_far ∙ sym (list_any_more (λ (group : LedGroup). group.first == first) led i blank within)

pub loop-group-preserved : goal.loop-group-preserved
loop-group-preserved c =
    let led = c.args.led.now in
    let i = c.loop-group.group-index in
    let key = (get_or led i blank).first in record {
      firsts = λ first. ap (is_among first) c.in_ok-insert_range.ensures.ok ∙ among_more first c.loop-group.firsts led i c.loop-group-test.true (c.loop-group.invariant.firsts first);
      rising = subst IsRising (sym c.in_ok-insert_range.ensures.ok) (united_rises (keys_from key key) c.loop-group.firsts c.loop-group.invariant.rising);
    }
