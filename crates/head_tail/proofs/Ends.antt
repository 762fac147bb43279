-- The rows at one end of a table without those that are there on the other side of a step.
use Rattle.std.proofs.Common.{◌≡◌, refl, ap, ap₂, sym, ◌∙◌, Bool, true, false, not, ◌&&◌, ◌||◌, ℕ, ◌-◌, List, filter, take, drop, length}
use Rattle.std.specs.Prelude.{nat_lt}
use Rattle.key_lists.{specs.Keys.{is_among, IsRising, without}, proofs.Among.{among-filter, of_among}, proofs.Booleans.{and_false, and_true}, proofs.Every.and_swap, proofs.Rising.{rising_same, rising_some}}
use Rattle.row_set.{specs.Sets.{count_below, united}, proofs.United.{among-united, united_rises}, proofs.Windows.{rising-drop, rising-take}}
use Rattle.head_tail.{proofs.Cuts.{among_between, among_front, among_rest, drop-filter, take-drop, take-filter}, proofs.Positions.{AreOf, IsEdge, below_edge, drop-below, take-below}}

-- r: it is one of the others, k: one of the keys, l: below the edge, b: before the position, a: before the place
first_cases : (r l b a : Bool) → (r ≡ true → l ≡ b) → ((l && r) || (b && not a)) ≡ (not (not r && a) && b)
first_cases true l true a f = ap (λ l. (l && true) || not a) (f refl)
first_cases true l false a f = ap (λ l. (l && true) || false) (f refl)
first_cases false l b a f = ap (λ x. x || (b && not a)) (and_false l) ∙ and_swap b (not a)

last_cases : (r k l b a : Bool) → (r ≡ true → l ≡ b) → (r ≡ true → k ≡ true) → (a ≡ true → k ≡ true) → ((not l && r) || (a && not b)) ≡ (not (not r && (k && not a)) && (k && not b))
last_cases r true l b a f g h = ap (λ x. (not l && r) || x) (turned a) ∙ first_cases r (not l) (not b) (not a) (λ e. ap not (f e))
  where
    turned : (a : Bool) → (a && not b) ≡ (not b && not (not a))
    turned true = sym (and_true (not b))
    turned false = sym (and_false (not b))
last_cases true false l b a f g h = cc (g refl)
last_cases false false l b true f g h = cc (h refl)
last_cases false false l b false f g h = ap (λ x. x || false) (and_false (not l))

module _ (keys others : List ℕ) (rising : IsRising keys) (others_rise : IsRising others) (of : AreOf others keys) (edge position place staying : ℕ) (is : IsEdge edge position keys) (so_many : length (without others (take place keys)) ≡ staying) where
  first_staying : take staying (without others keys) ≡ without others (take place keys)
  first_staying = ap (λ n. take n (without others keys)) (sym so_many) ∙ take-filter (λ key. not (is_among key others)) place keys

  other_staying : drop staying (without others keys) ≡ without others (drop place keys)
  other_staying = ap (λ n. drop n (without others keys)) (sym so_many) ∙ drop-filter (λ key. not (is_among key others)) place keys

  pub first_is : united (take (count_below edge others) others) (take (position - place) (drop place keys)) ≡ without (take staying (without others keys)) (take position keys)
  first_is =
      ap₂ united (take-below edge others others_rise) (take-drop position place keys)
      ∙ rising_same (united (filter (λ key. nat_lt key edge) others) (drop place (take position keys))) (without (without others (take place keys)) (take position keys))
      (united_rises (filter (λ key. nat_lt key edge) others) (drop place (take position keys)) (rising-drop place (take position keys) (rising-take position keys rising)))
      (rising_some (λ key. not (is_among key (without others (take place keys)))) (take position keys) (rising-take position keys rising))
      (λ key.
      among-united key (filter (λ key. nat_lt key edge) others) (drop place (take position keys))
      ∙ ap₂ (λ a b. a || b) (among-filter (λ key. nat_lt key edge) key others) (among_between key position place keys rising)
      ∙ first_cases (is_among key others) (nat_lt key edge) (is_among key (take position keys)) (is_among key (take place keys)) (below_edge keys others rising others_rise of edge position is key)
      ∙ ap (λ b. not b && is_among key (take position keys)) (sym (among-filter (λ key. not (is_among key others)) key (take place keys)))
      ∙ sym (among-filter (λ key. not (is_among key (without others (take place keys)))) key (take position keys)))
      ∙ ap (λ some. without some (take position keys)) (sym first_staying)

  pub last_is : united (drop (count_below edge others) others) (take (place - position) (drop position keys)) ≡ without (drop staying (without others keys)) (drop position keys)
  last_is =
      ap₂ united (drop-below edge others others_rise) (take-drop place position keys)
      ∙ rising_same (united (filter (λ key. not (nat_lt key edge)) others) (drop position (take place keys))) (without (without others (drop place keys)) (drop position keys))
      (united_rises (filter (λ key. not (nat_lt key edge)) others) (drop position (take place keys)) (rising-drop position (take place keys) (rising-take place keys rising)))
      (rising_some (λ key. not (is_among key (without others (drop place keys)))) (drop position keys) (rising-drop position keys rising))
      (λ key.
      among-united key (filter (λ key. not (nat_lt key edge)) others) (drop position (take place keys))
      ∙ ap₂ (λ a b. a || b) (among-filter (λ key. not (nat_lt key edge)) key others) (among_between key place position keys rising)
      ∙ last_cases (is_among key others) (is_among key keys) (nat_lt key edge) (is_among key (take position keys)) (is_among key (take place keys)) (below_edge keys others rising others_rise of edge position is key)
      (of_among (λ k. is_among k keys ≡ true) key others of) (among_front key place keys)
      ∙ ap₂ (λ a b. not (not (is_among key others) && a) && b) (sym (among_rest key place keys rising)) (sym (among_rest key position keys rising))
      ∙ ap (λ b. not b && is_among key (drop position keys)) (sym (among-filter (λ key. not (is_among key others)) key (drop place keys)))
      ∙ sym (among-filter (λ key. not (is_among key (without others (drop place keys)))) key (drop position keys)))
      ∙ ap (λ some. without some (drop position keys)) (sym other_staying)
