-- Where the parts of the deques are, as passes are given and come back.
use Rattle.std.proofs.Common.{◌≡◌, ◌≢◌, ℕ, zero, suc, ◌+◌, ◌<◌, ◌≤◌, Bool, true, false, cond, eqb, eq-eqb, ne_eqb, List, [], ◌∷◌, length, set, sym, refl, ap, ◌∙◌, subst, arith, ⊎_elim}
use Rattle.graph_words.proofs.Marks.{below_of}
use mathlib.Core.Logic.{dite}
use mathlib.Core.Option.{some, none, some-injective, some-ne-none}
use mathlib.Core.Option as maybe
use native.Mathlib.Decide.{ℕ_discrete}
use lib.ListN.{get_elem?}
use Rattle.crossbeam_deque.proofs.Lists.{at_set, set_here, set_else}
use Rattle.steal_workers.specs.Musters.{HandMark, IsCrewed, RaidMark, nothing, passes_at, passes_in, passes_of, passes_out}

abbrev pub one_pass : ℕ → ℕ → ℕ
one_pass k j = cond (eqb j k) 1 0

pub out_set : (k i : ℕ) (hands : List HandMark) (m m' : HandMark) → get_elem? hands i ≡ some m → passes_out k (set hands i m') + passes_at k m ≡ passes_out k hands + passes_at k m'
out_set k i [] m m' there = absurd (some-ne-none m (sym there))
out_set k zero (x ∷ xs) m m' there = let same : passes_at k x ≡ passes_at k m = ap (passes_at k) (some-injective x m there) in omega (arith, same)
out_set k (suc i) (x ∷ xs) m m' there = let rest = out_set k i xs m m' there in omega (arith, rest)

few_passes : (o : maybe.Option RaidMark) → passes_in o ≤ 1
few_passes none = omega arith
few_passes (some raid) = go raid.armed
  where
    go : (b : Bool) → cond b 1 0 ≤ 1
    go true = omega arith
    go false = omega arith

pub out_most : (k : ℕ) (hands : List HandMark) → passes_out k hands ≤ length hands
out_most k [] = omega arith
out_most k (x ∷ xs) = let here = few_passes (get_elem? x.raids k) in let rest = out_most k xs in omega (arith, here, rest)

pub out_none : (k : ℕ) (hands : List HandMark) → ((i : ℕ) → i < length hands → passes_of hands i k ≡ 0) → passes_out k hands ≡ 0
out_none k [] none_there = refl
out_none k (x ∷ xs) none_there =
    let here = none_there 0 (omega arith) in
    let rest = out_none k xs (λ i within. none_there (suc i) (omega (arith, within))) in
    omega (arith, here, rest)

pub of_set_here : (hands : List HandMark) (i k : ℕ) (m m' : HandMark) → get_elem? hands i ≡ some m → passes_of (set hands i m') i k ≡ passes_at k m'
of_set_here [] i k m m' there = absurd (some-ne-none m (sym there))
of_set_here (x ∷ xs) zero k m m' there = refl
of_set_here (x ∷ xs) (suc i) k m m' there = of_set_here xs i k m m' there

pub of_set_else : (hands : List HandMark) (i j k : ℕ) (m' : HandMark) → j ≢ i → passes_of (set hands i m') j k ≡ passes_of hands j k
of_set_else [] i j k m' ne = refl
of_set_else (x ∷ xs) zero zero k m' ne = absurd (ne refl)
of_set_else (x ∷ xs) zero (suc j) k m' ne = refl
of_set_else (x ∷ xs) (suc i) zero k m' ne = refl
of_set_else (x ∷ xs) (suc i) (suc j) k m' ne = of_set_else xs i j k m' (λ e. ne (ap suc e))

pub of_there : (hands : List HandMark) (i k : ℕ) (m : HandMark) → get_elem? hands i ≡ some m → passes_of hands i k ≡ passes_at k m
of_there [] i k m there = absurd (some-ne-none m (sym there))
of_there (x ∷ xs) zero k m there = ap (passes_at k) (some-injective x m there)
of_there (x ∷ xs) (suc i) k m there = of_there xs i k m there

-- a hand is replaced by one with the same deques
module _ (spare spare' : ℕ → ℕ) (hands : List HandMark) (i : ℕ) (m m' : HandMark) (kept : IsCrewed spare hands) (there : get_elem? hands i ≡ some m) (deque : m'.deque ≡ m.deque)
    (raids : (k : ℕ) (raid' : RaidMark) → get_elem? m'.raids k ≡ some raid' → (raid : RaidMark) × (get_elem? m.raids k ≡ some raid) × (raid'.deque ≡ raid.deque)) where
  abbrev Before : ℕ → HandMark → Type 0
  Before a hand' = (hand : HandMark) × (get_elem? hands a ≡ some hand) × (hand'.deque ≡ hand.deque) × ((k : ℕ) (raid' : RaidMark) → get_elem? hand'.raids k ≡ some raid' → (raid : RaidMark) × (get_elem? hand.raids k ≡ some raid) × (raid'.deque ≡ raid.deque))

  before : (a : ℕ) (hand' : HandMark) → get_elem? (set hands i m') a ≡ some hand' → Before a hand'
  before a hand' at = ⊎_elim
      (λ (x : (a ≡ i) × (m' ≡ hand')). subst (Before a) x.1 (m, ap (get_elem? hands) x.0 ∙ there, deque, raids))
      (λ (x : (a ≢ i) × (get_elem? hands a ≡ some hand')). (hand', x.1, refl, λ k raid is. (raid, is, refl)))
      (at_set hands i a m' hand' at)

  crewed_set : ((k : ℕ) → k ≢ i → passes_at k m' + spare' k ≡ passes_at k m + spare k) → m'.parts + passes_at i m' + spare' i ≡ m.parts + passes_at i m + spare i → IsCrewed spare' (set hands i m')
  crewed_set others own = record {
    tied = λ a k hand' other' raid' at raid_at other_at.
        let hand = before a hand' at in
        let other = before k other' other_at in
        let raid = hand.3 k raid' raid_at in
        raid.2 ∙ kept.tied a k hand.0 other.0 raid.0 hand.1 raid.1 other.1 ∙ sym other.2;
    counted = λ k hand' at. ⊎_elim
        (λ (x : (k ≡ i) × (m' ≡ hand')). subst (λ (h : HandMark). h.parts + passes_out k (set hands i m') + spare' k ≡ 1024) x.1 (subst (λ j. m'.parts + passes_out j (set hands i m') + spare' j ≡ 1024) (sym x.0) here))
        (λ (x : (k ≢ i) × (get_elem? hands k ≡ some hand')). else k hand' x.0 x.1)
        (at_set hands i k m' hand' at);
  }
    where
      here : m'.parts + passes_out i (set hands i m') + spare' i ≡ 1024
      here = let moved = out_set i i hands m m' there in let before_it = kept.counted i m there in omega (arith, moved, before_it, own)

      else : (k : ℕ) (hand : HandMark) → k ≢ i → get_elem? hands k ≡ some hand → hand.parts + passes_out k (set hands i m') + spare' k ≡ 1024
      else k hand ne at = let moved = out_set k i hands m m' there in let before_it = kept.counted k hand at in let change = others k ne in omega (arith, moved, before_it, change)

same_raids : (rs' rs : List RaidMark) → rs' ≡ rs → (k : ℕ) (raid' : RaidMark) → get_elem? rs' k ≡ some raid' → (raid : RaidMark) × (get_elem? rs k ≡ some raid) × (raid'.deque ≡ raid.deque)
same_raids rs' rs same k raid' at = (raid', ap (λ l. get_elem? l k) (sym same) ∙ at, refl)

set_raids : (rs' rs : List RaidMark) (k : ℕ) (r r' : RaidMark) → rs' ≡ set rs k r' → get_elem? rs k ≡ some r → r'.deque ≡ r.deque → (j : ℕ) (raid' : RaidMark) → get_elem? rs' j ≡ some raid' → (raid : RaidMark) × (get_elem? rs j ≡ some raid) × (raid'.deque ≡ raid.deque)
set_raids rs' rs k r r' same there deque j raid' at = ⊎_elim
    (λ (x : (j ≡ k) × (r' ≡ raid')). (r, ap (get_elem? rs) x.0 ∙ there, ap (λ (z : RaidMark). z.deque) (sym x.1) ∙ deque))
    (λ (x : (j ≢ k) × (get_elem? rs j ≡ some raid')). (raid', x.1, refl))
    (at_set rs k j r' raid' (ap (λ l. get_elem? l j) (sym same) ∙ at))

one_here : (k j : ℕ) → j ≡ k → one_pass k j ≡ 1
one_here k j e = ap (λ b. cond b 1 0) (eq-eqb j k e)

one_else : (k j : ℕ) → j ≢ k → one_pass k j ≡ 0
one_else k j ne = ap (λ b. cond b 1 0) (ne_eqb j k ne)

raid_passes : (raid : RaidMark) (b : Bool) → raid.armed ≡ b → passes_in (some raid) ≡ cond b 1 0
raid_passes raid b is = ap (λ c. cond c 1 0) is

-- a part leaves a deque's own hand, or comes to it
module _ (hands : List HandMark) (k : ℕ) (m m' : HandMark) (there : get_elem? hands k ≡ some m) (deque : m'.deque ≡ m.deque) (raids : m'.raids ≡ m.raids) where
  same_passes : (j : ℕ) → passes_at j m' ≡ passes_at j m
  same_passes j = ap (λ l. passes_in (get_elem? l j)) raids

  pub cut_crewed : IsCrewed nothing hands → m'.parts + 1 ≡ m.parts → IsCrewed (one_pass k) (set hands k m')
  cut_crewed kept cut = crewed_set nothing (one_pass k) hands k m m' kept there deque (same_raids m'.raids m.raids raids)
      (λ j ne. let same = same_passes j in let none_spare = one_else k j ne in omega (arith, same, none_spare))
      (let same = same_passes k in let spare = one_here k k refl in omega (arith, same, spare, cut))

  pub joined_crewed : IsCrewed (one_pass k) hands → m'.parts ≡ m.parts + 1 → IsCrewed nothing (set hands k m')
  joined_crewed kept more = crewed_set (one_pass k) nothing hands k m m' kept there deque (same_raids m'.raids m.raids raids)
      (λ j ne. let same = same_passes j in let none_spare = one_else k j ne in omega (arith, same, none_spare))
      (let same = same_passes k in let spare = one_here k k refl in omega (arith, same, spare, more))

-- a raid gets a pass, or gives it back
module _ (hands : List HandMark) (i k : ℕ) (m m' : HandMark) (r r' : RaidMark) (there : get_elem? hands i ≡ some m) (deque : m'.deque ≡ m.deque) (parts : m'.parts ≡ m.parts)
    (raids : m'.raids ≡ set m.raids k r') (raid_there : get_elem? m.raids k ≡ some r) (raid_deque : r'.deque ≡ r.deque) where
  new_there : get_elem? m'.raids k ≡ some r'
  new_there = ap (λ l. get_elem? l k) raids ∙ set_here m.raids k r' (below_of m.raids k r raid_there)

  others_same : (j : ℕ) → j ≢ k → passes_at j m' ≡ passes_at j m
  others_same j ne = ap (λ l. passes_in (get_elem? l j)) raids ∙ ap passes_in (set_else m.raids k j r' ne)

  pub new_passes : (b : Bool) → r'.armed ≡ b → passes_at k m' ≡ cond b 1 0
  new_passes b is = ap passes_in new_there ∙ raid_passes r' b is

  pub old_passes : (b : Bool) → r.armed ≡ b → passes_at k m ≡ cond b 1 0
  old_passes b is = ap passes_in raid_there ∙ raid_passes r b is

  moved : (spare spare' : ℕ → ℕ) (b b' : Bool) → r.armed ≡ b → r'.armed ≡ b' → ((j : ℕ) → j ≢ k → spare' j ≡ spare j) → cond b' 1 0 + spare' k ≡ cond b 1 0 + spare k → IsCrewed spare hands → IsCrewed spare' (set hands i m')
  moved spare spare' b b' was is others own kept = crewed_set spare spare' hands i m m' kept there deque (set_raids m'.raids m.raids k r r' raids raid_there raid_deque)
      (λ j ne. change j)
      (let all = change i in omega (arith, all, parts))
    where
      change_here : passes_at k m' + spare' k ≡ passes_at k m + spare k
      change_here = let new = new_passes b' is in let old = old_passes b was in omega (arith, new, old, own)

      change : (j : ℕ) → passes_at j m' + spare' j ≡ passes_at j m + spare j
      change j = dite (ℕ_discrete j k)
          (λ e. subst (λ z. passes_at z m' + spare' z ≡ passes_at z m + spare z) (sym e) change_here)
          (λ ne. let same = others_same j ne in let spares = others j ne in omega (arith, same, spares))

  pub armed_crewed : r.armed ≡ false → r'.armed ≡ true → IsCrewed (one_pass k) hands → IsCrewed nothing (set hands i m')
  armed_crewed was is = moved (one_pass k) nothing false true was is (λ j ne. sym (one_else k j ne)) (let spare = one_here k k refl in omega (arith, spare))

  pub disarmed_crewed : r.armed ≡ true → r'.armed ≡ false → IsCrewed nothing hands → IsCrewed (one_pass k) (set hands i m')
  disarmed_crewed was is = moved nothing (one_pass k) true false was is (λ j ne. one_else k j ne) (let spare = one_here k k refl in omega (arith, spare))

  pub idle_crewed : r.armed ≡ false → r'.armed ≡ false → IsCrewed nothing hands → IsCrewed nothing (set hands i m')
  idle_crewed was is = moved nothing nothing false false was is (λ j ne. refl) refl

  -- no raid has a pass that it had not
  pub less_passes : r'.armed ≡ false → (j n : ℕ) → passes_of (set hands i m') j n ≤ passes_of hands j n
  less_passes is j n = dite (ℕ_discrete j i)
      (λ e. subst (λ z. passes_of (set hands i m') z n ≤ passes_of hands z n) (sym e) here)
      (λ ne. let same = of_set_else hands i j n m' ne in omega (arith, same))
    where
      fewer : passes_at n m' ≤ passes_at n m
      fewer = dite (ℕ_discrete n k)
          (λ e. subst (λ z. passes_at z m' ≤ passes_at z m) (sym e) (let gone = new_passes false is in omega (arith, gone)))
          (λ ne. let same = others_same n ne in omega (arith, same))

      here : passes_of (set hands i m') i n ≤ passes_of hands i n
      here = let new = of_set_here hands i n m m' there in let old = of_there hands i n m there in omega (arith, new, old, fewer)

  pub none_passes : r'.armed ≡ false → passes_of (set hands i m') i k ≡ 0
  none_passes is = of_set_here hands i k m m' there ∙ new_passes false is
