-- What is told of the hands, as one of them changes.
use Rattle.std.proofs.Common.{◌≡◌, ◌≢◌, ℕ, zero, suc, ◌+◌, ◌<◌, ◌≤◌, true, false, List, [], ◌∷◌, ◌++◌, length, map, set, sym, refl, ap, ◌∙◌, subst, arith, is_some, ⊎_elim}
use mathlib.Core.Logic.{dite}
use mathlib.Core.Option.{some, none, some-injective, some-ne-none}
use native.Mathlib.Decide.{ℕ_discrete}
use lib.ListN.{get_elem?}
use Rattle.std.specs.Vec.{with_item}
use Rattle.graph_words.proofs.Marks.{below_of}
use Rattle.crossbeam_deque.{specs.Handles.{worker_deque, worker_view, stealer_deque}, proofs.Lists.{at_map, at_set, at_snoc, set_again, set_here}}
use Rattle.steal_workers.{specs.declared.hand.Hand.Hand, specs.declared.own.Own.Own, specs.declared.raid.Raid.Raid, specs.Deques.{IsRested, IsSameDeque, IsTallied}, specs.Hands.{AllEmpty, AllRested, hand_mark, hand_marks, raid_mark}, specs.Musters.{HandMark, IsCrewed, RaidMark, idle_on, nothing, passes_at, passes_in, passes_of, passes_out}, proofs.Tallies.nothing_left, proofs.Mustering.{armed_crewed, cut_crewed, disarmed_crewed, idle_crewed, joined_crewed, less_passes, none_passes, of_set_else, of_set_here, of_there, one_pass, out_most, out_none, out_set}}

pub map_set : {A B : Type 0} (f : A → B) (xs : List A) (i : ℕ) (a : A) → map f (set xs i a) ≡ set (map f xs) i (f a)
map_set f [] i a = refl
map_set f (x ∷ xs) zero a = refl
map_set f (x ∷ xs) (suc i) a = ap (λ l. f x ∷ l) (map_set f xs i a)

-- an element is replaced by one of which the same is told
pub map_same : {A B : Type 0} (f : A → B) (xs : List A) (i : ℕ) (a a' : A) → get_elem? xs i ≡ some a → f a' ≡ f a → map f (set xs i a') ≡ map f xs
map_same f xs i a a' there same = map_set f xs i a' ∙ set_again (map f xs) i (f a') (at_map f xs i a there ∙ ap some (sym same))

pub map_length : {A B : Type 0} (f : A → B) (xs : List A) → length (map f xs) ≡ length xs
map_length f [] = refl
map_length f (x ∷ xs) = ap suc (map_length f xs)

pub map_at : {A B : Type 0} (f : A → B) (xs : List A) (i : ℕ) (b : B) → get_elem? (map f xs) i ≡ some b → (a : A) × (get_elem? xs i ≡ some a) × (f a ≡ b)
map_at f [] i b at = absurd (some-ne-none b (sym at))
map_at f (x ∷ xs) zero b at = (x, refl, some-injective (f x) b at)
map_at f (x ∷ xs) (suc i) b at = map_at f xs i b at

-- where the list ends there is nothing
pub past_end : {A : Type 0} (xs : List A) (i : ℕ) → length xs ≤ i → get_elem? xs i ≡ none
past_end [] i past = refl
past_end (x ∷ xs) zero past = absurd (omega (arith, past))
past_end (x ∷ xs) (suc i) past = past_end xs i (omega (arith, past))

abbrev pub parts_with : Hand → ℕ
parts_with h = (worker_view h.own.deque).parts

abbrev pub with_own : Hand → Own → Hand
with_own h own = record { place = h.place; own = own; raids = h.raids }

abbrev pub with_raid : Hand → ℕ → Raid → Hand
with_raid h k raid = record { place = h.place; own = h.own; raids = with_item h.raids k raid }

pub same_mark : (h h' : Hand) → IsSameDeque h.own.deque h'.own.deque → map raid_mark h'.raids.items ≡ map raid_mark h.raids.items → hand_mark h' ≡ hand_mark h
same_mark h h' own raids i = record { deque = own.0 i; parts = own.1 i; raids = raids i }

-- every hand has at least 960 parts of its deque
pub many_parts : (hands : List Hand) (k : ℕ) (h : Hand) → IsCrewed nothing (hand_marks hands) → get_elem? hands k ≡ some h → length hands ≤ 64 → 1 < parts_with h
many_parts hands k h kept there few =
    let counted = kept.counted k (hand_mark h) (at_map hand_mark hands k h there) in
    let most = out_most k (hand_marks hands) in
    let long = map_length hand_mark hands in
    omega (arith, counted, most, long, few)

-- the raid of a hand is on the deque of the other
pub tied_deque : (spare : ℕ → ℕ) (hands : List Hand) (i k : ℕ) (h o : Hand) (raid : Raid) → IsCrewed spare (hand_marks hands) → get_elem? hands i ≡ some h → get_elem? h.raids.items k ≡ some raid → get_elem? hands k ≡ some o → stealer_deque raid.thief ≡ worker_deque o.own.deque
tied_deque spare hands i k h o raid kept at raid_at other_at = kept.tied i k (hand_mark h) (hand_mark o) (raid_mark raid) (at_map hand_mark hands i h at) (at_map raid_mark h.raids.items k raid raid_at) (at_map hand_mark hands k o other_at)

-- where no raid has a pass, the hand has all parts
pub all_parts : (hands : List Hand) (k : ℕ) (h : Hand) → IsCrewed nothing (hand_marks hands) → get_elem? hands k ≡ some h → ((i n : ℕ) → i < length hands → n < length hands → passes_of (hand_marks hands) i n ≡ 0) → parts_with h ≡ 1024
all_parts hands k h kept there gone =
    let counted = kept.counted k (hand_mark h) (at_map hand_mark hands k h there) in
    let long = map_length hand_mark hands in
    let none_out = out_none k (hand_marks hands) (λ i within. gone i k (omega (arith, within, long)) (below_of hands k h there)) in
    omega (arith, counted, none_out)

pub no_raid : (hands : List Hand) (i k : ℕ) (h : Hand) → get_elem? hands i ≡ some h → length h.raids.items ≤ k → passes_of (hand_marks hands) i k ≡ 0
no_raid hands i k h there past =
    of_there (hand_marks hands) i k (hand_mark h) (at_map hand_mark hands i h there)
    ∙ ap passes_in (past_end (map raid_mark h.raids.items) k (let long = map_length raid_mark h.raids.items in omega (arith, long, past)))

-- a hand's own deque is changed
module _ (hands : List Hand) (k : ℕ) (h : Hand) (own' : Own) (there : get_elem? hands k ≡ some h) (deque : worker_deque own'.deque ≡ worker_deque h.own.deque) where
  marked : hand_marks (set hands k (with_own h own')) ≡ set (hand_marks hands) k (hand_mark (with_own h own'))
  marked = map_set hand_mark hands k (with_own h own')

  pub cut_hand : IsCrewed nothing (hand_marks hands) → (worker_view own'.deque).parts + 1 ≡ parts_with h → IsCrewed (one_pass k) (hand_marks (set hands k (with_own h own')))
  cut_hand kept cut = subst (IsCrewed (one_pass k)) (sym marked) (cut_crewed (hand_marks hands) k (hand_mark h) (hand_mark (with_own h own')) (at_map hand_mark hands k h there) deque refl kept cut)

  pub joined_hand : IsCrewed (one_pass k) (hand_marks hands) → (worker_view own'.deque).parts ≡ parts_with h + 1 → IsCrewed nothing (hand_marks (set hands k (with_own h own')))
  joined_hand kept more = subst (IsCrewed nothing) (sym marked) (joined_crewed (hand_marks hands) k (hand_mark h) (hand_mark (with_own h own')) (at_map hand_mark hands k h there) deque refl kept more)

  pub same_passes_of : (i n : ℕ) → passes_of (hand_marks (set hands k (with_own h own'))) i n ≡ passes_of (hand_marks hands) i n
  same_passes_of i n = ap (λ l. passes_of l i n) marked ∙ dite (ℕ_discrete i k)
      (λ e. subst (λ z. passes_of (set (hand_marks hands) k (hand_mark (with_own h own'))) z n ≡ passes_of (hand_marks hands) z n) (sym e) here)
      (λ ne. of_set_else (hand_marks hands) k i n (hand_mark (with_own h own')) ne)
    where
      here : passes_of (set (hand_marks hands) k (hand_mark (with_own h own'))) k n ≡ passes_of (hand_marks hands) k n
      here = of_set_here (hand_marks hands) k n (hand_mark h) (hand_mark (with_own h own')) (at_map hand_mark hands k h there) ∙ sym (of_there (hand_marks hands) k n (hand_mark h) (at_map hand_mark hands k h there))

-- a raid of a hand is changed
module _ (hands : List Hand) (i k : ℕ) (h : Hand) (r r' : Raid) (there : get_elem? hands i ≡ some h) (raid_there : get_elem? h.raids.items k ≡ some r) (deque : stealer_deque r'.thief ≡ stealer_deque r.thief) where
  raided : hand_marks (set hands i (with_raid h k r')) ≡ set (hand_marks hands) i (hand_mark (with_raid h k r'))
  raided = map_set hand_mark hands i (with_raid h k r')

  pub armed_hand : is_some r.pass ≡ false → is_some r'.pass ≡ true → IsCrewed (one_pass k) (hand_marks hands) → IsCrewed nothing (hand_marks (set hands i (with_raid h k r')))
  armed_hand was is kept = subst (IsCrewed nothing) (sym raided)
      (armed_crewed (hand_marks hands) i k (hand_mark h) (hand_mark (with_raid h k r')) (raid_mark r) (raid_mark r') (at_map hand_mark hands i h there) refl refl (map_set raid_mark h.raids.items k r') (at_map raid_mark h.raids.items k r raid_there) deque was is kept)

  pub disarmed_hand : is_some r.pass ≡ true → is_some r'.pass ≡ false → IsCrewed nothing (hand_marks hands) → IsCrewed (one_pass k) (hand_marks (set hands i (with_raid h k r')))
  disarmed_hand was is kept = subst (IsCrewed (one_pass k)) (sym raided)
      (disarmed_crewed (hand_marks hands) i k (hand_mark h) (hand_mark (with_raid h k r')) (raid_mark r) (raid_mark r') (at_map hand_mark hands i h there) refl refl (map_set raid_mark h.raids.items k r') (at_map raid_mark h.raids.items k r raid_there) deque was is kept)

  pub idle_hand : is_some r.pass ≡ false → is_some r'.pass ≡ false → IsCrewed nothing (hand_marks hands) → IsCrewed nothing (hand_marks (set hands i (with_raid h k r')))
  idle_hand was is kept = subst (IsCrewed nothing) (sym raided)
      (idle_crewed (hand_marks hands) i k (hand_mark h) (hand_mark (with_raid h k r')) (raid_mark r) (raid_mark r') (at_map hand_mark hands i h there) refl refl (map_set raid_mark h.raids.items k r') (at_map raid_mark h.raids.items k r raid_there) deque was is kept)

  pub fewer_hand : is_some r'.pass ≡ false → (j n : ℕ) → passes_of (hand_marks (set hands i (with_raid h k r'))) j n ≤ passes_of (hand_marks hands) j n
  fewer_hand is j n =
      let less = less_passes (hand_marks hands) i k (hand_mark h) (hand_mark (with_raid h k r')) (raid_mark r) (raid_mark r') (at_map hand_mark hands i h there) refl refl (map_set raid_mark h.raids.items k r') (at_map raid_mark h.raids.items k r raid_there) deque is j n in
      subst (λ l. passes_of l j n ≤ passes_of (hand_marks hands) j n) (sym raided) less

  pub gone_hand : is_some r'.pass ≡ false → passes_of (hand_marks (set hands i (with_raid h k r'))) i k ≡ 0
  gone_hand is =
      ap (λ l. passes_of l i k) raided
      ∙ none_passes (hand_marks hands) i k (hand_mark h) (hand_mark (with_raid h k r')) (raid_mark r) (raid_mark r') (at_map hand_mark hands i h there) refl refl (map_set raid_mark h.raids.items k r') (at_map raid_mark h.raids.items k r raid_there) deque is

pub raid_here : (h : Hand) (k : ℕ) (r r' : Raid) → get_elem? h.raids.items k ≡ some r → get_elem? (with_raid h k r').raids.items k ≡ some r'
raid_here h k r r' there = set_here h.raids.items k r' (below_of h.raids.items k r there)

-- what is empty under the rule
pub rested_empty : (hands : List Hand) → AllRested hands → AllEmpty IsTallied hands
rested_empty hands rested k h at =
    let whole = rested k h at in
    nothing_left h.own.deque.end.pass.id (worker_view h.own.deque) (ap (λ v. v.parts) whole) (ap (λ v. length v.pushed) whole ∙ sym (ap (λ v. length v.taken) whole))

-- hands without raids
abbrev pub AllBare : List Hand → Type 0
AllBare hands = (k : ℕ) (h : Hand) → get_elem? hands k ≡ some h → h.raids.items ≡ []

bare_out : (k : ℕ) (hands : List Hand) → AllBare hands → passes_out k (hand_marks hands) ≡ 0
bare_out k [] bare = refl
bare_out k (x ∷ xs) bare =
    let here : passes_at k (hand_mark x) ≡ 0 = ap (λ l. passes_in (get_elem? (map raid_mark l) k)) (bare 0 x refl) in
    let rest = bare_out k xs (λ i h at. bare (suc i) h at) in
    omega (arith, here, rest)

pub bare_crewed : (hands : List Hand) → AllBare hands → AllRested hands → IsCrewed nothing (hand_marks hands)
bare_crewed hands bare rested = record {
  tied = λ i k m other raid at raid_at other_at.
      let h = map_at hand_mark hands i m at in
      let same : map raid_mark h.0.raids.items ≡ m.raids = ap (λ (z : HandMark). z.raids) h.2 in
      let none_there : get_elem? m.raids k ≡ none = ap (λ l. get_elem? l k) (sym same) ∙ ap (λ l. get_elem? (map raid_mark l) k) (bare i h.0 h.1) in
      absurd (some-ne-none raid (sym raid_at ∙ none_there));
  counted = λ k m at.
      let h = map_at hand_mark hands k m at in
      let parts : parts_with h.0 ≡ m.parts = ap (λ (z : HandMark). z.parts) h.2 in
      let all : parts_with h.0 ≡ 1024 = ap (λ v. v.parts) (rested k h.0 h.1) in
      let out = bare_out k hands bare in
      omega (arith, parts, all, out);
}

pub rested_more : (hands : List Hand) (h : Hand) → AllRested hands → IsRested h.own.deque → AllRested (hands ++ h ∷ [])
rested_more hands h rested last k x at = ⊎_elim (λ was. rested k x was) (λ (e : h ≡ x). subst (λ (z : Hand). IsRested z.own.deque) e last) (at_snoc hands h x k at)

pub bare_more : (hands : List Hand) (h : Hand) → AllBare hands → h.raids.items ≡ [] → AllBare (hands ++ h ∷ [])
bare_more hands h bare last k x at = ⊎_elim (λ was. bare k x was) (λ (e : h ≡ x). subst (λ (z : Hand). z.raids.items ≡ []) e last) (at_snoc hands h x k at)

-- a hand gets raids on all deques
module _ (hands : List Hand) (i : ℕ) (h h' : Hand) (there : get_elem? hands i ≡ some h) (own : h'.own ≡ h.own) (idle : map raid_mark h'.raids.items ≡ map idle_on (hand_marks hands)) where
  pub given_rested : AllRested hands → AllRested (set hands i h')
  given_rested rested k x at = ⊎_elim
      (λ (e : (k ≡ i) × (h' ≡ x)). subst (λ (z : Hand). IsRested z.own.deque) e.1 (subst (λ (z : Own). IsRested z.deque) (sym own) (rested i h there)))
      (λ (e : (k ≢ i) × (get_elem? hands k ≡ some x)). rested k x e.1)
      (at_set hands i k h' x at)

  deque_of : (k : ℕ) (m : HandMark) → get_elem? (hand_marks (set hands i h')) k ≡ some m → (o : HandMark) × (get_elem? (hand_marks hands) k ≡ some o) × (m.deque ≡ o.deque)
  deque_of k m at =
      let x = map_at hand_mark (set hands i h') k m at in
      let told : (hand_mark x.0).deque ≡ m.deque = ap (λ (z : HandMark). z.deque) x.2 in
      ⊎_elim
      (λ (e : (k ≡ i) × (h' ≡ x.0)).
      let mine : worker_deque x.0.own.deque ≡ worker_deque h.own.deque = ap (λ (z : Hand). worker_deque z.own.deque) (sym e.1) ∙ ap (λ (z : Own). worker_deque z.deque) own in
      (hand_mark h, at_map hand_mark hands k h (ap (get_elem? hands) e.0 ∙ there), sym told ∙ mine))
      (λ (e : (k ≢ i) × (get_elem? hands k ≡ some x.0)). (hand_mark x.0, at_map hand_mark hands k x.0 e.1, sym told))
      (at_set hands i k h' x.0 x.1)

  idle_out : (k : ℕ) → passes_at k (hand_mark h') ≡ 0
  idle_out k = ap (λ l. passes_in (get_elem? l k)) idle ∙ none_armed (hand_marks hands) k
    where
      none_armed : (ms : List HandMark) (n : ℕ) → passes_in (get_elem? (map idle_on ms) n) ≡ 0
      none_armed [] n = refl
      none_armed (m ∷ ms) zero = refl
      none_armed (m ∷ ms) (suc n) = none_armed ms n

  pub given_crewed : AllRested hands → IsCrewed nothing (hand_marks hands) → IsCrewed nothing (hand_marks (set hands i h'))
  given_crewed rested kept = record {
    tied = λ a k m other raid at raid_at other_at.
        let o = deque_of k other other_at in
        tie a k m o.0 raid at raid_at o.1 ∙ sym o.2;
    counted = λ k m at.
        let x = map_at hand_mark (set hands i h') k m at in
        let parts : parts_with x.0 ≡ m.parts = ap (λ (z : HandMark). z.parts) x.2 in
        let all : parts_with x.0 ≡ 1024 = ap (λ v. v.parts) (given_rested rested k x.0 x.1) in
        let out = none_out k m at in
        omega (arith, parts, all, out);
  }
    where
      tie : (a k : ℕ) (m o : HandMark) (raid : RaidMark) → get_elem? (hand_marks (set hands i h')) a ≡ some m → get_elem? m.raids k ≡ some raid → get_elem? (hand_marks hands) k ≡ some o → raid.deque ≡ o.deque
      tie a k m o raid at raid_at other_at =
          let x = map_at hand_mark (set hands i h') a m at in
          let mine : get_elem? (map raid_mark x.0.raids.items) k ≡ some raid = ap (λ (z : HandMark). get_elem? z.raids k) x.2 ∙ raid_at in
          ⊎_elim
          (λ (e : (a ≡ i) × (h' ≡ x.0)).
          let there' : get_elem? (map idle_on (hand_marks hands)) k ≡ some raid = ap (λ l. get_elem? l k) (sym idle) ∙ (ap (λ (z : Hand). get_elem? (map raid_mark z.raids.items) k) e.1 ∙ mine) in
          let is : idle_on o ≡ raid = some-injective (idle_on o) raid (sym (at_map idle_on (hand_marks hands) k o other_at) ∙ there') in
          sym (ap (λ (z : RaidMark). z.deque) is))
          (λ (e : (a ≢ i) × (get_elem? hands a ≡ some x.0)). kept.tied a k (hand_mark x.0) o raid (at_map hand_mark hands a x.0 e.1) mine other_at)
          (at_set hands i a h' x.0 x.1)

      none_out : (k : ℕ) (m : HandMark) → get_elem? (hand_marks (set hands i h')) k ≡ some m → passes_out k (hand_marks (set hands i h')) ≡ 0
      none_out k m at =
          let o = deque_of k m at in
          let was = map_at hand_mark hands k o.0 o.1 in
          let parts : parts_with was.0 ≡ o.0.parts = ap (λ (z : HandMark). z.parts) was.2 in
          let all : parts_with was.0 ≡ 1024 = ap (λ v. v.parts) (rested k was.0 was.1) in
          let counted = kept.counted k o.0 o.1 in
          let moved = out_set k i (hand_marks hands) (hand_mark h) (hand_mark h') (at_map hand_mark hands i h there) in
          let idle_now = idle_out k in
          let same : passes_out k (hand_marks (set hands i h')) ≡ passes_out k (set (hand_marks hands) i (hand_mark h')) = ap (passes_out k) (map_set hand_mark hands i h') in
          omega (arith, parts, all, counted, moved, idle_now, same)

pub one_there : {A : Type 0} (xs : List A) (i : ℕ) (a b : A) → get_elem? xs i ≡ some a → get_elem? xs i ≡ some b → a ≡ b
one_there xs i a b at at' = some-injective a b (sym at ∙ at')

-- the raids of all hands are as they were before a hand's own deque was changed
pub same_raids_at : (hands : List Hand) (k i : ℕ) (o h h' : Hand) (own' : Own) → get_elem? hands k ≡ some o → get_elem? hands i ≡ some h → get_elem? (set hands k (with_own o own')) i ≡ some h' → h.raids ≡ h'.raids
same_raids_at hands k i o h h' own' o_at at at' = ⊎_elim
    (λ (e : (i ≡ k) × (with_own o own' ≡ h')). ap (λ (z : Hand). z.raids) (one_there hands i h o at (ap (get_elem? hands) e.0 ∙ o_at)) ∙ ap (λ (z : Hand). z.raids) e.1)
    (λ (e : (i ≢ k) × (get_elem? hands i ≡ some h')). ap (λ (z : Hand). z.raids) (one_there hands i h h' at e.1))
    (at_set hands k i (with_own o own') h' at')
