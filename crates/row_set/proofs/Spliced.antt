-- A list with other elements in the place of some.
use Rattle.std.proofs.Common.{◌≡◌, ap, sym, ◌∙◌, ℕ, ◌+◌, ◌-◌, ◌<◌, ◌≤◌, min, arith, List, [], ◌∷◌, ◌++◌, length, take, drop, get_or, length-append, length-drop, length-take-le, append_assoc, take_all, get_or-drop}
use Rattle.std.proofs.lemmas.List.{take_more, take_at, drop_at, drop-drop}

-- i of the others stand behind the first `from` elements, where at is the next place, and then what is left of the old ones
pub record IsSplicing {X : Type 0} (old : List X) (from to : ℕ) (others : List X) (i at : ℕ) (new : List X) : Type 0 where
  pub place : at ≡ from + i
  pub items : new ≡ take from old ++ (take i others ++ drop (min at to) old)

-- parts of a list between others
front_at : {X : Type 0} (xs ys zs : List X) (n : ℕ) → length xs + length ys ≡ n → take n (xs ++ (ys ++ zs)) ≡ xs ++ ys
front_at xs ys zs n is = ap (take n) (sym (append_assoc xs ys zs)) ∙ take_at (xs ++ ys) zs n (length-append xs ys ∙ is)

back_at : {X : Type 0} (xs ys zs : List X) (n : ℕ) → length xs + length ys ≡ n → drop n (xs ++ (ys ++ zs)) ≡ zs
back_at xs ys zs n is = ap (drop n) (sym (append_assoc xs ys zs)) ∙ drop_at (xs ++ ys) zs n (length-append xs ys ∙ is)

joined : {X : Type 0} (xs ys zs : List X) (x : X) → (xs ++ ys) ++ x ∷ zs ≡ xs ++ ((ys ++ x ∷ []) ++ zs)
joined xs ys zs x = append_assoc xs ys (x ∷ zs) ∙ ap (λ rest. xs ++ rest) (sym (append_assoc ys (x ∷ []) zs))

pub splicing_replaces : {X : Type 0} (old : List X) (from to : ℕ) (others : List X) (i at : ℕ) (new newer : List X) (d : X) → IsSplicing old from to others i at new → from ≤ length old → to ≤ length old → i < length others → at < to → newer ≡ take at new ++ (get_or others i d ∷ drop (at + 1) new) → IsSplicing old from to others (i + 1) (at + 1) newer
splicing_replaces old from to others i at new newer d h within end more lt is =
    let x = get_or others i d in
    let here : min at to ≡ at = omega arith in
    let next : min (at + 1) to ≡ at + 1 = omega arith in
    let size : length (take from old) + length (take i others) ≡ at = omega (arith, length-take-le from old within, length-take-le i others (omega arith), h.place) in
    let rest : drop (at + 1) new ≡ drop (at + 1) old = sym (drop-drop 1 at new) ∙ ap (drop 1) (ap (drop at) h.items ∙ back_at (take from old) (take i others) (drop (min at to) old) at size ∙ ap (λ n. drop n old) here) ∙ drop-drop 1 at old in
    record {
      place = omega (arith, h.place);
      items =
          is
          ∙ ap (λ front. front ++ (x ∷ drop (at + 1) new)) (ap (take at) h.items ∙ front_at (take from old) (take i others) (drop (min at to) old) at size)
          ∙ ap (λ back. (take from old ++ take i others) ++ (x ∷ back)) rest
          ∙ joined (take from old) (take i others) (drop (at + 1) old) x
          ∙ ap (λ those. take from old ++ (those ++ drop (at + 1) old)) (sym (take_more others i d more))
          ∙ ap (λ n. take from old ++ (take (i + 1) others ++ drop n old)) (sym next);
    }

pub splicing_inserts : {X : Type 0} (old : List X) (from to : ℕ) (others : List X) (i at : ℕ) (new newer : List X) (d : X) → IsSplicing old from to others i at new → from ≤ length old → to ≤ length old → i < length others → to ≤ at → newer ≡ take at new ++ (get_or others i d ∷ drop at new) → IsSplicing old from to others (i + 1) (at + 1) newer
splicing_inserts old from to others i at new newer d h within end more le is =
    let x = get_or others i d in
    let here : min at to ≡ min (at + 1) to = omega arith in
    let size : length (take from old) + length (take i others) ≡ at = omega (arith, length-take-le from old within, length-take-le i others (omega arith), h.place) in
    record {
      place = omega (arith, h.place);
      items =
          is
          ∙ ap (λ front. front ++ (x ∷ drop at new)) (ap (take at) h.items ∙ front_at (take from old) (take i others) (drop (min at to) old) at size)
          ∙ ap (λ back. (take from old ++ take i others) ++ (x ∷ back)) (ap (drop at) h.items ∙ back_at (take from old) (take i others) (drop (min at to) old) at size)
          ∙ joined (take from old) (take i others) (drop (min at to) old) x
          ∙ ap (λ those. take from old ++ (those ++ drop (min at to) old)) (sym (take_more others i d more))
          ∙ ap (λ n. take from old ++ (take (i + 1) others ++ drop n old)) here;
    }

pub length-splicing : {X : Type 0} (old : List X) (from to : ℕ) (others : List X) (i at : ℕ) (new : List X) → IsSplicing old from to others i at new → from ≤ length old → i ≤ length others → length new ≡ from + i + (length old - min at to)
length-splicing old from to others i at new h within le =
    ap length h.items
    ∙ omega (
      arith,
      length-append (take from old) (take i others ++ drop (min at to) old),
      length-append (take i others) (drop (min at to) old),
      length-take-le from old within,
      length-take-le i others le,
      length-drop (min at to) old,
    )

pub splicing_cut : {X : Type 0} (old : List X) (from to : ℕ) (others : List X) (i at : ℕ) (new newer : List X) → IsSplicing old from to others i at new → from ≤ length old → i ≡ length others → at < to → newer ≡ take at new ++ drop to new → newer ≡ take from old ++ (others ++ drop to old)
splicing_cut old from to others i at new newer h within all lt is =
    let here : min at to ≡ at = omega arith in
    let size : length (take from old) + length (take i others) ≡ at = omega (arith, length-take-le from old within, length-take-le i others (omega arith), h.place) in
    let whole : at + (to - at) ≡ to = omega arith in
    is
    ∙ ap (λ front. front ++ drop to new) (ap (take at) h.items ∙ front_at (take from old) (take i others) (drop (min at to) old) at size)
    ∙ ap (λ back. (take from old ++ take i others) ++ back) (ap (λ n. drop n new) (sym whole) ∙ sym (drop-drop (to - at) at new) ∙ ap (drop (to - at)) (ap (drop at) h.items ∙ back_at (take from old) (take i others) (drop (min at to) old) at size ∙ ap (λ n. drop n old) here) ∙ drop-drop (to - at) at old ∙ ap (λ n. drop n old) whole)
    ∙ append_assoc (take from old) (take i others) (drop to old)
    ∙ ap (λ those. take from old ++ (those ++ drop to old)) (take_all i others (omega arith))

-- what still stands at its place
pub splicing_read : {X : Type 0} (old : List X) (from to : ℕ) (others : List X) (i at : ℕ) (new : List X) (d : X) → IsSplicing old from to others i at new → from ≤ length old → i ≤ length others → at < to → get_or new at d ≡ get_or old at d
splicing_read old from to others i at new d h within le lt =
    let here : min at to ≡ at = omega arith in
    let same : at + 0 ≡ at = omega arith in
    let size : length (take from old) + length (take i others) ≡ at = omega (arith, length-take-le from old within, length-take-le i others le, h.place) in
    ap (λ n. get_or new n d) (sym same)
    ∙ sym (get_or-drop at new 0 d)
    ∙ ap (λ rest. get_or rest 0 d) (ap (drop at) h.items ∙ back_at (take from old) (take i others) (drop (min at to) old) at size ∙ ap (λ n. drop n old) here)
    ∙ get_or-drop at old 0 d
    ∙ ap (λ n. get_or old n d) same
