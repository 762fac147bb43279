-- What is picked until a time, where it is known until an earlier one.
use Rattle.std.proofs.Common.{◌≡◌, refl, ap, ap₂, sym, ◌∙◌, Bool, true, false, cond, ◌&&◌, arith, List, [], ◌∷◌, map, filter, Option, Some, None, ℤ, true≢false}
use Rattle.std.{specs.Prelude.{int_le, int_lt, option_map, IfSome}, specs.List.AllByRecursion, proofs.lemmas.Bool.and_parts, proofs.lemmas.Int.ints}
use Rattle.key_lists.proofs.Every.{filter_passes}
use Rattle.lookup_join.{specs.declared.pick.Pick.Pick, specs.Latest.{beats, latest_by, or_later}, proofs.Latests.latest_first, proofs.Picks.{beats_later, beats_no_earlier}}

-- the latest is one of all
pub latest_every : {X : Type 0} (pick : Pick) (time : X → ℤ) (P : X → Type 0) (xs : List X) → AllByRecursion P xs → IfSome (latest_by pick time xs) P
latest_every pick time P [] h = tt
latest_every {X = X} pick time P (x ∷ xs) h = with_first (latest_by pick time xs) (latest_every pick time P xs h.1)
  where
    with_first : (o : Option X) → IfSome o P → IfSome (or_later pick time x o) P
    with_first None own = h.0
    with_first (Some best) own = elim (beats pick (time best) (time x)) as (λ b. IfSome (cond b (Some x) (Some best)) P) [ true ↦ h.0 | false ↦ own ]

-- and that of a mapped list
pub latest-map : {X Y : Type 0} (pick : Pick) (time : Y → ℤ) (f : X → Y) (xs : List X) → latest_by pick time (map f xs) ≡ option_map f (latest_by pick (λ x. time (f x)) xs)
latest-map pick time f [] = refl
latest-map {X = X} pick time f (x ∷ xs) = ap (or_later pick time (f x)) (latest-map pick time f xs) ∙ with_first (latest_by pick (λ x. time (f x)) xs)
  where
    with_first : (o : Option X) → or_later pick time (f x) (option_map f o) ≡ option_map f (or_later pick (λ x. time (f x)) x o)
    with_first None = refl
    with_first (Some best) = elim (beats pick (time (f best)) (time (f x))) as (λ b. cond b (Some (f x)) (Some (f best)) ≡ option_map f (cond b (Some x) (Some best))) [ true ↦ refl | false ↦ refl ]

-- the first of two that is there
abbrev pub or_else : {X : Type 0} → Option X → Option X → Option X
or_else None other = other
or_else (Some x) other = Some x

later_than_all : (a from b : ℤ) → int_le a from ≡ true → int_lt from b ≡ true → int_lt a b ≡ true
later_than_all a from b e f = grind (arith, ints)

pub apart : (a from : ℤ) → int_lt from a ≡ true → int_le a from ≡ false
apart a from e = grind (arith, ints)

pub together : (a from until : ℤ) → int_le from until ≡ true → int_lt from a ≡ false → (int_le a from ≡ true) × (int_le a until ≡ true)
together a from until e f = (grind (arith, ints), grind (arith, ints))

-- not after a time
abbrev pub reach : {X : Type 0} → (X → ℤ) → (X → Bool) → ℤ → X → Bool
reach time own end x = own x && int_le (time x) end

-- after one time, and not after another
abbrev pub between : {X : Type 0} → (X → ℤ) → (X → Bool) → ℤ → ℤ → X → Bool
between time own from until x = own x && (int_lt from (time x) && int_le (time x) until)

module _ {X : Type 0} (pick : Pick) (time : X → ℤ) (own : X → Bool) (from until : ℤ) (ordered : int_le from until ≡ true) where
  abbrev Whole : List X → Option X
  Whole xs = latest_by pick time (filter (reach time own until) xs)

  abbrev Late : List X → Option X
  Late xs = latest_by pick time (filter (between time own from until) xs)

  abbrev Early : List X → Option X
  Early xs = latest_by pick time (filter (reach time own from) xs)

  pub late_is : (xs : List X) → IfSome (Late xs) (λ x. int_lt from (time x) ≡ true)
  late_is xs = latest_every pick time (λ x. int_lt from (time x) ≡ true) (filter (between time own from until) xs) (weaker (filter (between time own from until) xs) (filter_passes (between time own from until) xs))
    where
      weaker : (xs : List X) → AllByRecursion (λ x. between time own from until x ≡ true) xs → AllByRecursion (λ x. int_lt from (time x) ≡ true) xs
      weaker [] h = tt
      weaker (x ∷ xs) h = ((and_parts _ _ (and_parts _ _ h.0).1).0, weaker xs h.1)

  pub early_is : (xs : List X) → IfSome (Early xs) (λ x. int_le (time x) from ≡ true)
  early_is xs = latest_every pick time (λ x. int_le (time x) from ≡ true) (filter (reach time own from) xs) (weaker (filter (reach time own from) xs) (filter_passes (reach time own from) xs))
    where
      weaker : (xs : List X) → AllByRecursion (λ x. reach time own from x ≡ true) xs → AllByRecursion (λ x. int_le (time x) from ≡ true) xs
      weaker [] h = tt
      weaker (x ∷ xs) h = ((and_parts _ _ h.0).1, weaker xs h.1)

  -- one that comes late before others
  late_first : (x : X) (late early : Option X) → int_lt from (time x) ≡ true → IfSome early (λ x. int_le (time x) from ≡ true) → or_later pick time x (or_else late early) ≡ or_else (or_later pick time x late) early
  late_first x None None e f = refl
  late_first x None (Some best) e f = ap (λ b. cond b (Some x) (Some best)) (beats_later pick (time best) (time x) (later_than_all (time best) from (time x) f e))
  late_first x (Some best) early e f = elim (beats pick (time best) (time x)) as (λ b. cond b (Some x) (Some best) ≡ or_else (cond b (Some x) (Some best)) early) [ true ↦ refl | false ↦ refl ]

  -- one that comes early before others
  early_first : (x : X) (late early : Option X) → int_le (time x) from ≡ true → IfSome late (λ x. int_lt from (time x) ≡ true) → or_later pick time x (or_else late early) ≡ or_else late (or_later pick time x early)
  early_first x None early e f = refl
  early_first x (Some best) early e f = ap (λ b. cond b (Some x) (Some best)) (beats_no_earlier pick (time best) (time x) (later_than_all (time x) from (time best) e f))

  -- the latest of all is the latest of those that come late, or else that of those that come early
  pub latest_split : (xs : List X) → Whole xs ≡ or_else (Late xs) (Early xs)
  latest_split [] = refl
  latest_split (x ∷ xs) =
      latest_first pick time (reach time own until) x xs
      ∙ by (own x) (int_lt from (time x)) refl (int_le (time x) until) refl (latest_split xs)
      ∙ sym (ap₂ or_else (latest_first pick time (between time own from until) x xs) (latest_first pick time (reach time own from) x xs))
    where
      by : (a b : Bool) → int_lt from (time x) ≡ b → (c : Bool) → int_le (time x) until ≡ c → Whole xs ≡ or_else (Late xs) (Early xs)
          → cond (a && c) (or_later pick time x (Whole xs)) (Whole xs) ≡ or_else (cond (a && (b && c)) (or_later pick time x (Late xs)) (Late xs)) (cond (a && int_le (time x) from) (or_later pick time x (Early xs)) (Early xs))
      by false b e c f rest = rest
      by true true e true f rest =
          ap (or_later pick time x) rest ∙ late_first x (Late xs) (Early xs) e (early_is xs)
          ∙ sym (ap (λ d. or_else (or_later pick time x (Late xs)) (cond d (or_later pick time x (Early xs)) (Early xs))) (apart (time x) from e))
      by true true e false f rest = rest ∙ sym (ap (λ d. or_else (Late xs) (cond d (or_later pick time x (Early xs)) (Early xs))) (apart (time x) from e))
      by true false e true f rest =
          ap (or_later pick time x) rest ∙ early_first x (Late xs) (Early xs) (together (time x) from until ordered e).0 (late_is xs)
          ∙ sym (ap (λ d. or_else (Late xs) (cond d (or_later pick time x (Early xs)) (Early xs))) (together (time x) from until ordered e).0)
      by true false e false f rest = absurd (true≢false (sym (together (time x) from until ordered e).1 ∙ f))
