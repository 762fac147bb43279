-- A caller keeps one snapshot more.
use Rattle.std.proofs.Common.{◌≡◌, refl, sym, ap, ◌∙◌, subst, ℕ, zero, suc, ◌+◌, ◌<◌, ◌≤◌, ◌++◌, arith, append_assoc, length, length-append, List, [], ◌∷◌, get_or, Result, Ok, Err}
use Rattle.std.{specs.Prelude.{OnOk, map, slice_index}, specs.List.AllByRecursion, proofs.lemmas.List.{append-nil, get_or_push, length-map, map_push}}
use Rattle.key_lists.proofs.Every.{every_weaker}
use Rattle.snapshot_store.{specs.Answers.IsSnapshot, specs.declared.answers.Taken.Taken, specs.Looks.{NeverFalls as LooksNeverFall, last_or, latest, looks_of}, specs.Models.CallerModel}
use Rattle.tick_model.{specs.Clock.completed, specs.declared.feed.Run.Run, specs.Choices.NeverFalls, specs.Words.line}
use Rattle.replay.{specs.declared.readers.KeptSnapshot.KeptSnapshot, specs.Snapshots.{AreTaken, AreTried, HasKept, steps_of, table_number}}

pub all_more : {X : Type 0} (P : X → Type 0) (xs : List X) (y : X) → AllByRecursion P xs → P y → AllByRecursion P (xs ++ y ∷ [])
all_more P [] y all here = (here, tt)
all_more P (x ∷ xs) y all here = (all.0, all_more P xs y all.1 here)

taken_more : (run : Run) (caller call : ℕ) (all : List KeptSnapshot) (kept : KeptSnapshot) → AreTaken run caller call all → kept.words ≡ line run kept.taken.step (table_number run caller (call + length all)) →
    AreTaken run caller call (all ++ kept ∷ [])
taken_more run caller call [] kept taken is =
    let same : call + 0 ≡ call = omega arith in
    (is ∙ ap (λ n. line run kept.taken.step (table_number run caller n)) same, tt)
taken_more run caller call (first ∷ others) kept taken is =
    let same : call + suc (length others) ≡ call + 1 + length others = omega arith in
    (taken.0, taken_more run caller (call + 1) others kept taken.1 (is ∙ ap (λ n. line run kept.taken.step (table_number run caller n)) same))

steps_more : (steps : List ℕ) (step : ℕ) → NeverFalls steps → AllByRecursion (λ k. k ≤ step) steps → NeverFalls (steps ++ step ∷ [])
steps_more [] step falls below = (tt, tt)
steps_more (k ∷ steps) step falls below = (all_more (λ later. k ≤ later) steps step falls.0 below.0, steps_more steps step falls.1 below.1)

module _ (run : Run) (caller calls seen : ℕ) (all : List KeptSnapshot) (has : HasKept run caller calls seen all) where
  pub kept_later : (later : ℕ) → seen ≤ later → HasKept run caller calls later all
  kept_later later more = record {
    count_is = has.count_is;
    taken = has.taken;
    never_falls = has.never_falls;
    none_past = every_weaker (λ k. k ≤ seen) (λ k. k ≤ later) (steps_of all) (λ k below. omega (arith, below, more)) has.none_past;
  }

  module _ (kept : KeptSnapshot) where
    steps_are : steps_of (all ++ kept ∷ []) ≡ steps_of all ++ kept.taken.step ∷ []
    steps_are = map_push (λ (k : KeptSnapshot). k.taken.step) all kept

    pub kept_more : (later : ℕ) → seen ≤ kept.taken.step → kept.taken.step ≤ later → kept.words ≡ line run kept.taken.step (table_number run caller calls) → HasKept run caller (calls + 1) later (all ++ kept ∷ [])
    kept_more later not_older within is = record {
      count_is = omega (arith, length-append all (kept ∷ []), has.count_is);
      taken = taken_more run caller 0 all kept has.taken (is ∙ ap (λ n. line run kept.taken.step (table_number run caller n)) (let same : calls ≡ 0 + length all = omega (arith, has.count_is) in same));
      never_falls = subst NeverFalls (sym steps_are) (steps_more (steps_of all) kept.taken.step has.never_falls (every_weaker (λ k. k ≤ seen) (λ k. k ≤ kept.taken.step) (steps_of all) (λ k below. omega (arith, below, not_older)) has.none_past));
      none_past = subst (AllByRecursion (λ k. k ≤ later)) (sym steps_are)
          (all_more (λ k. k ≤ later) (steps_of all) kept.taken.step (every_weaker (λ k. k ≤ seen) (λ k. k ≤ later) (steps_of all) (λ k below. omega (arith, below, not_older, within)) has.none_past) within);
    }

    pub last_kept : slice_index (steps_of (all ++ kept ∷ [])) calls ≡ kept.taken.step
    last_kept = ap (λ steps. get_or steps calls 0) steps_are ∙ get_or_push (steps_of all) kept.taken.step 0 calls (length-map all (λ (k : KeptSnapshot). k.taken.step) ∙ has.count_is)

module _ (run : Run) (attempts caller : ℕ) where
  pub tried_more : (call : ℕ) (seen : List ℕ) (before after : CallerModel) (all : List KeptSnapshot) (kept : KeptSnapshot) → AreTried run attempts caller call seen before.looks all
      → IsSnapshot run (table_number run caller (call + length all)) attempts before after kept.taken → AreTried run attempts caller call seen after.looks (all ++ kept ∷ [])
  tried_more call seen before after [] kept tried is =
      let same : call + 0 ≡ call = omega arith in
      (before, after, tried.0, tried.1, subst (λ n. IsSnapshot run (table_number run caller n) attempts before after kept.taken) same is, ([], sym (append-nil after.looks)))
  tried_more call seen before after (first ∷ others) kept tried is =
      let same : call + suc (length others) ≡ call + 1 + length others = omega arith in
      (tried.0, tried.1, tried.2, tried.3, tried.4, tried_more (call + 1) tried.1.looks before after others kept tried.5 (subst (λ n. IsSnapshot run (table_number run caller n) attempts before after kept.taken) same is))

  pub tried_later : (call : ℕ) (seen looks later more : List ℕ) (all : List KeptSnapshot) → later ≡ looks ++ more → AreTried run attempts caller call seen looks all → AreTried run attempts caller call seen later all
  tried_later call seen looks later more [] longer tried = (tried.0 ++ more, longer ∙ ap (λ z. z ++ more) tried.1 ∙ append_assoc seen tried.0 more)
  tried_later call seen looks later more (first ∷ others) longer tried = (tried.0, tried.1, tried.2, tried.3, tried.4, tried_later (call + 1) tried.1.looks looks later more others longer tried.5)

-- what the looks of a snapshot say
last_two : (d : ℕ) (xs : List ℕ) (a b : ℕ) → last_or d (xs ++ a ∷ b ∷ []) ≡ b
last_two d [] a b = refl
last_two d (x ∷ xs) a b = last_two x xs a b

rises_last : (low : ℕ) (xs : List ℕ) (a b : ℕ) → LooksNeverFall low (xs ++ a ∷ b ∷ []) → a ≤ b
rises_last low [] a b rises = rises.1.0
rises_last low (x ∷ xs) a b rises = rises_last x xs a b rises.1

rises_once : (low : ℕ) (xs : List ℕ) (a : ℕ) → LooksNeverFall low (xs ++ a ∷ []) → last_or low xs ≤ a
rises_once low [] a rises = rises.0
rises_once low (x ∷ xs) a rises = rises_once x xs a rises.1

last_one : (d : ℕ) (xs : List ℕ) (a : ℕ) → last_or d (xs ++ a ∷ []) ≡ a
last_one d [] a = refl
last_one d (x ∷ xs) a = last_one x xs a

pub record IsNext (run : Run) (number : ℕ) (before after : CallerModel) (step : ℕ) : Type 0 where
  pub not_older : latest before.looks ≤ step
  pub seen : step ≤ latest after.looks
  pub words : after.words ≡ line run step number

pub snapshot_next : (run : Run) (number attempts : ℕ) (before after : CallerModel) (result : Taken) → IsSnapshot run number attempts before after result → LooksNeverFall 1 after.looks → IsNext run number before after result.step
snapshot_next run number attempts before after result is rises =
    let seen = before.looks ++ looks_of is.moved in
    let order : is.first ≤ is.last = rises_last 1 seen is.first is.last (subst (LooksNeverFall 1) is.looks rises) in
    let last : last_or 1 after.looks ≡ is.last = ap (last_or 1) is.looks ∙ last_two 1 seen is.first is.last in
    record {
      not_older = omega (arith, is.not_older, is.step);
      seen = omega (arith, order, last, is.step);
      words = is.words ∙ ap (λ s. line run s number) (sym is.step);
    }

-- what one look more says
pub look_later : (before after : List ℕ) (found : ℕ) → after ≡ before ++ found ∷ [] → LooksNeverFall 1 after → latest before ≤ latest after
look_later before after found looks rises =
    let order : last_or 1 before ≤ found = rises_once 1 before found (subst (LooksNeverFall 1) looks rises) in
    let last : last_or 1 after ≡ found = ap (last_or 1) looks ∙ last_one 1 before found in
    omega (arith, order, last)

-- two facts of a result that is there
pub on_ok_both : {T E A B C : Type 0} (r : Result T E) → OnOk r A → OnOk r B → (A → B → C) → OnOk r C
on_ok_both (Ok x) a b f = f a b
on_ok_both (Err e) a b f = tt
