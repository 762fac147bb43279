-- A walk over the edges that pass a test, by their numbers.
use Rattle.std.proofs.Common.{◌≡◌, ℕ, zero, suc, ◌+◌, ◌-◌, ◌<◌, ◌≤◌, sym, ap, ◌∙◌, subst, refl, arith, Bool, true, false, cond, List, [], ◌∷◌, length, drop, get_or, drop-cons}
use Rattle.std.proofs.lemmas.List.{drop_all}
use mathlib.Core.Option.{some, some-injective}
use lib.ListN.{get_elem?}
use Rattle.graph_words.specs.declared.graph.Edge.{Edge}
use Rattle.update_graph.{specs.Edges.numbers_of, proofs.PlanEdges.item_there}

abbrev pub no_edge : Edge
no_edge = record { from = 0; to = 0; port = 0 }

past_all : (test : Edge → Bool) (edges : List Edge) (place number : ℕ) → length edges ≤ place → numbers_of test number (drop place edges) ≡ []
past_all test [] zero number past = refl
past_all test [] (suc place) number past = refl
past_all test (x ∷ xs) zero number past = absurd (omega arith)
past_all test (x ∷ xs) (suc place) number past = past_all test xs place number (omega arith)

module _ (test : Edge → Bool) (edges : List Edge) where
  -- the numbers from a place on
  abbrev left : ℕ → List ℕ
  left place = numbers_of test place (drop place edges)

  left_at : (place : ℕ) → place < length edges → (b : Bool) → test (get_or edges place no_edge) ≡ b → left place ≡ cond b (place ∷ left (place + 1)) (left (place + 1))
  left_at place within b is =
      let next : suc place ≡ place + 1 = omega arith in
      ap (numbers_of test place) (drop-cons edges place no_edge within)
      ∙ ap (λ c. cond c (place ∷ numbers_of test (place + 1) (drop (suc place) edges)) (numbers_of test (place + 1) (drop (suc place) edges))) is
      ∙ ap (λ k. cond b (place ∷ numbers_of test (place + 1) (drop k edges)) (numbers_of test (place + 1) (drop k edges))) next

  -- a walk that has these numbers still before it, and what holds where it stands
  pub record IsAlong (rest : List ℕ) (Holds : ℕ → Type 0) : Type 0 where
    pub place : ℕ
    pub more : ℕ
    pub all : place + more ≡ length edges
    pub before : left place ≡ rest
    pub holds : Holds place

  -- what holds at an edge that passes, with these numbers after it
  pub record IsNext (rest : List ℕ) (Holds : ℕ → Type 0) (number : ℕ) : Type 0 where
    pub within : number < length edges
    pub passes : test (get_or edges number no_edge) ≡ true
    pub after : left (number + 1) ≡ rest
    pub holds : Holds number

  -- an edge that does not pass changes nothing of what holds
  abbrev Skips : (ℕ → Type 0) → Type 0
  Skips Holds = (e : ℕ) → e < length edges → test (get_or edges e no_edge) ≡ false → Holds e → Holds (e + 1)

  next_holds : (Holds : ℕ → Type 0) → Skips Holds → (more place number : ℕ) (rest : List ℕ) → place + more ≡ length edges → left place ≡ number ∷ rest → Holds place → IsNext rest Holds number
  next_holds Holds skip zero place number rest end is holds = let none = past_all test edges place place (omega arith) in absurd (empty (sym none ∙ is))
    where
      empty : [] ≡ number ∷ rest → ⊥
      empty e = cc
  next_holds Holds skip (suc more) place number rest end is holds = go (test (get_or edges place no_edge)) refl (next_holds Holds skip more (place + 1) number rest (omega (arith, end)))
    where
      within : place < length edges
      within = omega (arith, end)

      go : (b : Bool) → test (get_or edges place no_edge) ≡ b → (left (place + 1) ≡ number ∷ rest → Holds (place + 1) → IsNext rest Holds number) → IsNext rest Holds number
      go true passes later =
          let here : place ∷ left (place + 1) ≡ number ∷ rest = sym (left_at place within true passes) ∙ is in
          let same : place ≡ number = cc in
          let others : left (place + 1) ≡ rest = cc in
          subst (IsNext rest Holds) same (record { holds = holds; within = within; passes = passes; after = others })
      go false fails later = later (sym (left_at place within false fails) ∙ is) (skip place within fails holds)

  end_holds : (Holds : ℕ → Type 0) → Skips Holds → (more place : ℕ) → place + more ≡ length edges → left place ≡ [] → Holds place → Holds (length edges)
  end_holds Holds skip zero place end is holds = let same : place ≡ length edges = omega (arith, end) in subst Holds same holds
  end_holds Holds skip (suc more) place end is holds = go (test (get_or edges place no_edge)) refl (end_holds Holds skip more (place + 1) (omega (arith, end)))
    where
      within : place < length edges
      within = omega (arith, end)

      go : (b : Bool) → test (get_or edges place no_edge) ≡ b → (left (place + 1) ≡ [] → Holds (place + 1) → Holds (length edges)) → Holds (length edges)
      go true passes later = absurd (some_left (sym (left_at place within true passes) ∙ is))
        where
          some_left : place ∷ left (place + 1) ≡ [] → ⊥
          some_left e = cc
      go false fails later = later (sym (left_at place within false fails) ∙ is) (skip place within fails holds)

-- a walk over a list of numbers: at first, at the next of them, past it, and past the last one
module _ {test : Edge → Bool} {edges : List Edge} {Holds : ℕ → Type 0} where
  pub along_first : (numbers : List ℕ) → numbers ≡ numbers_of test 0 edges → Holds 0 → IsAlong test edges numbers Holds
  along_first numbers are holds = record { place = 0; more = length edges; all = omega arith; before = sym are; holds = holds }

  pub along_next : (numbers : List ℕ) (k : ℕ) → k < length numbers → IsAlong test edges (drop k numbers) Holds → Skips test edges Holds → IsNext test edges (drop (k + 1) numbers) Holds (get_or numbers k 0)
  along_next numbers k within a skip =
      let next : suc k ≡ k + 1 = omega arith in
      next_holds test edges Holds skip a.more a.place (get_or numbers k 0) (drop (k + 1) numbers) a.all (a.before ∙ drop-cons numbers k 0 within ∙ ap (λ j. get_or numbers k 0 ∷ drop j numbers) next) a.holds

  pub along_past : {More : ℕ → Type 0} {number : ℕ} {rest : List ℕ} → IsNext test edges rest Holds number → More (number + 1) → IsAlong test edges rest More
  along_past {number = number} n holds = let within = n.within in record { place = number + 1; more = length edges - (number + 1); all = omega arith; before = n.after; holds = holds }

  pub along_end : (numbers : List ℕ) (k : ℕ) → length numbers ≤ k → IsAlong test edges (drop k numbers) Holds → Skips test edges Holds → Holds (length edges)
  along_end numbers k past a skip = end_holds test edges Holds skip a.more a.place a.all (a.before ∙ drop_all k numbers past) a.holds

  pub next_there : {rest : List ℕ} {number : ℕ} → IsNext test edges rest Holds number → get_elem? edges number ≡ some (get_or edges number no_edge)
  next_there {number = number} n = item_there edges number no_edge n.within

  pub next_passes : {rest : List ℕ} {number : ℕ} → IsNext test edges rest Holds number → (x : Edge) → get_elem? edges number ≡ some x → test x ≡ true
  next_passes {number = number} n x there = subst (λ z. test z ≡ true) (some-injective (get_or edges number no_edge) x (sym (next_there n) ∙ there)) n.passes
