-- The lists of edge numbers that are kept for each node.
use Rattle.std.proofs.Common.{◌≡◌, ℕ, zero, suc, ◌+◌, ◌<◌, sym, ap, ◌∙◌, subst, refl, arith, Bool, true, false, cond, List, [], ◌∷◌, ◌++◌, length, take, get_or, set, append-nil, eqb, eq-eqb, ne_eqb}
use Rattle.std.{proofs.lemmas.List.{length-take-le, take_more}, specs.Global.Vec}
use mathlib.Core.Logic.{dite}
use native.Mathlib.Decide.{ℕ_discrete}
use Rattle.graph_words.specs.declared.graph.Edge.{Edge}
use Rattle.update_graph.{specs.Edges.{AreNumbers, numbers_at, numbers_of}, proofs.Walking.no_edge}

pub empty_more : (lists : List (Vec ℕ)) (list : Vec ℕ) → ((n : ℕ) → numbers_at lists n ≡ []) → list.items ≡ [] → (n : ℕ) → numbers_at (lists ++ list ∷ []) n ≡ []
empty_more [] list h none zero = none
empty_more [] list h none (suc n) = refl
empty_more (x ∷ xs) list h none zero = h 0
empty_more (x ∷ xs) list h none (suc n) = empty_more xs list (λ m. h (suc m)) none n

-- the list of one node is another
pub added_here : (lists : List (Vec ℕ)) (i : ℕ) (list more : Vec ℕ) (number : ℕ) → i < length lists → list ≡ get_or lists i list → more.items ≡ list.items ++ number ∷ [] → numbers_at (set lists i more) i ≡ numbers_at lists i ++ number ∷ []
added_here [] i list more number within there is = absurd (omega (arith, within))
added_here (x ∷ xs) zero list more number within there is = is ∙ ap (λ (l : Vec ℕ). l.items ++ number ∷ []) there
added_here (x ∷ xs) (suc i) list more number within there is = added_here xs i list more number (omega arith) there is

pub added_else : (lists : List (Vec ℕ)) (i : ℕ) (more : Vec ℕ) (other : ℕ) → (other ≡ i → ⊥) → numbers_at (set lists i more) other ≡ numbers_at lists other
added_else [] i more other apart = refl
added_else (x ∷ xs) zero more zero apart = absurd (apart refl)
added_else (x ∷ xs) zero more (suc other) apart = refl
added_else (x ∷ xs) (suc i) more zero apart = refl
added_else (x ∷ xs) (suc i) more (suc other) apart = added_else xs i more other (λ e. apart (ap suc e))

-- one more edge
numbers-snoc : (test : Edge → Bool) (i : ℕ) (xs : List Edge) (x : Edge) → numbers_of test i (xs ++ x ∷ []) ≡ numbers_of test i xs ++ cond (test x) ((i + length xs) ∷ []) []
numbers-snoc test i [] x = let same : i ≡ i + 0 = omega arith in ap (λ k. cond (test x) (k ∷ []) []) same
numbers-snoc test i (y ∷ ys) x = go (test y) (numbers-snoc test (i + 1) ys x ∙ ap (λ k. numbers_of test (i + 1) ys ++ cond (test x) (k ∷ []) []) same)
  where
    same : i + 1 + length ys ≡ i + suc (length ys)
    same = omega arith

    go : (b : Bool) → numbers_of test (i + 1) (ys ++ x ∷ []) ≡ numbers_of test (i + 1) ys ++ cond (test x) ((i + suc (length ys)) ∷ []) []
        → cond b (i ∷ numbers_of test (i + 1) (ys ++ x ∷ [])) (numbers_of test (i + 1) (ys ++ x ∷ [])) ≡ cond b (i ∷ numbers_of test (i + 1) ys) (numbers_of test (i + 1) ys) ++ cond (test x) ((i + suc (length ys)) ∷ []) []
    go true r = ap (λ l. i ∷ l) r
    go false r = r

numbers_more : (test : Edge → Bool) (es : List Edge) (k : ℕ) → k < length es → numbers_of test 0 (take (k + 1) es) ≡ numbers_of test 0 (take k es) ++ cond (test (get_or es k no_edge)) (k ∷ []) []
numbers_more test es k within =
    let long = length-take-le k es (omega arith) in
    let same : 0 + length (take k es) ≡ k = omega arith in
    ap (numbers_of test 0) (take_more es k no_edge within) ∙ numbers-snoc test 0 (take k es) (get_or es k no_edge) ∙ ap (λ j. numbers_of test 0 (take k es) ++ cond (test (get_or es k no_edge)) (j ∷ []) []) same

pub more_numbers : (end : Edge → ℕ) (es : List Edge) (k : ℕ) (old new : List (Vec ℕ)) → k < length es → AreNumbers (λ n x. eqb (end x) n) (take k es) old
    → numbers_at new (end (get_or es k no_edge)) ≡ numbers_at old (end (get_or es k no_edge)) ++ k ∷ [] → ((other : ℕ) → (other ≡ end (get_or es k no_edge) → ⊥) → numbers_at new other ≡ numbers_at old other)
    → AreNumbers (λ n x. eqb (end x) n) (take (k + 1) es) new
more_numbers end es k old new within h added others n = dite (ℕ_discrete n (end (get_or es k no_edge)))
    (λ same. subst (λ m. numbers_at new m ≡ numbers_of (λ x. eqb (end x) m) 0 (take (k + 1) es)) (sym same)
    (added ∙ ap (λ l. l ++ k ∷ []) (h (end (get_or es k no_edge)))
    ∙ ap (λ b. numbers_of (λ x. eqb (end x) (end (get_or es k no_edge))) 0 (take k es) ++ cond b (k ∷ []) []) (sym (eq-eqb (end (get_or es k no_edge)) (end (get_or es k no_edge)) refl))
    ∙ sym (numbers_more (λ x. eqb (end x) (end (get_or es k no_edge))) es k within)))
    (λ other. others n other ∙ h n
    ∙ sym (numbers_more (λ x. eqb (end x) n) es k within
    ∙ ap (λ b. numbers_of (λ x. eqb (end x) n) 0 (take k es) ++ cond b (k ∷ []) []) (ne_eqb (end (get_or es k no_edge)) n (λ e. other (sym e)))
    ∙ append-nil (numbers_of (λ x. eqb (end x) n) 0 (take k es))))
