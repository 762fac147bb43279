-- The numbers of nodes, counted and listed.
use Rattle.std.proofs.Common.{◌≡◌, ◌≢◌, refl, ap, ap₂, sym, ◌∙◌, ℕ, zero, suc, ◌+◌, ◌<◌, ◌==◌, arith, Bool, true, false, cond, List, [], ◌∷◌, ◌++◌, append-nil, take, length, get_or}
use Rattle.std.{specs.Prelude.{count_by, filter}, specs.List.{AllByRecursion, range_with_len}, proofs.lemmas.Bool.{eq-eqb, ne_eqb}, proofs.lemmas.List.{take_more, map-id}, proofs.lemmas.List.Elements.filter-append, proofs.lemmas.List.FromFn.map-range_with_len_more, proofs.lemmas.List.Sums.{sum_by-append, sum_by-cons}}
use mathlib.Core.Logic.{dite}
use mathlib.Core.Option.{some, some-injective, some-ne-none}
use native.Mathlib.Decide.{ℕ_discrete}
use lib.ListN.{get_elem?}
use Rattle.tick_model.{specs.declared.plan.Node.Node, specs.Evaluation.{is_source, source_number}}
use Rattle.update_graph.specs.Tags.{no_node}

pub range_more : (n : ℕ) → range_with_len 0 (n + 1) ≡ range_with_len 0 n ++ n ∷ []
range_more n = sym (map-id (range_with_len 0 (n + 1))) ∙ map-range_with_len_more (λ k. k) 0 n n (omega arith) ∙ ap (λ all. all ++ n ∷ []) (map-id (range_with_len 0 n))

-- one more number that passes, or does not
pub filter_more : (p : ℕ → Bool) (n : ℕ) → p n ≡ true → filter p (range_with_len 0 (n + 1)) ≡ filter p (range_with_len 0 n) ++ n ∷ []
filter_more p n h =
    ap (filter p) (range_more n) ∙ filter-append p (range_with_len 0 n) (n ∷ []) ∙ ap (λ b. filter p (range_with_len 0 n) ++ cond b (n ∷ []) []) h

pub filter_same_more : (p : ℕ → Bool) (n : ℕ) → p n ≡ false → filter p (range_with_len 0 (n + 1)) ≡ filter p (range_with_len 0 n)
filter_same_more p n h =
    ap (filter p) (range_more n) ∙ filter-append p (range_with_len 0 n) (n ∷ []) ∙ ap (λ b. filter p (range_with_len 0 n) ++ cond b (n ∷ []) []) h ∙ append-nil (filter p (range_with_len 0 n))

-- what holds of all numbers of a range
pub range_all : (P : ℕ → Type 0) (a n : ℕ) → ((k : ℕ) → k < a + n → P k) → AllByRecursion P (range_with_len a n)
range_all P a zero h = tt
range_all P a (suc n) h = (h a (omega arith), range_all P (a + 1) n (λ k less. h k (omega (arith, less))))

-- the sources before a node and the one more
source_more : (nodes : List Node) (n : ℕ) → n < length nodes → (b : Bool) → is_source (get_or nodes n no_node) ≡ b → source_number nodes (n + 1) ≡ source_number nodes n + cond b 1 0
source_more nodes n within b is =
    ap (count_by is_source) (take_more nodes n no_node within)
    ∙ sum_by-append (λ (node : Node). cond (is_source node) 1 0) (take n nodes) (get_or nodes n no_node ∷ [])
    ∙ ap (λ k. source_number nodes n + k) (sum_by-cons (λ (node : Node). cond (is_source node) 1 0) (get_or nodes n no_node) [] ∙ ap (λ b. cond b 1 0 + 0) is ∙ one b)
  where
    one : (b : Bool) → cond b 1 0 + 0 ≡ cond b 1 0
    one true = refl
    one false = refl

pub next_source : (nodes : List Node) (n : ℕ) → n < length nodes → is_source (get_or nodes n no_node) ≡ true → source_number nodes (n + 1) ≡ source_number nodes n + 1
next_source nodes n within is = source_more nodes n within true is

pub no_next_source : (nodes : List Node) (n : ℕ) → n < length nodes → is_source (get_or nodes n no_node) ≡ false → source_number nodes (n + 1) ≡ source_number nodes n
no_next_source nodes n within is = source_more nodes n within false is ∙ omega arith

-- how often a number stands in a list
count_cons : (m x : ℕ) (xs : List ℕ) → count_by (λ k. k == m) (x ∷ xs) ≡ cond (x == m) 1 0 + count_by (λ k. k == m) xs
count_cons m x xs = sum_by-cons (λ k. cond (k == m) 1 0) x xs

pub count_none : (m : ℕ) (xs : List ℕ) → ((i : ℕ) → get_elem? xs i ≡ some m → ⊥) → count_by (λ k. k == m) xs ≡ 0
count_none m [] none = refl
count_none m (x ∷ xs) none = count_cons m x xs ∙ ap₂ (λ b k. cond b 1 0 + k) (ne_eqb x m (λ e. none 0 (ap some e))) (count_none m xs (λ i at_i. none (suc i) at_i))

pub count_only : (m : ℕ) (xs : List ℕ) (i : ℕ) → get_elem? xs i ≡ some m → ((a b : ℕ) → get_elem? xs a ≡ some m → get_elem? xs b ≡ some m → a ≡ b) → count_by (λ k. k == m) xs ≡ 1
count_only m [] i at_i once = absurd (some-ne-none m (sym at_i))
count_only m (x ∷ xs) zero at_i once = count_cons m x xs ∙ ap₂ (λ b k. cond b 1 0 + k) (eq-eqb x m (some-injective x m at_i)) (count_none m xs (λ k at_k. let same : 0 ≡ suc k = once 0 (suc k) at_i at_k in omega (arith, same)))
count_only m (x ∷ xs) (suc i) at_i once =
    count_cons m x xs
    ∙ ap₂ (λ b k. cond b 1 0 + k) (ne_eqb x m (λ e. let same : 0 ≡ suc i = once 0 (suc i) (ap some e) at_i in omega (arith, same)))
    (count_only m xs i at_i (λ a b at_a at_b. let same : suc a ≡ suc b = once (suc a) (suc b) at_a at_b in omega (arith, same)))

-- and in a list of those that pass
count_here : (p : ℕ → Bool) (m x : ℕ) (xs rest : List ℕ) → x ≡ m → count_by (λ k. k == m) rest ≡ cond (p m) (count_by (λ k. k == m) xs) 0
    → count_by (λ k. k == m) (cond (p x) (x ∷ rest) rest) ≡ cond (p m) (count_by (λ k. k == m) (x ∷ xs)) 0
count_here p m x xs rest e so_far =
    ap (λ b. count_by (λ k. k == m) (cond b (x ∷ rest) rest)) (ap p e)
    ∙ (elim (p m) as (λ b. count_by (λ k. k == m) rest ≡ cond b (count_by (λ k. k == m) xs) 0 → count_by (λ k. k == m) (cond b (x ∷ rest) rest) ≡ cond b (count_by (λ k. k == m) (x ∷ xs)) 0) [
      | true ↦ λ same. count_cons m x rest ∙ ap (λ k. cond (x == m) 1 0 + k) same ∙ sym (count_cons m x xs)
      | false ↦ λ same. same
    ]) so_far

count_skip : (m x : ℕ) (xs : List ℕ) → x ≢ m → count_by (λ k. k == m) (x ∷ xs) ≡ count_by (λ k. k == m) xs
count_skip m x xs ne = count_cons m x xs ∙ ap (λ b. cond b 1 0 + count_by (λ k. k == m) xs) (ne_eqb x m ne) ∙ omega arith

count_apart : (p : ℕ → Bool) (m x : ℕ) (xs rest : List ℕ) → x ≢ m → count_by (λ k. k == m) rest ≡ cond (p m) (count_by (λ k. k == m) xs) 0
    → count_by (λ k. k == m) (cond (p x) (x ∷ rest) rest) ≡ cond (p m) (count_by (λ k. k == m) (x ∷ xs)) 0
count_apart p m x xs rest ne so_far =
    (elim (p x) as (λ b. count_by (λ k. k == m) (cond b (x ∷ rest) rest) ≡ count_by (λ k. k == m) rest) [
      | true ↦ count_skip m x rest ne
      | false ↦ refl
    ])
    ∙ so_far
    ∙ ap (λ k. cond (p m) k 0) (sym (count_skip m x xs ne))

pub count_filter : (p : ℕ → Bool) (m : ℕ) (xs : List ℕ) → count_by (λ k. k == m) (filter p xs) ≡ cond (p m) (count_by (λ k. k == m) xs) 0
count_filter p m [] = elim (p m) as (λ b. ◌≡◌ {A = ℕ} 0 (cond b 0 0)) [
  | true ↦ refl
  | false ↦ refl
]
count_filter p m (x ∷ xs) = dite (ℕ_discrete x m) (λ e. count_here p m x xs (filter p xs) e (count_filter p m xs)) (λ ne. count_apart p m x xs (filter p xs) ne (count_filter p m xs))
