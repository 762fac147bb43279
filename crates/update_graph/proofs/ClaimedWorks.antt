-- The works of a step, as claims take them and give them back.
use Rattle.std.proofs.Common.{◌≡◌, refl, ap, ap₂, sym, ◌∙◌, subst, ℕ, zero, suc, ◌+◌, ◌-◌, ◌≤◌, ◌==◌, arith, true, List, [], ◌∷◌, map, length, get_or}
use Rattle.std.{specs.List.range_with_len, proofs.lemmas.Bool.eqb-true, proofs.lemmas.List.length-map, proofs.lemmas.List.FromFn.length-map-range_with_len}
use mathlib.Core.Option.{some, some-injective, some-ne-none}
use lib.ListN.{get_elem?}
use Rattle.graph_words.{specs.declared.graph.ClaimPlan.ClaimPlan, specs.Rule.{IsTagged, tags as tags_by}}
use Rattle.tick_model.specs.declared.feed.Run.{Run}
use Rattle.update_graph.{specs.Edges.edges_of, specs.Entered.IsEntered, specs.Holdings.IsClaimed, specs.Stands.Follows, specs.Tags.{Kept, Tag, named, tag, tags}}

-- what a work names, and what it may become
abbrev pub names : Rattle.graph_words.specs.Rule.Tags Run Kept
names = tags_by (λ (t : Kept). t.run) (λ (t : Kept). t.node) (λ (t : Kept). t.step) Follows

pub as_tag : (t : Tag) (run : Run) (step node : ℕ) → t.run ≡ run → t.node ≡ node → t.step ≡ step → t ≡ tag run step node
as_tag t run step node a b c = λ i. record { run = a i; node = b i; step = c i }

tagged_from : (run : Run) (step k : ℕ) (works : List Kept) (n : ℕ) (w : Kept) → map named works ≡ map (tag run step) (range_with_len k (length works)) → get_elem? works n ≡ some w → named w ≡ tag run step (k + n)
tagged_from run step k [] n w same there = absurd (some-ne-none w (sym there))
tagged_from run step k (x ∷ xs) zero w same there =
    let here : k ≡ k + 0 = omega arith in
    ap named (sym (some-injective x w there)) ∙ ap (λ l. get_or l 0 (named x)) same ∙ ap (tag run step) here
tagged_from run step k (x ∷ xs) (suc n) w same there =
    let next : k + 1 + n ≡ k + suc n = omega arith in
    tagged_from run step (k + 1) xs n w (ap rest same) there ∙ ap (tag run step) next
  where
    rest : List Tag → List Tag
    rest [] = []
    rest (y ∷ ys) = ys

from_tagged : (run : Run) (step k : ℕ) (works : List Kept) → ((n : ℕ) (w : Kept) → get_elem? works n ≡ some w → named w ≡ tag run step (k + n)) → map named works ≡ map (tag run step) (range_with_len k (length works))
from_tagged run step k [] h = refl
from_tagged run step k (x ∷ xs) h =
    let here : k + 0 ≡ k = omega arith in
    ap₂ (λ a l. a ∷ l) (h 0 x refl ∙ ap (tag run step) here)
    (from_tagged run step (k + 1) xs (λ n w there. let next : k + suc n ≡ k + 1 + n = omega arith in h (suc n) w there ∙ ap (tag run step) next))

-- one of the works of a step
pub work_at : (run : Run) (step : ℕ) (works : List Kept) (n : ℕ) (w : Kept) → map named works ≡ tags run step (length works) → get_elem? works n ≡ some w → named w ≡ tag run step n
work_at run step works n w same there = let own : 0 + n ≡ n = omega arith in tagged_from run step 0 works n w same there ∙ ap (tag run step) own

-- works that come back
pub works_back : (run : Run) (step count : ℕ) (works : List Kept) → length works ≡ count → ((n : ℕ) (w : Kept) → get_elem? works n ≡ some w → IsTagged names run n step w) → map named works ≡ tags run step count
works_back run step count works many h =
    from_tagged run step 0 works (λ n w there. let t = h n w there in let own : n ≡ 0 + n = omega arith in as_tag (named w) run step n t.0 t.1 t.2 ∙ ap (tag run step) own)
    ∙ ap (λ k. map (tag run step) (range_with_len 0 k)) many

-- the works that claims take
pub works_tagged : (run : Run) (step : ℕ) (works : List Kept) → map named works ≡ tags run step (length works) → (n m : ℕ) (w u : Kept) → get_elem? works n ≡ some w → get_elem? works m ≡ some u → IsTagged names u.run n u.step w
works_tagged run step works same n m w u there other =
    let a = work_at run step works n w same there in
    let b = work_at run step works m u same other in
    (ap (λ (t : Tag). t.run) a ∙ ap (λ (t : Tag). t.run) (sym b), ap (λ (t : Tag). t.node) a, ap (λ (t : Tag). t.step) a ∙ ap (λ (t : Tag). t.step) (sym b))

pub claimed : (run : Run) (step : ℕ) (works : List Kept) (plan : ClaimPlan Kept) → IsEntered run step → 1 ≤ step → map named works ≡ tags run (step - 1) (length works) → get_elem? works 0 ≡ some plan.first.value → plan.nodes ≡ length run.plan.nodes → plan.edges.items ≡ edges_of run.plan
    → IsClaimed run plan × (step ≡ plan.first.value.step + 1)
claimed run step works plan entered later same first nodes edges =
    let own = work_at run (step - 1) works 0 plan.first.value same first in
    let at : plan.first.value.step ≡ step - 1 = ap (λ (t : Tag). t.step) own in
    let next : step ≡ plan.first.value.step + 1 = omega arith in (
      record {
        entered = subst (IsEntered run) next entered;
        nodes = nodes;
        edges = edges;
        first = own ∙ ap (λ k. tag run k 0) (sym at);
      },
      next,
    )

-- there is a work for each node
pub count_works : (run : Run) (step n : ℕ) (works : List Kept) → map named works ≡ tags run step n → length works ≡ n
count_works run step n works same = sym (length-map works named) ∙ ap length same ∙ length-map-range_with_len (tag run step) 0 n

-- so without works there are no nodes
pub no_nodes : (run : Run) (step n count : ℕ) (works : List Kept) → map named works ≡ tags run step n → count ≡ length works → (count == 0) ≡ true → 0 ≡ n
no_nodes run step n count works same many none =
    let all = count_works run step n works same in
    let nothing : count ≡ 0 = eqb-true count 0 none in
    omega (arith, all, many, nothing)

-- as many as there are
pub whole_works : (run : Run) (step n : ℕ) (works : List Kept) → map named works ≡ tags run step n → map named works ≡ tags run step (length works)
whole_works run step n works same = same ∙ ap (tags run step) (sym (count_works run step n works same))

-- the step before one that a run enters
pub next_step : (run : Run) (step n : ℕ) → 1 ≤ step → (work : Kept) → named work ≡ tag run (step - 1) n → work.step + 1 ≡ step
next_step run step n later work same = let before : work.step ≡ step - 1 = ap (λ (t : Tag). t.step) same in omega (arith, before, later)
