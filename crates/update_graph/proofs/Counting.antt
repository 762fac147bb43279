-- How much a step of an operator reads, in the words of the run.
use Rattle.std.proofs.Common.{◌≡◌, refl, sym, ap, ◌∙◌, subst, ℕ, zero, suc, ◌+◌, ◌<◌, ◌≤◌, ◌&&◌, inl, inr, arith, Bool, true, false, true≢false, List, [], ◌∷◌, ◌++◌, length, get_or, Option, Some, None}
use Rattle.std.{specs.Prelude.{option_to_list, slice_index}, specs.List.{AllByRecursion, flat_map, range_with_len, sum_by}, proofs.lemmas.Bool.cases_lt, proofs.lemmas.List.{get_or_append_left, get_or_push, length_push}, proofs.lemmas.List.Sums.sum_by-cons}
use Rattle.key_lists.proofs.Every.{every-filter, every_both, filter_passes, pass_all}
use Rattle.tick_model.specs.declared.feed.Run.{Run}
use Rattle.update_graph.{specs.Graphs.{HaveStepped, most_in, read_in, reads_at}, specs.Stands.{HasStepped, all_defined, is_defined, most_reads}, specs.Tags.{Tag, is_operator, operators}, proofs.Numbering.range_all}

-- one step more, which read no more than it may
pub stepped_once : (run : Run) (steps node count : ℕ) (reads : List ℕ) → HasStepped run steps node reads → count ≤ most_reads run steps node → HasStepped run (steps + 1) node (reads ++ count ∷ [])
stepped_once run steps node count reads h few = record {
  each = length_push reads count ∙ ap (λ k. k + 1) h.each;
  within = λ step below. elim (cases_lt step steps) [
    | inl less ↦ subst (λ k. k ≤ most_reads run step node) (sym (get_or_append_left reads (count ∷ []) 0 step (subst (λ k. step < k) (sym h.each) less))) (h.within step less)
    | inr last ↦
        let same : steps ≡ step = omega (arith, below, last) in
        subst (λ k. k ≤ most_reads run step node) (sym (get_or_push reads count 0 step (h.each ∙ same))) (subst (λ k. count ≤ most_reads run k node) same few)
  ];
}

-- what all operators read in a step is within the sum of their bounds
sums_within : (f g : ℕ → ℕ) (nodes : List ℕ) → AllByRecursion (λ node. f node ≤ g node) nodes → sum_by f nodes ≤ sum_by g nodes
sums_within f g [] h = omega arith
sums_within f g (node ∷ nodes) h =
    let first = sum_by-cons f node nodes in
    let bound = sum_by-cons g node nodes in
    let own = h.0 in
    let others = sums_within f g nodes h.1 in
    omega (arith, first, bound, own, others)

pub all_within : (run : Run) (step : ℕ) (reads : List (List ℕ)) → HaveStepped run (step + 1) reads → read_in run step reads ≤ most_in run step
all_within run step reads h =
    sums_within (λ node. slice_index (reads_at reads node) step) (most_reads run step) (operators run (length run.plan.nodes))
    (every_both (λ node. is_operator run node ≡ true) (λ node. node < length run.plan.nodes) (λ node. slice_index (reads_at reads node) step ≤ most_reads run step node) (operators run (length run.plan.nodes))
    (λ node is within. (h node within is).within step (omega arith))
    (filter_passes (is_operator run) (range_with_len 0 (length run.plan.nodes)))
    (every-filter (λ node. node < length run.plan.nodes) (is_operator run) (range_with_len 0 (length run.plan.nodes)) (range_all (λ node. node < length run.plan.nodes) 0 (length run.plan.nodes) (λ k less. omega (arith, less)))))

-- where all shares have tables, it is not so that one has none
pub defined_all : (shares : List Tag) → AllByRecursion (λ (share : Tag). is_defined share.run share.step share.node ≡ true) shares → all_defined shares ≡ false → ⊥
defined_all shares h none = true≢false (sym (pass_all (λ (share : Tag). is_defined share.run share.step share.node) shares h) ∙ none)

-- and where one has none, it is not so that all have
none_of : (b : Bool) → (b && false) ≡ false
none_of true = refl
none_of false = refl

pub one_undefined : (shares : List (Option Tag)) (k : ℕ) (d : Option Tag) (share : Tag) → k < length shares → d ≡ get_or shares k d → d ≡ Some share → is_defined share.run share.step share.node ≡ false → all_defined (flat_map option_to_list shares) ≡ false
one_undefined [] k d share less there is none = absurd (omega (arith, less))
one_undefined (x ∷ xs) zero d share less there is none = subst (λ y. all_defined (option_to_list y ++ flat_map option_to_list xs) ≡ false) (sym (sym there ∙ is)) (ap (λ b. b && all_defined (flat_map option_to_list xs)) none)
one_undefined (x ∷ xs) (suc k) d share less there is none = go x (one_undefined xs k d share (omega (arith, less)) there is none)
  where
    go : (y : Option Tag) → all_defined (flat_map option_to_list xs) ≡ false → all_defined (option_to_list y ++ flat_map option_to_list xs) ≡ false
    go None h = h
    go (Some t) h = ap (λ b. is_defined t.run t.step t.node && b) h ∙ none_of (is_defined t.run t.step t.node)
