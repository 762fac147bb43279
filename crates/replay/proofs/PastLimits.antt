-- The least published table with more rows than its limit, found one table after the other.
use Rattle.std.proofs.Common.{◌≡◌, sym, ap, ◌∙◌, subst, ℕ, zero, suc, ◌+◌, ◌<◌, ◌≤◌, arith, lt-ltb, le-ltb, true, false, List, [], ◌∷◌, drop, length, get_or, Option, Some, None}
use Rattle.std.{specs.Prelude.{map, nat_lt}, specs.List.AllByRecursion, proofs.lemmas.Bool.{cond-true, cond-false}, proofs.lemmas.List.{at_drop_more, at_drop_all, get_or-map}}
use Rattle.snapshot_store.specs.Lines.{limit_in, node_in}
use Rattle.tick_model.{specs.declared.plan.Published.Published, specs.Evaluation.{Outcome, table_at}, specs.Spoiled.{ByPublication, Cause, publication_fault}}

module _ (outcomes : List Outcome) (tables : List Published) where
  -- what is found among the tables from one on
  abbrev pub fault_from : ℕ → Option Cause
  fault_from i = publication_fault i outcomes (drop i tables)

  abbrev rows_at : Published → ℕ
  rows_at table = length (table_at outcomes table.node).rows

  module _ (i : ℕ) (d : Published) (less : i < length tables) where
    abbrev table : Published
    table = get_or tables i d

    found : fault_from i ≡ publication_fault i outcomes (table ∷ drop (i + 1) tables)
    found = at_drop_more (publication_fault i outcomes) tables i d less

    pub fault_next : rows_at table ≤ table.limit → fault_from i ≡ fault_from (i + 1)
    fault_next few =
        found ∙ cond-false (nat_lt table.limit (rows_at table)) (Some (ByPublication i (rows_at table))) (fault_from (i + 1)) (le-ltb table.limit (rows_at table) few)

    pub fault_here : table.limit < rows_at table → fault_from i ≡ Some (ByPublication i (rows_at table))
    fault_here past =
        found ∙ cond-true (nat_lt table.limit (rows_at table)) (Some (ByPublication i (rows_at table))) (fault_from (i + 1)) (lt-ltb table.limit (rows_at table) past)

    pub node_is : node_in tables i ≡ table.node
    node_is = get_or-map (λ (t : Published). t.node) tables i d 0 less

    pub limit_is : limit_in tables i ≡ table.limit
    limit_is = get_or-map (λ (t : Published). t.limit) tables i d 0 less

  pub fault_none : (i : ℕ) → length tables ≤ i → fault_from i ≡ None
  fault_none i past = at_drop_all (publication_fault i outcomes) tables i past
