-- The ticks of a plan's nodes, each from those of its inputs.
use Rattle.std.proofs.Common.{◌≡◌, refl, ap, ◌∙◌, ℕ, ◌<◌, ◌⊎◌, inl, inr, arith, true, false, List, [], take, length, get_or, length-take-le}
use Rattle.std.{specs.Prelude.fold, specs.List.AllByRecursion, proofs.lemmas.List.get_or-take}
use Rattle.tick_model.{specs.declared.plan.Node.Node, specs.declared.plan.Op.Op, specs.declared.plan.Op.TheVariants.{Source, Merge}, specs.declared.table.PlainTable.PlainTable, specs.declared.update.KeyPair.KeyPair, specs.Updates.Tick, specs.Merge.merge_pairs, specs.Evaluation.source_number, specs.Operators.{inputs_of, kept_by, is_source_op}, specs.Sources.{no_tick, tick_at}, specs.States.{tick_of, tick_node}}
use Rattle.key_lists.proofs.Every.{every_weaker, map_same}
use Rattle.tick_laws.proofs.Grown.{made_at, length-grown}

abbrev pub tick_from : PlainTable → PlainTable → List KeyPair → Tick
tick_from old new kept = record { old = old; new = new; kept = kept }

-- a node's tick is its source's, or that of its operator
pub tick_cases : (op : Op) (own : Tick) (done : List Tick) (old new : PlainTable)
    → ((is_source_op op ≡ true) × (tick_of op own done old new ≡ own)) ⊎ ((is_source_op op ≡ false) × (tick_of op own done old new ≡ tick_from old new (kept_by op (tick_at done) old new)))
tick_cases Source own done old new = inl (refl, refl)
tick_cases op own done old new = inr (refl, refl)

-- an operator reads the ticks of its inputs alone
pub kept_same : (op : Op) (tick other : ℕ → Tick) (old new : PlainTable) → AllByRecursion (λ i. tick i ≡ other i) (inputs_of op) → kept_by op tick old new ≡ kept_by op other old new
kept_same Source tick other old new h = refl
kept_same (Merge inputs) tick other old new h = ap merge_pairs (map_same tick other inputs h)
kept_same op tick other old new h = ap (λ t. kept_by op (λ _. t) old new) h.0

tick_same : (op : Op) (own : Tick) (done others : List Tick) (old new : PlainTable) → AllByRecursion (λ i. tick_at done i ≡ tick_at others i) (inputs_of op) → tick_of op own done old new ≡ tick_of op own others old new
tick_same Source own done others old new h = refl
tick_same op own done others old new h = ap (tick_from old new) (kept_same op (tick_at done) (tick_at others) old new h)

module _ (nodes : List Node) (d : Node) (own : List Tick) (old new : ℕ → PlainTable) where
  abbrev T : List Tick
  T = fold (tick_node nodes own old new) [] nodes

  abbrev op_at : ℕ → Op
  op_at n = (get_or nodes n d).op

  pub length_ticks : length T ≡ length nodes
  length_ticks = length-grown no_tick d (λ done node. tick_of node.op (tick_at own (source_number nodes (length done))) done (old (length done)) (new (length done))) [] nodes ∙ omega arith

  made_tick : (n : ℕ) → n < length nodes → get_or T n no_tick ≡ tick_of (op_at n) (tick_at own (source_number nodes n)) (take n T) (old n) (new n)
  made_tick n h =
      made_at no_tick d (λ done node. tick_of node.op (tick_at own (source_number nodes (length done))) done (old (length done)) (new (length done))) [] nodes n n h (omega arith)
      ∙ ap (λ k. tick_of (op_at n) (tick_at own (source_number nodes k)) (take n T) (old k) (new k)) (length-take-le n T (omega (arith, length_ticks, h)))

  -- a node's tick is that of its operator over all ticks
  pub tick_is : (n : ℕ) → n < length nodes → AllByRecursion (λ input. input < n) (inputs_of (op_at n)) → get_or T n no_tick ≡ tick_of (op_at n) (tick_at own (source_number nodes n)) T (old n) (new n)
  tick_is n h lesser =
      made_tick n h
      ∙ tick_same (op_at n) (tick_at own (source_number nodes n)) (take n T) T (old n) (new n)
      (every_weaker (λ i. i < n) (λ i. tick_at (take n T) i ≡ tick_at T i) (inputs_of (op_at n)) (λ i less. get_or-take n T i no_tick less) lesser)
