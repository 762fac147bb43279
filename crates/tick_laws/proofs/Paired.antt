-- Sources with their tables.
use Rattle.std.proofs.Common.{◌≡◌, refl, ap, sym, ◌∙◌, subst, ℕ, zero, suc, ◌+◌, ◌<◌, arith, Bool, true, false, cond, List, [], ◌∷◌, map, take, length, get_or, set}
use Rattle.std.{specs.Prelude.filter, specs.List.AllByRecursion, proofs.lemmas.List.Sums.sum_by-cons}
use Rattle.tick_model.{specs.declared.plan.Node.Node, specs.declared.plan.Op.TheVariants.Source, specs.declared.table.PlainTable.PlainTable, specs.Updates.Tick, specs.Evaluation.{is_source, source_number}, specs.Tables.no_table, specs.LawfulRuns.sources_of, specs.Sources.new_table}

-- a node for places past the end
abbrev pub no_node : Node
no_node = record { name = []; columns = []; op = Source }

-- each source with its table
abbrev pub Paired : (Node → PlainTable → Type 0) → List Node → List PlainTable → Type 0
Paired P [] [] = Unit {0}
Paired P [] (table ∷ tables) = ⊥
Paired P (source ∷ sources) [] = ⊥
Paired P (source ∷ sources) (table ∷ tables) = P source table × Paired P sources tables

pub paired_at : (P : Node → PlainTable → Type 0) (sources : List Node) (tables : List PlainTable) (k : ℕ) → Paired P sources tables → k < length sources → P (get_or sources k no_node) (get_or tables k no_table)
paired_at P [] tables k h less = absurd (omega (arith, less))
paired_at P (source ∷ sources) [] k h less = absurd h
paired_at P (source ∷ sources) (table ∷ tables) zero h less = h.0
paired_at P (source ∷ sources) (table ∷ tables) (suc k) h less = paired_at P sources tables k h.1 (omega (arith, less))

pub paired_each : (P : Node → PlainTable → Type 0) (Q : PlainTable → Type 0) → ((source : Node) (table : PlainTable) → P source table → Q table) → (sources : List Node) (tables : List PlainTable) → Paired P sources tables → AllByRecursion Q tables
paired_each P Q f [] [] h = tt
paired_each P Q f [] (table ∷ tables) h = absurd h
paired_each P Q f (source ∷ sources) [] h = absurd h
paired_each P Q f (source ∷ sources) (table ∷ tables) h = (f source table h.0, paired_each P Q f sources tables h.1)

pub paired_set : (P : Node → PlainTable → Type 0) (sources : List Node) (ticks : List Tick) (k : ℕ) (tick : Tick) → Paired P sources (map new_table ticks) → (k < length sources → P (get_or sources k no_node) tick.new) → Paired P sources (map new_table (set ticks k tick))
paired_set P [] [] k tick h p = tt
paired_set P [] (t ∷ ticks) k tick h p = absurd h
paired_set P (source ∷ sources) [] k tick h p = absurd h
paired_set P (source ∷ sources) (t ∷ ticks) zero tick h p = (p (omega arith), h.1)
paired_set P (source ∷ sources) (t ∷ ticks) (suc k) tick h p = (h.0, paired_set P sources ticks k tick h.1 (λ less. p (omega (arith, less))))

-- a source of the plan stands at its number among the sources
pub source_there : (nodes : List Node) (n : ℕ) → n < length nodes → is_source (get_or nodes n no_node) ≡ true
    → (source_number nodes n < length (sources_of nodes)) × (get_or (sources_of nodes) (source_number nodes n) no_node ≡ get_or nodes n no_node)
source_there [] n less is = absurd (omega (arith, less))
source_there (node ∷ nodes) zero less is =
    subst (λ b. (0 < length (cond b (node ∷ filter is_source nodes) (filter is_source nodes))) × (get_or (cond b (node ∷ filter is_source nodes) (filter is_source nodes)) 0 no_node ≡ node)) (sym is) (omega arith, refl)
source_there (node ∷ nodes) (suc n) less is = go (is_source node) refl (source_there nodes n (omega (arith, less)) is)
  where
    counted : (b : Bool) → is_source node ≡ b → source_number (node ∷ nodes) (suc n) ≡ cond b 1 0 + source_number nodes n
    counted b e = sum_by-cons (λ (x : Node). cond (is_source x) 1 0) node (take n nodes) ∙ ap (λ c. cond c 1 0 + source_number nodes n) e

    none_more : (k : ℕ) → 0 + k ≡ k
    none_more k = omega arith

    one_more : (k : ℕ) → 1 + k ≡ suc k
    one_more k = omega arith

    go : (b : Bool) → is_source node ≡ b → (source_number nodes n < length (sources_of nodes)) × (get_or (sources_of nodes) (source_number nodes n) no_node ≡ get_or nodes n no_node)
        → (source_number (node ∷ nodes) (suc n) < length (sources_of (node ∷ nodes))) × (get_or (sources_of (node ∷ nodes)) (source_number (node ∷ nodes) (suc n)) no_node ≡ get_or nodes n no_node)
    go true e rest =
        subst (λ c. (source_number (node ∷ nodes) (suc n) < length (cond c (node ∷ filter is_source nodes) (filter is_source nodes))) × (get_or (cond c (node ∷ filter is_source nodes) (filter is_source nodes)) (source_number (node ∷ nodes) (suc n)) no_node ≡ get_or nodes n no_node)) (sym e)
        (subst (λ k. (k < length (node ∷ filter is_source nodes)) × (get_or (node ∷ filter is_source nodes) k no_node ≡ get_or nodes n no_node)) (sym (counted true e ∙ one_more (source_number nodes n)))
        (omega (arith, rest.0), rest.1))
    go false e rest =
        subst (λ c. (source_number (node ∷ nodes) (suc n) < length (cond c (node ∷ filter is_source nodes) (filter is_source nodes))) × (get_or (cond c (node ∷ filter is_source nodes) (filter is_source nodes)) (source_number (node ∷ nodes) (suc n)) no_node ≡ get_or nodes n no_node)) (sym e)
        (subst (λ k. (k < length (filter is_source nodes)) × (get_or (filter is_source nodes) k no_node ≡ get_or nodes n no_node)) (sym (counted false e ∙ none_more (source_number nodes n)))
        rest)
