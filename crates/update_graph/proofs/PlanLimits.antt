-- How much a lawful plan has.
use Rattle.std.proofs.Common.{◌≡◌, ℕ, zero, suc, ◌+◌, ◌<◌, ◌≤◌, arith, true, List, [], ◌∷◌, length, get_or}
use Rattle.std.{specs.Prelude.nat_le, specs.List.{AllByRecursion, enumerate_from, list_all}, proofs.lemmas.Bool.{and_parts, leb-true}}
use Rattle.key_lists.proofs.Every.{every-filter}
use Rattle.tick_model.{specs.declared.feed.Run.Run, specs.declared.plan.Node.Node, specs.declared.table.PlainTable.PlainTable, specs.Evaluation.is_source, specs.LawfulRuns.{AreOpenings, IsLawfulRun, sources_of}, specs.Plans.node_lawful}
use Rattle.update_graph.specs.Tags.{no_node, node_at}

-- a node has from 1 to 32 columns
pub record HasWidth (node : Node) : Type 0 where
  pub some : 1 ≤ length node.columns
  pub few : length node.columns ≤ 32

has_width : (nodes : List Node) (numbered : ℕ × Node) → node_lawful nodes numbered ≡ true → HasWidth numbered.1
has_width nodes numbered h =
    let p1 = and_parts _ _ h in
    let p2 = and_parts _ _ p1.0 in
    let p3 = and_parts _ (nat_le (length numbered.1.columns) 32) p2.0 in
    let p4 = and_parts _ (nat_le 1 (length numbered.1.columns)) p3.0 in
    record { some = leb-true 1 (length numbered.1.columns) p4.1; few = leb-true (length numbered.1.columns) 32 p3.1 }

have_widths : (all : List Node) (start : ℕ) (nodes : List Node) → list_all (node_lawful all) (enumerate_from start nodes) ≡ true → AllByRecursion HasWidth nodes
have_widths all start [] h = tt
have_widths all start (node ∷ nodes) h =
    let parts = and_parts (node_lawful all (start, node)) (list_all (node_lawful all) (enumerate_from (start + 1) nodes)) h in
    (has_width all (start, node) parts.0, have_widths all (start + 1) nodes parts.1)

-- a table of so many columns
pub record IsNarrow (table : PlainTable) : Type 0 where
  pub some : 1 ≤ table.width
  pub few : table.width ≤ 32

module _ (run : Run) (h : IsLawfulRun run) where
  tests : (nat_le (length run.plan.nodes) 256 ≡ true) × (list_all (node_lawful run.plan.nodes) (enumerate_from 0 run.plan.nodes) ≡ true)
  tests =
      let p1 = and_parts _ _ h.plan in
      let p2 = and_parts _ _ p1.0 in
      let p3 = and_parts _ _ p2.0 in
      let p4 = and_parts _ _ p3.0 in
      let p5 = and_parts _ _ p4.0 in
      let p6 = and_parts _ _ p5.0 in
      let p7 = and_parts _ (list_all (node_lawful run.plan.nodes) (enumerate_from 0 run.plan.nodes)) p6.0 in
      let p8 = and_parts (nat_le (length run.plan.nodes) 256) _ p7.0 in
      (p8.0, p7.1)

  pub few_nodes : length run.plan.nodes ≤ 256
  few_nodes = leb-true (length run.plan.nodes) 256 tests.0

  pub all_widths : AllByRecursion HasWidth run.plan.nodes
  all_widths = have_widths run.plan.nodes 0 run.plan.nodes tests.1

  at_each : (nodes : List Node) → AllByRecursion HasWidth nodes → (n : ℕ) → n < length nodes → HasWidth (get_or nodes n no_node)
  at_each [] w n within = absurd (omega (arith, within))
  at_each (node ∷ nodes) w zero within = w.0
  at_each (node ∷ nodes) w (suc n) within = at_each nodes w.1 n (omega (arith, within))

  pub width_at : (n : ℕ) → n < length run.plan.nodes → HasWidth (node_at run n)
  width_at n within = at_each run.plan.nodes all_widths n within

  openings : (texts : ℕ) (sources : List Node) (tables : List PlainTable) → AllByRecursion HasWidth sources → AreOpenings sources texts tables → AllByRecursion IsNarrow tables
  openings texts [] [] w o = tt
  openings texts [] (table ∷ tables) w o = absurd o
  openings texts (source ∷ sources) [] w o = absurd o
  openings texts (source ∷ sources) (table ∷ tables) w o =
      let same = o.0.width in
      let some = w.0.some in
      let few = w.0.few in
      (record { some = omega arith; few = omega arith }, openings texts sources tables w.1 o.1)

  pub narrow_openings : AllByRecursion IsNarrow run.opening
  narrow_openings = openings (length run.texts) (sources_of run.plan.nodes) run.opening (every-filter HasWidth is_source run.plan.nodes all_widths) h.opening
