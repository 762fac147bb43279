-- Each operator of a lawful plan keeps its table within its bounds.
use Rattle.std.proofs.Common.{◌≡◌, ap, sym, ◌∙◌, ℕ, suc, ◌+◌, ◌*◌, ◌<◌, ◌≤◌, ◌^◌, ◌&&◌, arith, true, false, true≢false, List, [], ◌∷◌, map, length, None, sum}
use Rattle.std.{specs.Prelude.{sum_by, nat_le}, specs.List.{list_all, AllByRecursion}, proofs.lemmas.Bool.and_parts, proofs.lemmas.List.Sums.sum_by-cons}
use Rattle.tick_model.{specs.declared.plan.ColumnSpec.ColumnSpec, specs.declared.plan.Op.Op, specs.declared.plan.Op.TheVariants.Merge, specs.declared.table.PlainRow.PlainRow, specs.declared.table.PlainTable.PlainTable, specs.Tables.{IsRow, IsTable}, specs.Merge.{region, width_of}, specs.Operators.{inputs_of, result, fault_of, columns_fit, bound_of, is_source_op}, specs.Columns.same_columns, specs.Ready.HaveRoom, proofs.Results.{AreResults, IsResult, merged_room, result_is}, proofs.Widths.same_width}
use Rattle.key_lists.proofs.Every.{every_weaker, every_both, every-map, every_unmapped}
use Rattle.tick_laws.{specs.Bounded.IsNodeTable, specs.Room.HasRoom, proofs.EvalNodes.all_pass, proofs.LawfulPlans.IsBound, proofs.ResultTables.result_table}

-- a table within its bounds keeps to its node
pub node_result : (width bound : ℕ) (table : PlainTable) → IsBound bound → IsNodeTable width bound table → IsResult width bound table
node_result width bound table b h = record {
  width_is = h.width_is;
  few = h.count;
  whole = every_weaker (IsRow table.width) (λ row. length row.cells ≡ width) table.rows (λ row r. r.whole ∙ h.width_is) h.is_table.rows;
  below = every_unmapped (λ key. key < bound) (λ (row : PlainRow). row.key) table.rows h.below;
  regions = (b.regions, b.are ∙ ap (λ k. 65536 * k) (next b.regions));
}
  where
    next : (k : ℕ) → k + 1 ≡ suc k
    next k = omega arith

-- where merged keys have room, so have the regions
regions_within : (offset : ℕ) (tables : List PlainTable) → offset ≤ 2 ^ 62 → HaveRoom offset tables → offset + sum_by region tables ≤ 2 ^ 62
regions_within offset [] small room = omega (arith, small)
regions_within offset (table ∷ tables) small room = let rest = regions_within (offset + region table) tables room.0.next room.1 in omega (arith, rest, sum_by-cons region table tables)

module _ (input : ℕ → List ColumnSpec) (columns : List ColumnSpec) (bound : ℕ → ℕ) (table : ℕ → PlainTable) where
  -- the tables that a merge reads can be merged
  roomy : (op : Op) → columns_fit op input columns ≡ true → bound_of op bound < 2 ^ 62 → AreResults (λ i. length (input i)) bound table (inputs_of op) → HasRoom op table
  roomy (Merge []) f room h = absurd (true≢false (sym (and_parts (nat_le 2 0 && nat_le 0 16) true f).0))
  roomy (Merge (from ∷ inputs)) f room h =
      let all = from ∷ inputs in
      let small : sum (map bound (from ∷ inputs)) ≤ 2 ^ 62 = omega (arith, room) in
      let alike = all_pass (λ i. same_columns columns (input i)) all (and_parts (nat_le 2 (length all) && nat_le (length all) 16) (list_all (λ i. same_columns columns (input i)) all) f).1 in
      let widths = every_both (λ i. IsResult (length (input i)) (bound i) (table i)) (λ i. same_columns columns (input i) ≡ true) (λ i. (table i).width ≡ length columns) all (λ i k e. k.width_is ∙ sym (same_width columns (input i) e)) h alike in
      record {
        one_width = every-map (λ (t : PlainTable). t.width ≡ width_of (map table (from ∷ inputs))) table all (every_weaker (λ i. (table i).width ≡ length columns) (λ i. (table i).width ≡ (table from).width) all (λ i e. e ∙ sym widths.0) widths);
        regions = let within = regions_within 0 (map table all) (omega arith) (merged_room (sum (map bound all)) (λ i. length (input i)) bound table all 0 small h (omega arith)) in omega (arith, within);
      }
  roomy op f room h = tt

  abbrev IsInput : ℕ → Type 0
  IsInput i = IsNodeTable (length (input i)) (bound i) (table i)

  pub node_table : (op : Op) → is_source_op op ≡ false → columns_fit op input columns ≡ true → bound_of op bound < 2 ^ 62
      → AllByRecursion (λ i. IsBound (bound i)) (inputs_of op) → AllByRecursion IsInput (inputs_of op) → fault_of op table ≡ None
      → IsNodeTable (length columns) (bound_of op bound) (result op table)
  node_table op s f room bounds h fault =
      let results = every_both (λ i. IsBound (bound i)) IsInput (λ i. IsResult (length (input i)) (bound i) (table i)) (inputs_of op) (λ i. node_result (length (input i)) (bound i) (table i)) bounds h in
      let is = result_is op input bound table columns s f results fault in
      record {
        is_table = result_table op table (every_weaker IsInput (λ i. IsTable (table i)) (inputs_of op) (λ i k. k.is_table) h) (roomy op f room results);
        width_is = is.width_is;
        below = every-map (λ key. key < bound_of op bound) (λ (row : PlainRow). row.key) (result op table).rows is.below;
        count = is.few;
      }
