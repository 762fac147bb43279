-- Tables that may be the sources of a plan, one after the other.
use Rattle.std.proofs.Common.{◌≡◌, refl, ap, sym, ◌∙◌, subst, true, false, cond, ◌&&◌, ◌==◌, ℕ, zero, suc, ◌+◌, ◌^◌, ◌<◌, ◌≤◌, arith, List, [], ◌∷◌, length, take, drop, filter, get_or, inl, inr, drop-cons, eq-eqb, true≢false}
use Rattle.std.{specs.Prelude.{nat_lt, nat_le}, specs.List.{list_all, AllByRecursion}, proofs.lemmas.Bool.{and_parts, eqb-true, leb-true, ltb-true, ne_eqb, cases_lt}, proofs.lemmas.List.drop_all, proofs.lemmas.List.Sums.sum_by-cons}
use Rattle.tick_model.{specs.declared.plan.Node.Node, specs.declared.table.PlainRow.PlainRow, specs.declared.table.PlainTable.PlainTable, specs.Tables.{keys, no_table}, specs.Plans.rises, specs.Evaluation.{is_source, source_number}, specs.Fits.{is_source_row, is_source_table, are_source_tables}, specs.Ready.table_in, proofs.Results.IsResult}

-- past the last source there may be no tables
pub no_tables_left : (n : ℕ) (tables : List PlainTable) → n ≤ length tables → are_source_tables [] (drop n tables) ≡ (n == length tables)
no_tables_left n tables h =
    elim (cases_lt n (length tables)) [
      | inl before ↦ ap (are_source_tables []) (drop-cons tables n no_table before) ∙ sym (ne_eqb n (length tables) (λ e. omega arith))
      | inr after ↦ ap (are_source_tables []) (drop_all n tables after) ∙ sym (eq-eqb n (length tables) (omega arith))
    ]

-- a source's table, by its place
pub record IsSourceAt (width : ℕ) (tables : List PlainTable) (place : ℕ) : Type 0 where
  pub within : place < length tables
  pub fits : is_source_table width (table_in tables place) ≡ true

source_after : (first : Node) (nodes : List Node) (tables : List PlainTable) (place width : ℕ) → ((tables : List PlainTable) → are_source_tables (filter is_source nodes) tables ≡ true → IsSourceAt width tables place)
    → are_source_tables (first ∷ filter is_source nodes) tables ≡ true → IsSourceAt width tables (1 + place)
source_after first nodes [] place width others h = absurd (true≢false (sym h))
source_after first nodes (table ∷ tables) place width others h =
    let rest = others tables (and_parts (is_source_table (length first.columns) table) (are_source_tables (filter is_source nodes) tables) h).1 in
    let next : suc place ≡ 1 + place = omega arith in
    let here : IsSourceAt width (table ∷ tables) (suc place) = record { within = omega (arith, rest.within); fits = rest.fits } in
    subst (IsSourceAt width (table ∷ tables)) next here

pub source_at : (nodes : List Node) (tables : List PlainTable) (n : ℕ) (node : Node) → are_source_tables (filter is_source nodes) tables ≡ true → n < length nodes → node ≡ get_or nodes n node → is_source node ≡ true
    → IsSourceAt (length node.columns) tables (source_number nodes n)
source_at [] tables n node h within here is = absurd (omega arith)
source_at (first ∷ nodes) tables zero node h within here is =
    by_table tables (subst (λ b. are_source_tables (cond b (first ∷ filter is_source nodes) (filter is_source nodes)) tables ≡ true) (ap is_source (sym here) ∙ is) h)
  where
    by_table : (tables : List PlainTable) → are_source_tables (first ∷ filter is_source nodes) tables ≡ true → IsSourceAt (length node.columns) tables 0
    by_table [] h = absurd (true≢false (sym h))
    by_table (table ∷ tables) h = record {
      within = omega arith;
      fits = subst (λ (node : Node). is_source_table (length node.columns) table ≡ true) (sym here) (and_parts (is_source_table (length first.columns) table) (are_source_tables (filter is_source nodes) tables) h).0;
    }
source_at (first ∷ nodes) tables (suc n) node h within here is =
    subst (IsSourceAt (length node.columns) tables) (sym (sum_by-cons (λ node. cond (is_source node) 1 0) first (take n nodes)))
    ((elim (is_source first) as (λ b. are_source_tables (cond b (first ∷ filter is_source nodes) (filter is_source nodes)) tables ≡ true → IsSourceAt (length node.columns) tables (cond b 1 0 + source_number nodes n)) [
      | true ↦ λ h. source_after first nodes tables (source_number nodes n) (length node.columns) (λ tables h. source_at nodes tables n node h (omega arith) here is) h
      | false ↦ λ h. subst (IsSourceAt (length node.columns) tables) (omega arith) (source_at nodes tables n node h (omega arith) here is)
    ]) h)

-- such a table keeps to its node
rows_of : (width : ℕ) (rows : List PlainRow) → list_all (is_source_row width) rows ≡ true → AllByRecursion (λ row. length row.cells ≡ width) rows × AllByRecursion (λ row. row.key < 2 ^ 40) rows
rows_of width [] h = (tt, tt)
rows_of width (row ∷ rows) h =
    let parts = and_parts (is_source_row width row) (list_all (is_source_row width) rows) h in
    let own = and_parts (nat_lt row.key (2 ^ 40)) (length row.cells == width) parts.0 in
    let rest = rows_of width rows parts.1 in
    ((eqb-true (length row.cells) width own.1, rest.0), (ltb-true row.key (2 ^ 40) own.0, rest.1))

pub source_result : (width : ℕ) (table : PlainTable) → is_source_table width table ≡ true → IsResult width (2 ^ 40) table
source_result width table h =
    let all = and_parts ((table.width == width) && nat_le (length table.rows) 4194304 && rises (keys table.rows)) (list_all (is_source_row width) table.rows) h in
    let shape = and_parts (table.width == width) (nat_le (length table.rows) 4194304) (and_parts ((table.width == width) && nat_le (length table.rows) 4194304) (rises (keys table.rows)) all.0).0 in
    let rows = rows_of width table.rows all.1 in
    record {
      width_is = eqb-true table.width width shape.0;
      few = leb-true (length table.rows) 4194304 shape.1;
      whole = rows.0;
      below = rows.1;
      regions = (16777215, refl);
    }
