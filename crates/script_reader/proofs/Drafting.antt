-- A view, of formulas that lie somewhere.
use Rattle.std.proofs.Common.{◌≡◌, ap, sym, ◌∙◌, Bool, ℕ, List, ◌++◌, map, Option, Ok}
use Rattle.tick_model.{specs.declared.plan.ColumnSpec.ColumnSpec, specs.declared.plan.Expr.Expr, specs.declared.plan.Kind.Kind, specs.declared.plan.Node.Node, specs.declared.plan.Op.TheVariants.View, specs.Columns.{kind_of, kinds_of}}
use Rattle.script_lines.specs.declared.line.Computed.{Computed}
use Rattle.script_reader.{specs.Checks.{node_named, names_of, tables_of, table_at, exprs_of, named_columns, all_there, draft_of, expr_kinds, viewed}, specs.Drafts.before, specs.Plain.plain, proofs.Plainly.expr_kinds_plain}

pub viewed_is : (nodes : List Node) (literals after : List (List ℕ)) (name : List ℕ) (computed : List Computed) (input : ℕ) (columns all : List ColumnSpec) (exprs : List Expr) (kinds : List (Option Kind)) (fits : Bool)
    → node_named (names_of nodes) name ≡ Ok input → columns ≡ table_at (tables_of nodes) input → exprs_of columns literals computed ≡ Ok (map plain exprs, after)
    → kinds ≡ map (λ expr. kind_of expr (kinds_of columns)) exprs → all ≡ columns ++ named_columns (map (λ c. c.name) computed) kinds → fits ≡ all_there kinds
    → viewed (before nodes literals) name computed ≡ Ok (draft_of (View input (map plain exprs)) all fits after)
unfolding viewed
viewed_is nodes literals after name computed input columns all exprs kinds fits found columns_are made kinds_are all_is fits_is =
    let table = table_at (tables_of nodes) input in
    let made_here : exprs_of table literals computed ≡ Ok (map plain exprs, after) = ap (λ columns. exprs_of columns literals computed) (sym columns_are) ∙ made in
    let own_kinds : kinds ≡ expr_kinds table (map plain exprs) =
    kinds_are ∙ ap (λ columns. map (λ expr. kind_of expr (kinds_of columns)) exprs) columns_are ∙ sym (expr_kinds_plain table exprs) in
    let columns_here : all ≡ table ++ named_columns (map (λ (c : Computed). c.name) computed) (expr_kinds table (map plain exprs)) =
    all_is ∙ ap (λ columns. columns ++ named_columns (map (λ (c : Computed). c.name) computed) kinds) columns_are ∙ ap (λ kinds. table ++ named_columns (map (λ (c : Computed). c.name) computed) kinds) own_kinds in
    rw (found, made_here)
    (ap (λ all. Ok (draft_of (View input (map plain exprs)) all (all_there (expr_kinds table (map plain exprs))) after)) (sym columns_here)
    ∙ ap (λ fits. Ok (draft_of (View input (map plain exprs)) all fits after)) (sym (fits_is ∙ ap all_there own_kinds)))
