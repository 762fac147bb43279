use Rattle.std.proofs.Common.{sym, ◌∙◌, map, arith}
use Rattle.std.proofs.lemmas.List.{length-map}
use Rattle.tick_model.{specs.Columns.{kind_at, agg_kind, have_kinds}, proofs.ColumnLists.{kinds_cut, kinds_short, joined_true, joined_false}}
use Rattle.tick_model.proofs.columns.are_of_groups.Goals as goal

pub returns-then-columns-by : goal.returns-then-columns-by
returns-then-columns-by c =
    sym (kinds_short c.args.columns.now (map (kind_at c.args.input.now) c.args.by.now) (map (agg_kind c.args.input.now) c.args.aggs.now) (omega (arith, c.if-columns-by.true, length-map c.args.by.now (kind_at c.args.input.now))))

pub returns-then-have_kinds : goal.returns-then-have_kinds
returns-then-have_kinds c =
    joined_true c.if-have_kinds.true c.have_kinds.ensures c.have_kinds-then-have_kinds.ensures
    ∙ kinds_cut c.args.by.now c.args.columns.now _ _ (kind_at c.args.input.now) (map (agg_kind c.args.input.now) c.args.aggs.now) c.if-columns-by.false c.split_at.ensures.front c.split_at.ensures.back

pub returns-else-have_kinds : goal.returns-else-have_kinds
returns-else-have_kinds c =
    joined_false (have_kinds c.split_at.result.1.now (map (agg_kind c.args.input.now) c.args.aggs.now)) c.if-have_kinds.false c.have_kinds.ensures
    ∙ kinds_cut c.args.by.now c.args.columns.now _ _ (kind_at c.args.input.now) (map (agg_kind c.args.input.now) c.args.aggs.now) c.if-columns-by.false c.split_at.ensures.front c.split_at.ensures.back
