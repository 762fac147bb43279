use Rattle.std.proofs.Common.{sym, ◌∙◌, map}
use Rattle.tick_model.{specs.Columns.have_kinds, proofs.ColumnLists.{follow_cut, follow_short, joined_true, joined_false}}
use Rattle.tick_model.proofs.columns.follow.Goals as goal

pub returns-then-columns-input : goal.returns-then-columns-input
returns-then-columns-input g c = sym (follow_short c.args.columns.now c.args.input.now (map (g.T.KindOver.kind_by c.args.other.now) c.args.items.now) c.if-columns-input.true)

pub returns-then-same_columns : goal.returns-then-same_columns
returns-then-same_columns g c =
    joined_true c.if-same_columns.true c.same_columns.ensures c.have_kinds.ensures
    ∙ follow_cut c.args.columns.now c.args.input.now _ _ (map (g.T.KindOver.kind_by c.args.other.now) c.args.items.now) c.if-columns-input.false c.split_at.ensures.front c.split_at.ensures.back

pub returns-else-same_columns : goal.returns-else-same_columns
returns-else-same_columns g c =
    joined_false (have_kinds c.split_at.result.1.now (map (g.T.KindOver.kind_by c.args.other.now) c.args.items.now)) c.if-same_columns.false c.same_columns.ensures
    ∙ follow_cut c.args.columns.now c.args.input.now _ _ (map (g.T.KindOver.kind_by c.args.other.now) c.args.items.now) c.if-columns-input.false c.split_at.ensures.front c.split_at.ensures.back
