use Rattle.std.proofs.Common.{◌≡◌, ◌+◌, ◌++◌, ◌∷◌, [], ◌∙◌, ap, sym, length, take, map, rules}
use Rattle.std.{proofs.lemmas.List.length_push, proofs.lemmas.Slice.Zip.{zip_turn, zip_end}}
use Rattle.script_reader.{specs.Checks.named_columns, proofs.NewColumns.{named_more, named_all}}
use Rattle.script_reader.proofs.columns.push_new.Goals as goal

pub loop-column-preserved : goal.loop-column-preserved
loop-column-preserved g c =
    let name = g.T.NewColumn.new_name in
    let here = zip_turn c.args.named.now c.args.kinds.now c.loop-column.yielded c.into_iter-column-iterator.result c.loop-column.column-iterator c.next.new.self c.next.result (search rules) (search rules) c.loop-column.yielded_by
    (c.in-Some.column, c.in-Some.kind) c.in-Some.is c.next.ensures.steps in
    let one : length (c.loop-column.yielded ++ (c.in-Some.column, c.in-Some.kind) ∷ []) ≡ length c.loop-column.yielded + 1 = length_push c.loop-column.yielded (c.in-Some.column, c.in-Some.kind) in
    c.in_ok-push.ensures.ok
    ∙ named_more name c.args.columns.now c.loop-column.columns c.in_ok-new.new c.args.named.now c.args.kinds.now (length c.loop-column.yielded) c.in-Some.column.now c.in-Some.kind.now here.0 here.1 (here.2 _) (here.3 _)
    (c.in_ok-new.ensures.name ∙ c.new_name.ensures) c.in_ok-new.ensures.kind c.loop-column.invariant
    ∙ ap (λ n. c.args.columns.now ++ named_columns (map name (take n c.args.named.now)) (take n c.args.kinds.now)) (sym one)

pub returns : goal.returns
returns g c =
    let name = g.T.NewColumn.new_name in
    let end = zip_end c.args.named.now c.args.kinds.now c.loop-column.yielded c.into_iter-column-iterator.result c.loop-column.column-iterator c.next.new.self c.next.result (search rules) (search rules) c.loop-column.yielded_by
    c.in-None.is c.next.ensures.steps in
    c.loop-column.invariant ∙ ap (λ columns. c.args.columns.now ++ columns) (named_all name (length c.loop-column.yielded) c.args.named.now c.args.kinds.now end)
