use Rattle.std.proofs.Common.{◌≡◌, ap, sym, ◌∙◌, subst, rules, w64, SFits, List, ℤ, map, drop, length}
use Rattle.std.{specs.Prelude.OnOk, proofs.lemmas.Int.to_z-of_z, proofs.lemmas.List.take_rest}
use Rattle.row_groups.specs.Members.{groups_of}
use Rattle.tick_table.specs.Versions.{table_in}
use Rattle.lookup_join.{specs.declared.keyed.Side.TheVariants.{Left, Right}, specs.declared.matches.Match.Match, specs.Keyed.time_of, specs.Taken.{IsThere, cell_of}, proofs.Latests.timed_index, proofs.Taking.{in_cells, in_there}, proofs.Reading.taken_behind}
use Rattle.lookup_join.proofs.rows.MatchedRows.put_taken.Goals as goal

pub match_in-taken-requires : goal.match_in-taken-requires
match_in-taken-requires g c =
    let rows = c.args.self.now in
    timed_index Right rows.on.now rows.pick rows.right.now.new.rows (groups_of rows.index.now) c.requires.matched.rows

pub put_cells-requires-clause-there : goal.put_cells-requires-clause-there
put_cells-requires-clause-there g c =
    let right = c.args.self.now.right.now in
    subst (IsThere right.old right.new) (sym c.match_in-taken.ensures) (in_there c.requires.matched _ _ c.args.version c.requires.some)

pub put_cells-requires-clause-take : goal.put_cells-requires-clause-take
put_cells-requires-clause-take g c = c.requires.matched.within

pub returns-clause-cells : goal.returns-clause-cells
returns-clause-cells g c =
    let rows = c.args.self.now in
    let right = rows.right.now in
    let end : c.len-end.result ≡ length c.args.cells.now.items = search rules in
    let fits : SFits w64 c.time_from-time.result = search rules in
    let taken = ap (λ (m : Match). map (cell_of right.old.rows right.new.rows m) rows.take.now) c.match_in-taken.ensures ∙ in_cells c.requires.matched _ _ c.args.version c.requires.some in
    let whole = taken_behind rows.on.now rows.pick rows.take.now (table_in c.args.version right).rows c.args.cells.now.items c.put_key_cells.new.cells.items c.truncate.new.self.items _ _ _ c.args.start c.len-end.result end c.in_ok-put_key_cells.ensures c.truncate.ensures.items
    (take_rest c.deref-2.result.now c.len-end.result ∙ ap (drop c.len-end.result) c.deref-2.ensures.value)
    (to_z-of_z w64 c.time_from-time.result fits ∙ c.time_from-time.ensures ∙ ap (λ (cells : List ℤ). time_of Left rows.pick (drop c.args.start cells)) c.deref.ensures.value) taken in
    subst (λ (all : List ℤ). OnOk c.put_cells.result (c.put_cells.new.cells.items ≡ all)) whole c.put_cells.ensures.cells
