use Rattle.std.proofs.Common.{◌≡◌, refl, sym, ◌∙◌, subst, true, List, Option, is_some}
use Rattle.std.{proofs.lemmas.Result.on_ok_weaker, proofs.lemmas.Option.same_Some}
use Rattle.row_groups.specs.Members.{Member, group_of, groups_of, name_at}
use Rattle.agg_by.{specs.declared.running.Accumulator.Accumulator, specs.Kept.AnswerAll, specs.Steps.key_at, proofs.Answering.{few_rows, led_cells, led_row, put_row, rows_there, there_at}, proofs.FirstKeys.{led_at, led_name, led_own}}
use Rattle.agg_by.proofs.kept.AggIndex.put_group.Goals as goal

pub number_led-number-requires-clause-there : goal.number_led-number-requires-clause-there
number_led-number-requires-clause-there g c =
    let table = c.args.input.now.new in
    let kept = groups_of c.args.self.now.rows in
    there_at c.args.self.now.by table c.requires.table kept c.requires.keeps.rows c.args.first (led_row c.args.self.now.by table c.requires.table kept c.requires.keeps.rows c.args.first c.requires.here)

pub number_led-number-requires-clause-starts : goal.number_led-number-requires-clause-starts
number_led-number-requires-clause-starts g c =
    led_own c.args.self.now.by c.args.input.now.new c.requires.table (groups_of c.args.self.now.rows) c.requires.keeps.rows c.args.first c.requires.here

pub unwrap-group-requires : goal.unwrap-group-requires
unwrap-group-requires g c =
    subst (λ (group : Option (List Member)). is_some group ≡ true)
    (sym (led_at c.args.self.now.by c.args.input.now.new c.requires.table (groups_of c.args.self.now.rows) c.requires.keeps.rows c.args.first c.number_led-number.result c.args.self.now.rows.names c.group_at.result c.number_led-number.ensures c.group_at.ensures.group)) refl

pub put_values-requires-clause-few : goal.put_values-requires-clause-few
put_values-requires-clause-few g c =
    few_rows c.args.self.now.by c.args.input.now.new c.requires.table (groups_of c.args.self.now.rows) c.requires.keeps.rows (key_at c.args.self.now.by c.args.input.now.new.rows c.args.first) c.unwrap-group.result
    (same_Some _ _ (sym c.unwrap-group.ensures ∙ led_at c.args.self.now.by c.args.input.now.new c.requires.table (groups_of c.args.self.now.rows) c.requires.keeps.rows c.args.first c.number_led-number.result c.args.self.now.rows.names c.group_at.result c.number_led-number.ensures c.group_at.ensures.group))

pub put_values-requires-clause-here : goal.put_values-requires-clause-here
put_values-requires-clause-here g c =
    rows_there c.args.self.now.by c.args.input.now.new c.requires.table (groups_of c.args.self.now.rows) c.requires.keeps.rows (key_at c.args.self.now.by c.args.input.now.new.rows c.args.first) c.unwrap-group.result
    (same_Some _ _ (sym c.unwrap-group.ensures ∙ led_at c.args.self.now.by c.args.input.now.new c.requires.table (groups_of c.args.self.now.rows) c.requires.keeps.rows c.args.first c.number_led-number.result c.args.self.now.rows.names c.group_at.result c.number_led-number.ensures c.group_at.ensures.group))

pub returns-clause-cells : goal.returns-clause-cells
returns-clause-cells g c =
    let table = c.args.input.now.new in
    let by = c.args.self.now.by in
    let aggs = c.args.self.now.aggs in
    let names = c.args.self.now.rows.names in
    let kept = groups_of c.args.self.now.rows in
    let t = c.requires.table in
    let are = c.requires.keeps.rows in
    let named = led_name by table t kept are c.args.first (name_at c.number_led-number.result names) c.number_led-number.ensures in
    let group : c.unwrap-group.result ≡ group_of (key_at by table.rows c.args.first) kept.members = same_Some _ _ (sym c.unwrap-group.ensures ∙ led_at by table t kept are c.args.first c.number_led-number.result c.args.self.now.rows.names c.group_at.result c.number_led-number.ensures c.group_at.ensures.group) in
    let cells : c.cells.result.now ≡ key_at by table.rows c.args.first = led_cells by table t kept are c.args.first c.unwrap-group.result c.cells.result.now c.requires.here group c.cells.ensures in
    let answers : AnswerAll by names aggs table.rows c.deref.result.now = subst (λ (all : List Accumulator). AnswerAll by names aggs table.rows all) (sym c.deref.ensures.value) c.requires.keeps.running in
    on_ok_weaker c.put_values.result
    (λ made. put_row by table t kept are names c.number_led-number.result aggs c.deref.result.now c.args.first c.cells.result.now c.unwrap-group.result c.args.cells.now.items c.extend_from_slice.new.self.items c.put_values.new.cells.items answers c.requires.here named cells group c.in_ok-extend_from_slice.ensures.items made)
    c.put_values.ensures.cells
