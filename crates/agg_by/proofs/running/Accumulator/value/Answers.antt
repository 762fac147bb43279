use Rattle.std.proofs.Common.{◌≡◌, ◌<◌, ◌^◌, ◌-◌, ap, sym, ◌∙◌, arith, rules, IsTrue, pos, to_z, w64, length}
use Rattle.std.proofs.lemmas.Int.{ints}
use Rattle.key_lists.specs.Keys.{is_among}
use Rattle.row_groups.specs.Members.{keys_of}
use Rattle.shown_rows.proofs.Walks.{of_place}
use Rattle.tick_model.specs.Tables.{keys}
use Rattle.agg_by.{specs.declared.running.Accumulator.Accumulator, specs.Answers.answer}
use Rattle.agg_by.proofs.running.Accumulator.value.Goals as goal

pub overflow_cast-result : goal.overflow_cast-result
overflow_cast-result g c = let small : c.len.result < 2 ^ 63 = omega arith in search (rules, small)

pub cell_or_null-requires-clause-here : goal.cell_or_null-requires-clause-here
cell_or_null-requires-clause-here g c = λ x is. of_place (λ key. IsTrue (is_among key (keys c.args.input.now.new.rows))) 0 (keys_of c.args.group.now) x c.requires.here (sym c.first_key.ensures ∙ is)

pub cell_or_null-requires-in-Last-clause-here : goal.cell_or_null-requires-in-Last-clause-here
cell_or_null-requires-in-Last-clause-here g c = λ x is. of_place (λ key. IsTrue (is_among key (keys c.args.input.now.new.rows))) (length c.args.group.now - 1) (keys_of c.args.group.now) x c.requires.here (sym c.last_key.ensures ∙ is)

pub returns-in-Count-clause-answer : goal.returns-in-Count-clause-answer
returns-in-Count-clause-answer g c =
    let small : c.len.result < 2 ^ 63 = omega arith in
    let number : to_z w64 c.len.result ≡ pos c.len.result = omega (arith, ints) in
    number ∙ ap pos c.len.ensures ∙ ap (λ (running : Accumulator). answer running c.args.number c.args.group.now c.args.input.now.new.rows) (sym c.in-Count.is)
