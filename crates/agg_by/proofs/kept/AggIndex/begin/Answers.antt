use Rattle.std.proofs.Common.{◌≡◌, refl, ap, sym, ◌∙◌, subst, arith, ℕ, List, [], ◌∷◌, map, length, inl, inr}
use Rattle.std.{proofs.lemmas.Bool.eqb-true, proofs.lemmas.List.nil_from_length}
use Rattle.row_groups.specs.Members.{Names}
use Rattle.tick_model.{specs.declared.plan.Agg.Agg, specs.declared.table.PlainRow.PlainRow}
use Rattle.agg_by.{specs.declared.running.Accumulator.Accumulator, specs.Kept.{AnswerAll, Are, agg_of}}
use Rattle.agg_by.proofs.kept.AggIndex.begin.Goals as goal

none_of : (running : List Accumulator) → map agg_of running ≡ [] → running ≡ []
none_of [] e = refl
none_of (x ∷ running) e = absurd (cc)

begun : (by : List ℕ) (names : Names) (aggs : List Agg) (rows : List PlainRow) (old new : List Accumulator) → old ≡ [] → AnswerAll by names aggs [] new → Are by names aggs rows old → AnswerAll by names aggs rows new
begun by names aggs rows old new none fresh (inl empty) = subst (λ (rows : List PlainRow). AnswerAll by names aggs rows new) (sym empty.0) fresh
begun by names aggs rows old new none fresh (inr all) =
    subst (AnswerAll by names aggs rows) (none ∙ sym (none_of new (fresh.0 ∙ sym all.0 ∙ ap (map agg_of) none))) all

pub returns-in_ok-self-clause-running : goal.returns-in_ok-self-clause-running
returns-in_ok-self-clause-running c = λ rows are.
    let old = c.args.self.now in
    let new = c.in_ok-self.field-0.items in
    let none : old.running.len ≡ 0 = eqb-true old.running.len 0 (sym c.if-is_empty.ensures) in
    let short : length old.running.items ≡ 0 = omega (arith, old.running.ok.0) in
    let fresh : AnswerAll old.by old.rows.names old.aggs [] new = subst (λ (aggs : List Agg). AnswerAll old.by old.rows.names aggs [] new) c.as_slice.ensures (c.in_ok-self.ensures old.by old.rows.names) in
    begun old.by old.rows.names old.aggs rows old.running.items new (nil_from_length old.running.items short) fresh are
