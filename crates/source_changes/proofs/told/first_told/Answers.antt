use Rattle.std.proofs.Common.{◌≡◌, ap₂, sym, ◌∙◌, nat_cmp, rules}
use Rattle.std.{specs.BTreeMap.Range.entries_between, specs.declared.ops.Bound.TheVariants.Included, specs.Map.Iter.deref_pair, proofs.lemmas.Map.Iter.rest_all}
use Rattle.source_changes.proofs.Mapped.{none_held}
use Rattle.source_changes.proofs.told.first_told.Goals as goal

pub returns-in-None-clause-none : goal.returns-in-None-clause-none
returns-in-None-clause-none c =
    let all : c.range.result ≡ entries_between nat_cmp (Included c.new.result.start) (Included c.new.result.end) c.args.rows.now.entries = c.range.ensures.between (search rules) in
    none_held c.args.range.now c.args.rows.now.entries
    (ap₂ (λ first last. entries_between nat_cmp (Included first) (Included last) c.args.rows.now.entries) (sym c.new.ensures.start) (sym c.new.ensures.end)
    ∙ sym all ∙ rest_all deref_pair c.range.result c.next.new.self c.next.result c.in-None.is c.next.ensures.steps)
