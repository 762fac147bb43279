use Rattle.std.proofs.Common.{◌≡◌, ap, sym, ◌∙◌, subst, true, arith, ◌++◌, [], ◌∷◌}
use Rattle.std.specs.Prelude.{is_ok}
use Rattle.column_source.{specs.Edits.{IsAllowed, LeadTo}, specs.Entries.Cells, proofs.Leading.lead_on}
use Rattle.column_source.proofs.cells.Column.edit.Goals as goal

pub invariant_of-self-2 : goal.invariant_of-self-2
invariant_of-self-2 c =
    let led : LeadTo c.self.inside.current c.bring_on.new.edits.items c.bring_on.new.previous = record { allowed = c.bring_on.ensures.allowed; lead = c.bring_on.ensures.led ∙ c.self.invariant.lead } in
    let own : IsAllowed c.args.edit c.self.inside.current = subst (IsAllowed c.args.edit) (sym (ap (λ (cells : Cells). cells.now) c.self.view_is)) c.requires in
    let ok : is_ok c.push_back.result ≡ true = c.push_back.ensures.succeeds (omega (arith, c.in_ok-reserve.ensures.ok)) in
    let behind : c.push_back.new.self.items ≡ c.reserve.new.self.items ++ c.args.edit ∷ [] = rw ok at c.push_back.ensures.items in
    rw (c.in_ok-make.ensures.ok, behind, c.reserve.ensures.items) (lead_on c.self.inside.current c.bring_on.new.edits.items c.bring_on.new.previous c.args.edit led own)
