use Rattle.std.proofs.Common.{◌≡◌, ◌∙◌, ap, false, refl, subst, sym}
use Rattle.std.proofs.lemmas.Option.{same_Some}
use Rattle.chunk_list.specs.Chunked.{joined}
use Rattle.key_lists.specs.Keys.{is_among}
use Rattle.row_handles.specs.Entries.{key_with}
use Rattle.sort_op.{specs.Entries.keys_in, specs.Ranks.{HasArrived, Ranking, listed}, proofs.Entering.still_arrived, proofs.RankedEdits.{listed_entered, ranking_entered}}
use Rattle.sort_op.proofs.row_order.RowOrder.enter.Goals as goal

pub invariant_of-self : goal.invariant_of-self
invariant_of-self c =
    let was : Ranking = record { by = c.self.inside.by; handles = c.self.inside.handles; cells = c.self.inside.cells; rows = joined c.self.inside.rows } in
    let absent = subst (λ (order : Ranking). is_among c.args.key (keys_in (listed order)) ≡ false) (sym c.self.view_is) c.requires.absent in
    ranking_entered was c.self.invariant c.args.key absent c.handle_for.new.handles c.self.inside.cells (λ handle other known ne. (c.handle_for.ensures.others handle other known, λ at. refl)) c.handle_for.ensures.rising

pub returns-in_err-handle-clause-listed : goal.returns-in_err-handle-clause-listed
returns-in_err-handle-clause-listed c =
    let was : Ranking = record { by = c.self.inside.by; handles = c.self.inside.handles; cells = c.self.inside.cells; rows = joined c.self.inside.rows } in
    let absent = subst (λ (order : Ranking). is_among c.args.key (keys_in (listed order)) ≡ false) (sym c.self.view_is) c.requires.absent in
    listed_entered was c.self.invariant c.args.key absent c.handle_for.new.handles c.self.inside.cells (λ handle other known ne. (c.handle_for.ensures.others handle other known, λ at. refl)) ∙ ap listed c.self.view_is

pub invariant_of-self-in_err-put_row : goal.invariant_of-self-in_err-put_row
invariant_of-self-in_err-put_row c =
    let was : Ranking = record { by = c.self.inside.by; handles = c.self.inside.handles; cells = c.self.inside.cells; rows = joined c.self.inside.rows } in
    let absent = subst (λ (order : Ranking). is_among c.args.key (keys_in (listed order)) ≡ false) (sym c.self.view_is) c.requires.absent in
    ranking_entered was c.self.invariant c.args.key absent c.handle_for.new.handles c.put_row.new.self (λ handle other known ne. (c.handle_for.ensures.others handle other known, λ at. c.put_row.ensures.others at handle (λ e. ne (same_Some other c.args.key (sym (c.handle_for.ensures.others handle other known) ∙ ap (λ n. key_with n c.handle_for.new.handles) e ∙ c.in_ok-handle.ensures.own))))) c.handle_for.ensures.rising

pub returns-in_err-put_row-clause-listed : goal.returns-in_err-put_row-clause-listed
returns-in_err-put_row-clause-listed c =
    let was : Ranking = record { by = c.self.inside.by; handles = c.self.inside.handles; cells = c.self.inside.cells; rows = joined c.self.inside.rows } in
    let absent = subst (λ (order : Ranking). is_among c.args.key (keys_in (listed order)) ≡ false) (sym c.self.view_is) c.requires.absent in
    listed_entered was c.self.invariant c.args.key absent c.handle_for.new.handles c.put_row.new.self (λ handle other known ne. (c.handle_for.ensures.others handle other known, λ at. c.put_row.ensures.others at handle (λ e. ne (same_Some other c.args.key (sym (c.handle_for.ensures.others handle other known) ∙ ap (λ n. key_with n c.handle_for.new.handles) e ∙ c.in_ok-handle.ensures.own))))) ∙ ap listed c.self.view_is

pub returns-in_err-put_row-clause-others : goal.returns-in_err-put_row-clause-others
returns-in_err-put_row-clause-others c = λ row entry ne h.
    let was : Ranking = record { by = c.self.inside.by; handles = c.self.inside.handles; cells = c.self.inside.cells; rows = joined c.self.inside.rows } in
    let absent = subst (λ (order : Ranking). is_among c.args.key (keys_in (listed order)) ≡ false) (sym c.self.view_is) c.requires.absent in
    still_arrived was c.args.key c.handle_for.new.handles c.put_row.new.self (λ handle other known ne. (c.handle_for.ensures.others handle other known, λ at. c.put_row.ensures.others at handle (λ e. ne (same_Some other c.args.key (sym (c.handle_for.ensures.others handle other known) ∙ ap (λ n. key_with n c.handle_for.new.handles) e ∙ c.in_ok-handle.ensures.own))))) row entry ne (subst (λ (order : Ranking). HasArrived order row entry) (sym c.self.view_is) h)

pub invariant_of-self-2 : goal.invariant_of-self-2
invariant_of-self-2 c =
    let was : Ranking = record { by = c.self.inside.by; handles = c.self.inside.handles; cells = c.self.inside.cells; rows = joined c.self.inside.rows } in
    let absent = subst (λ (order : Ranking). is_among c.args.key (keys_in (listed order)) ≡ false) (sym c.self.view_is) c.requires.absent in
    ranking_entered was c.self.invariant c.args.key absent c.handle_for.new.handles c.put_row.new.self (λ handle other known ne. (c.handle_for.ensures.others handle other known, λ at. c.put_row.ensures.others at handle (λ e. ne (same_Some other c.args.key (sym (c.handle_for.ensures.others handle other known) ∙ ap (λ n. key_with n c.handle_for.new.handles) e ∙ c.in_ok-handle.ensures.own))))) c.handle_for.ensures.rising

pub returns-clause-listed : goal.returns-clause-listed
returns-clause-listed c =
    let was : Ranking = record { by = c.self.inside.by; handles = c.self.inside.handles; cells = c.self.inside.cells; rows = joined c.self.inside.rows } in
    let absent = subst (λ (order : Ranking). is_among c.args.key (keys_in (listed order)) ≡ false) (sym c.self.view_is) c.requires.absent in
    listed_entered was c.self.invariant c.args.key absent c.handle_for.new.handles c.put_row.new.self (λ handle other known ne. (c.handle_for.ensures.others handle other known, λ at. c.put_row.ensures.others at handle (λ e. ne (same_Some other c.args.key (sym (c.handle_for.ensures.others handle other known) ∙ ap (λ n. key_with n c.handle_for.new.handles) e ∙ c.in_ok-handle.ensures.own))))) ∙ ap listed c.self.view_is

pub returns-clause-others : goal.returns-clause-others
returns-clause-others c = λ row entry ne h.
    let was : Ranking = record { by = c.self.inside.by; handles = c.self.inside.handles; cells = c.self.inside.cells; rows = joined c.self.inside.rows } in
    let absent = subst (λ (order : Ranking). is_among c.args.key (keys_in (listed order)) ≡ false) (sym c.self.view_is) c.requires.absent in
    still_arrived was c.args.key c.handle_for.new.handles c.put_row.new.self (λ handle other known ne. (c.handle_for.ensures.others handle other known, λ at. c.put_row.ensures.others at handle (λ e. ne (same_Some other c.args.key (sym (c.handle_for.ensures.others handle other known) ∙ ap (λ n. key_with n c.handle_for.new.handles) e ∙ c.in_ok-handle.ensures.own))))) row entry ne (subst (λ (order : Ranking). HasArrived order row entry) (sym c.self.view_is) h)
