use Rattle.std.proofs.Common.{◌≡◌, ◌∙◌, ap, false, map, subst, sym}
use Rattle.std.{specs.Prelude.OnOk, specs.List.AllByRecursion}
use Rattle.key_lists.specs.Keys.{is_among, without}
use Rattle.row_handles.specs.Entries.{keys_of}
use Rattle.shift_data.specs.Moves.{IsLawful}
use Rattle.tick_model.specs.Shifts.{as_key, moved}
use Rattle.chunk_list.specs.Chunked.{joined}
use Rattle.sort_op.{specs.declared.entry.Entry.Entry, specs.Entries.rekeyed, specs.Ranks.{Ranking, listed}, proofs.RankedEdits.{keys_left, shifted_keys, shifted_listed, shifted_ranking}}
use Rattle.sort_op.proofs.row_order.RowOrder.shift.Goals as goal

pub shift-requires : goal.shift-requires
shift-requires c =
    let was : Ranking = record { by = c.self.inside.by; handles = c.self.inside.handles; cells = c.self.inside.cells; rows = joined c.self.inside.rows } in
    let none = subst (λ (order : Ranking). AllByRecursion (λ (entry : Entry). is_among entry.key c.args.gone.now ≡ false) (listed order)) (sym c.self.view_is) c.requires.gone in
    let lawful = subst (IsLawful c.args.shifts.now) (sym (ap keys_of c.remove.ensures ∙ keys_left c.args.gone.now c.self.inside.handles ∙ ap (λ (order : Ranking). without c.args.gone.now (keys_of order.handles)) c.self.view_is)) c.requires.lawful in
    lawful

pub invariant_of-self : goal.invariant_of-self
invariant_of-self c =
    let was : Ranking = record { by = c.self.inside.by; handles = c.self.inside.handles; cells = c.self.inside.cells; rows = joined c.self.inside.rows } in
    let none = subst (λ (order : Ranking). AllByRecursion (λ (entry : Entry). is_among entry.key c.args.gone.now ≡ false) (listed order)) (sym c.self.view_is) c.requires.gone in
    let lawful = subst (IsLawful c.args.shifts.now) (sym (ap keys_of c.remove.ensures ∙ keys_left c.args.gone.now c.self.inside.handles ∙ ap (λ (order : Ranking). without c.args.gone.now (keys_of order.handles)) c.self.view_is)) c.requires.lawful in
    shifted_ranking was c.self.invariant c.args.gone.now none c.args.shifts.now c.remove.new.self c.remove.ensures lawful c.shift.result c.shift.new.self c.shift.ensures.rows c.shift.ensures.refused

pub returns-clause-listed : goal.returns-clause-listed
returns-clause-listed c =
    let was : Ranking = record { by = c.self.inside.by; handles = c.self.inside.handles; cells = c.self.inside.cells; rows = joined c.self.inside.rows } in
    let none = subst (λ (order : Ranking). AllByRecursion (λ (entry : Entry). is_among entry.key c.args.gone.now ≡ false) (listed order)) (sym c.self.view_is) c.requires.gone in
    let lawful = subst (IsLawful c.args.shifts.now) (sym (ap keys_of c.remove.ensures ∙ keys_left c.args.gone.now c.self.inside.handles ∙ ap (λ (order : Ranking). without c.args.gone.now (keys_of order.handles)) c.self.view_is)) c.requires.lawful in
    subst (λ (order : Ranking). OnOk c.shift.result (listed (record was { handles = c.shift.new.self }) ≡ map (rekeyed c.args.shifts.now) (listed order))) c.self.view_is
    (shifted_listed was c.self.invariant c.args.gone.now none c.args.shifts.now c.remove.new.self c.remove.ensures lawful c.shift.result c.shift.new.self c.shift.ensures.rows)

pub returns-clause-keys : goal.returns-clause-keys
returns-clause-keys c =
    let was : Ranking = record { by = c.self.inside.by; handles = c.self.inside.handles; cells = c.self.inside.cells; rows = joined c.self.inside.rows } in
    let none = subst (λ (order : Ranking). AllByRecursion (λ (entry : Entry). is_among entry.key c.args.gone.now ≡ false) (listed order)) (sym c.self.view_is) c.requires.gone in
    let lawful = subst (IsLawful c.args.shifts.now) (sym (ap keys_of c.remove.ensures ∙ keys_left c.args.gone.now c.self.inside.handles ∙ ap (λ (order : Ranking). without c.args.gone.now (keys_of order.handles)) c.self.view_is)) c.requires.lawful in
    subst (λ (order : Ranking). OnOk c.shift.result (keys_of c.shift.new.self ≡ map (λ key. as_key (moved c.args.shifts.now key)) (without c.args.gone.now (keys_of order.handles)))) c.self.view_is
    (shifted_keys was c.self.invariant c.args.gone.now none c.args.shifts.now c.remove.new.self c.remove.ensures lawful c.shift.result c.shift.new.self c.shift.ensures.rows)
