use Rattle.std.proofs.Common.{◌≡◌, [], ◌∷◌}
use Rattle.std.specs.Fmt.{decimal}
use Rattle.update_text.proofs.ReadRows.{gives_memory}
use Rattle.update_text.proofs.read_changes.read_range.Goals as goal

pub returns-in_err-first-clause-told : goal.returns-in_err-first-clause-told
returns-in_err-first-clause-told c first last rest f l e =
    gives_memory c.from_residual.result _ c.in_err-first.field-0.0 c.from_residual.ensures.1 (c.in_err-first.ensures.told first (decimal last ∷ []) rest f e)

pub returns-in_err-last-clause-told : goal.returns-in_err-last-clause-told
returns-in_err-last-clause-told c first last rest f l e =
    let one = c.in_ok-first.ensures.told first (decimal last ∷ []) rest f e in
    gives_memory c.from_residual-in_err-last.result _ c.in_err-last.field-0.0 c.from_residual-in_err-last.ensures.1 (c.in_err-last.ensures.told last [] rest l one.1)

pub returns-in_err-rest-clause-told : goal.returns-in_err-rest-clause-told
returns-in_err-rest-clause-told c first last rest f l e =
    let one = c.in_ok-first.ensures.told first (decimal last ∷ []) rest f e in
    let two = c.in_ok-last.ensures.told last [] rest l one.1 in
    gives_memory c.from_residual-in_err-rest.result _ c.in_err-rest.field-0.0 c.from_residual-in_err-rest.ensures.1 (c.in_err-rest.ensures.told rest two.1)

pub returns-clause-told : goal.returns-clause-told
returns-clause-told c first last rest f l e =
    let one = c.in_ok-first.ensures.told first (decimal last ∷ []) rest f e in
    let two = c.in_ok-last.ensures.told last [] rest l one.1 in
    (one.0, two.0, c.in_ok-rest.ensures.told rest two.1)
