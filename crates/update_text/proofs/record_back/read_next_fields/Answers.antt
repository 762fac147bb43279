use Rattle.std.proofs.Common.{◌≡◌, ap, sym, ◌∙◌, ◌∷◌, ◌++◌, [], List, ℕ, append_assoc}
use Rattle.std.proofs.lemmas.List.{append-nil}
use Rattle.update_text.{proofs.ReadColumns.gives_both, proofs.ReadRows.gives_memory, proofs.RecordsBack.{fields_ahead, fields_done}}
use Rattle.update_text.proofs.record_back.read_next_fields.Goals as goal

pub returns-in_err-rest : goal.returns-in_err-rest
returns-in_err-rest c told rest e =
    let left = c.loop-alloc.invariant told rest e in
    let next = fields_ahead left.0 rest c.loop-alloc.rest.now left.1 (sym c.begins_with_comma.ensures ∙ c.loop-alloc-test.true) in
    gives_memory c.from_residual.result _ c.in_err-rest.field-0.0 c.from_residual.ensures.1 (c.in_err-rest.ensures.told next.0 next.1 rest next.3)

pub loop-alloc-preserved : goal.loop-alloc-preserved
loop-alloc-preserved c told rest e =
    let left = c.loop-alloc.invariant told rest e in
    let next = fields_ahead left.0 rest c.loop-alloc.rest.now left.1 (sym c.begins_with_comma.ensures ∙ c.loop-alloc-test.true) in
    let read = c.in_ok-rest.ensures.told next.0 next.1 rest next.3 in
    let fields = c.loop-alloc.fields in (
      next.1,
      read.0,
      ap (λ (some : List (List ℕ)). some ++ next.1) c.in_ok-push.ensures.ok
          ∙ append_assoc fields (c.of.result ∷ []) next.1
          ∙ ap (λ (field : List ℕ). fields ++ (field ∷ next.1)) (c.of.ensures ∙ read.1)
          ∙ ap (λ (some : List (List ℕ)). fields ++ some) (sym next.2)
          ∙ left.2,
    )

pub returns : goal.returns
returns c told rest e =
    let left = c.loop-alloc.invariant told rest e in
    let done = fields_done left.0 rest c.loop-alloc.rest.now left.1 (sym c.begins_with_comma.ensures ∙ c.loop-alloc-test.false) in
    let fields = c.loop-alloc.fields in
    gives_both c.read_line_end.result (λ left. left.now ≡ rest) (fields ≡ c.args.fields.now ++ told) (c.read_line_end.ensures.told rest done.1)
    (sym (append-nil fields) ∙ ap (λ (some : List (List ℕ)). fields ++ some) (sym done.0) ∙ left.2)
