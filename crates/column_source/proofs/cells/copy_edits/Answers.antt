use Rattle.std.proofs.Common.{◌≡◌, refl, ap, ap₂, sym, ◌∙◌, ◌+◌, ◌<◌, ◌++◌, [], ◌∷◌, arith, List, length, length-append, get_or, take}
use Rattle.std.proofs.lemmas.List.{take_more}
use Rattle.column_source.specs.declared.edit.Edit.{Edit}
use Rattle.column_source.proofs.cells.copy_edits.Goals as goal

copied : (edits copies new : List Edit) (edit copy : Edit) → copies ≡ take (length copies) edits → length copies < length edits → edit ≡ get_or edits (length copies) edit → copy ≡ edit → new ≡ copies ++ copy ∷ []
    → new ≡ take (length new) edits
copied edits copies new edit copy so_far less is copy_is new_is =
    let longer : length new ≡ length copies + 1 = ap length new_is ∙ length-append copies (copy ∷ []) in
    new_is
    ∙ ap₂ (λ (xs : List Edit) (x : Edit). xs ++ x ∷ []) so_far (copy_is ∙ is)
    ∙ sym (take_more edits (length copies) edit less)
    ∙ ap (λ n. take n edits) (sym longer)

pub loop-edit-preserved : goal.loop-edit-preserved
loop-edit-preserved c =
    let edits = c.args.edits.now.items in
    let copies = c.loop-edit.copies.items in
    let edit = c.in-Some.edit.now in
    let at : c.len.result ≡ length copies = omega (arith, c.len.ensures, c.loop-edit.copies.ok.0) in
    copied edits copies c.push_back.new.self.items edit c.in_ok-copy.field-0 c.loop-edit.invariant (omega (arith, at, c.in-Some.ensures.variant.0 refl, c.args.edits.now.ok.0)) (c.in-Some.ensures.lookup ∙ ap (λ n. get_or edits n edit) at) c.in_ok-copy.ensures c.in_ok-push_back.ensures.items
