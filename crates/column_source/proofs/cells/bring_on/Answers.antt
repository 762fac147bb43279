use Rattle.std.proofs.Common.{◌≡◌, refl, ap, sym, ◌∙◌, ◌<◌, arith, [], length, true, true≢false}
use Rattle.column_source.{specs.Edits.edited_by, proofs.Leading.{allowed_first, allowed_rest, led_rest, none_left}}
use Rattle.column_source.proofs.cells.bring_on.Goals as goal

pub make-requires : goal.make-requires
make-requires c =
    let edits = c.loop-edit.edits.items in
    let some : 0 < length edits = omega (arith, c.in-Some.ensures.variant.0 refl, c.loop-edit.edits.ok.0) in
    allowed_first edits c.in-Some.edit.now c.loop-edit.previous some c.in-Some.ensures.lookup c.loop-edit.invariant.allowed

pub loop-edit-preserved-in_ok-make : goal.loop-edit-preserved-in_ok-make
loop-edit-preserved-in_ok-make c =
    let edits = c.loop-edit.edits.items in
    let some : 0 < length edits = omega (arith, c.in-Some.ensures.variant.0 refl, c.loop-edit.edits.ok.0) in
    let edit = c.in-Some.edit.now in record {
      led = led_rest edits edit c.loop-edit.previous some c.in-Some.ensures.lookup c.loop-edit.invariant.allowed c.pop_front.new.self.items c.make.new.self c.pop_front.ensures.rest c.in_ok-make.ensures.ok ∙ c.loop-edit.invariant.led;
      allowed = allowed_rest edits edit c.loop-edit.previous some c.in-Some.ensures.lookup c.loop-edit.invariant.allowed c.pop_front.new.self.items c.make.new.self c.pop_front.ensures.rest c.in_ok-make.ensures.ok;
    }

pub returns-clause-brought : goal.returns-clause-brought
returns-clause-brought c =
    let edits = c.loop-edit.edits.items in
    let none : edits ≡ [] = none_left edits (λ some. true≢false (sym (c.in_default.ensures.variant.1 (omega (arith, some, c.loop-edit.edits.ok.0))))) in
    let begun : c.args.begun.now ≡ true = c.if-not-begun.false in
    rw begun (sym (ap (λ es. edited_by es c.loop-edit.previous) none) ∙ c.loop-edit.invariant.led)
