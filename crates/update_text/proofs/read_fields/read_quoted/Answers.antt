use Rattle.std.proofs.Common.{◌≡◌, ap, sym, ◌∙◌, ◌∷◌, ◌++◌, [], List, ℕ, append_assoc, arith, length, ◌≤◌, ◌+◌}
use Rattle.std.proofs.lemmas.List.{append-nil}
use Rattle.update_text.proofs.ReadFields.{quoted_byte, quoted_twice, quoted_end}
use Rattle.update_text.proofs.read_fields.read_quoted.Goals as goal

pub loop-byte-preserved-then-byte-ne34 : goal.loop-byte-preserved-then-byte-ne34
loop-byte-preserved-then-byte-ne34 c = record {
  shorter = omega (arith, c.in-Some.ensures.cases.1);
  told = λ told rest ends e.
      let ahead = c.loop-byte.invariant.told told rest ends e in
      let byte = c.in-Some.byte.now in
      let next = quoted_byte byte c.in-Some.others.now ahead.0 rest c.if-byte-ne34.true (sym c.in-Some.ensures.cases.0 ∙ ahead.1) in (
        next.0,
        next.2,
        ap (λ (items : List ℕ). items ++ next.0) c.in_ok-push.ensures.items
            ∙ append_assoc c.loop-byte.field.items (byte ∷ []) next.0
            ∙ ap (λ (some : List ℕ). c.loop-byte.field.items ++ some) (sym next.1)
            ∙ ahead.2,
      );
}

pub loop-byte-preserved : goal.loop-byte-preserved
loop-byte-preserved c =
    let seam : c.loop-byte.rest.now ≡ 34 ∷ 34 ∷ c.in-Some-after_byte.behind.now =
    c.in-Some.ensures.cases.0 ∙ ap (λ byte. byte ∷ c.in-Some.others.now) c.if-byte-ne34.false ∙ ap (λ (others : List ℕ). 34 ∷ others) c.in-Some-after_byte.ensures in record {
      shorter = omega (arith, ap (length {A = ℕ}) seam);
      told = λ told rest ends e.
          let ahead = c.loop-byte.invariant.told told rest ends e in
          let next = quoted_twice c.in-Some-after_byte.behind.now ahead.0 rest ends (sym seam ∙ ahead.1) in (
            next.0,
            next.2,
            ap (λ (items : List ℕ). items ++ next.0) c.in_ok-push-in-Some-after_byte.ensures.items
                ∙ append_assoc c.loop-byte.field.items (34 ∷ []) next.0
                ∙ ap (λ (some : List ℕ). c.loop-byte.field.items ++ some) (sym next.1)
                ∙ ahead.2,
          );
    }

pub returns-in-None-clause-told : goal.returns-in-None-clause-told
returns-in-None-clause-told c told rest ends e =
    let seam : c.loop-byte.rest.now ≡ 34 ∷ c.in-Some.others.now = c.in-Some.ensures.cases.0 ∙ ap (λ byte. byte ∷ c.in-Some.others.now) c.if-byte-ne34.false in
    let ahead = c.loop-byte.invariant.told told rest ends e in
    let last = quoted_end c.in-Some.others.now ahead.0 rest c.in-None.ensures (sym seam ∙ ahead.1) in (
      last.1,
      sym (append-nil c.loop-byte.field.items) ∙ ap (λ (some : List ℕ). c.loop-byte.field.items ++ some) (sym last.0) ∙ ahead.2,
    )
