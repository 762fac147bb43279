-- Composing the pairs of three changes.
use Rattle.std.proofs.Common.{◌≡◌, refl, ap, sym, ◌∙◌, subst, true, false, cond, ℕ, ◌<◌, ◌==◌, arith, List, [], ◌∷◌, Option, Some, None}
use Rattle.std.{specs.Prelude.{find, filter_map}, specs.List.{AllByRecursion, cons_option}, proofs.lemmas.Bool.{eqb-true, ne_eqb}}
use Rattle.tick_model.{specs.declared.update.KeyPair.KeyPair, specs.Shifts.{onward, composed}, specs.Updates.old_keys}
use Rattle.key_lists.specs.Keys.{IsRising}
use Rattle.tick_laws.proofs.Composed.{led}

abbrev found : ℕ → List KeyPair → Option KeyPair
found key = find (λ (pair : KeyPair). pair.old == key)

abbrev led_on : List KeyPair → Option KeyPair → Option KeyPair
led_on next None = None
led_on next (Some pair) = onward next pair

found_above : (key : ℕ) (pairs : List KeyPair) → AllByRecursion (λ old. key < old) (old_keys pairs) → found key pairs ≡ None
found_above key [] h = refl
found_above key (pair ∷ pairs) h = ap (λ b. cond b (Some pair) (found key pairs)) (ne_eqb pair.old key (λ e. omega arith)) ∙ found_above key pairs h.1

-- what is found in composed pairs is what is found in the first of them, led on
found-composed : (key : ℕ) (second third : List KeyPair) → IsRising (old_keys second) → found key (composed second third) ≡ led_on third (found key second)
found-composed key [] third r = refl
found-composed key (pair ∷ second) third r =
    (elim (pair.old == key) as (λ b. (pair.old == key) ≡ b → found key (composed (pair ∷ second) third) ≡ led_on third (cond b (Some pair) (found key second))) [
      | true ↦ λ e. here e (found-composed key second third r.1) (found pair.new third)
      | false ↦ λ e. there e (found-composed key second third r.1) (found pair.new third)
    ]) refl
  where
    here : (pair.old == key) ≡ true → found key (composed second third) ≡ led_on third (found key second) → (o : Option KeyPair) → found key (cons_option (led pair o) (composed second third)) ≡ led pair o
    here e rest None = rest ∙ ap (led_on third) (found_above key second (subst (λ k. AllByRecursion (λ old. k < old) (old_keys second)) (eqb-true pair.old key e) r.0))
    here e rest (Some further) = ap (λ b. cond b (Some (let leads : KeyPair = record { old = pair.old; new = further.new } in leads)) (found key (composed second third))) e

    there : (pair.old == key) ≡ false → found key (composed second third) ≡ led_on third (found key second) → (o : Option KeyPair) → found key (cons_option (led pair o) (composed second third)) ≡ led_on third (found key second)
    there e rest None = rest
    there e rest (Some further) = ap (λ b. cond b (Some (let leads : KeyPair = record { old = pair.old; new = further.new } in leads)) (found key (composed second third))) e ∙ rest

pub composed-associative : (first second third : List KeyPair) → IsRising (old_keys second) → composed (composed first second) third ≡ composed first (composed second third)
composed-associative [] second third r = refl
composed-associative (pair ∷ first) second third r =
    go (composed-associative first second third r) (found pair.new second)
    ∙ ap (λ o. cons_option (led pair o) (composed first (composed second third))) (sym (found-composed pair.new second third r))
  where
    last : (middle : KeyPair) → composed (composed first second) third ≡ composed first (composed second third)
        → (o : Option KeyPair) → cons_option (led pair o) (composed (composed first second) third) ≡ cons_option (led pair (led middle o)) (composed first (composed second third))
    last middle rest None = rest
    last middle rest (Some further) = ap (λ pairs. (let leads : KeyPair = record { old = pair.old; new = further.new } in leads) ∷ pairs) rest

    go : composed (composed first second) third ≡ composed first (composed second third)
        → (o : Option KeyPair) → filter_map (onward third) (cons_option (led pair o) (composed first second)) ≡ cons_option (led pair (led_on third o)) (composed first (composed second third))
    go rest None = rest
    go rest (Some middle) = last middle rest (found middle.new third)
