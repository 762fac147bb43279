use Rattle.std.proofs.Common.{◌≡◌, ◌<◌, ◌∙◌, ap, refl, sym, rules, arith, Bool, true, false, eqb, int_eq, length, true≢false, to_z, of_z, w64, ℤ, FitsSigned}
use Rattle.std.{specs.Cmp.signed_Decides, proofs.lemmas.Bool.{eqb-true, eq-eqb}, proofs.lemmas.Int.to_z-of_z}
use Rattle.agg_by.{specs.Values.top, proofs.Counted.{has_gone, none_gone}}
use Rattle.agg_by.proofs.values.has_greatest_gone.Goals as goal

same_words : (x y : ℤ) → FitsSigned w64 x → FitsSigned w64 y → eqb (of_z w64 x) (of_z w64 y) ≡ int_eq x y
same_words x y f g =
    both (eqb (of_z w64 x) (of_z w64 y)) (int_eq x y) (λ e. (signed_Decides x y).1 (sym (to_z-of_z w64 x f) ∙ ap (to_z w64) (eqb-true (of_z w64 x) (of_z w64 y) e) ∙ to_z-of_z w64 y g))
    (λ e. eq-eqb (of_z w64 x) (of_z w64 y) (ap (of_z w64) ((signed_Decides x y).0 e)))
  where
    both : (a b : Bool) → (a ≡ true → b ≡ true) → (b ≡ true → a ≡ true) → a ≡ b
    both true b to from = sym (to refl)
    both false true to from = from refl
    both false false to from = refl

pub returns-in-Some-Some : goal.returns-in-Some-Some
returns-in-Some-Some c =
    let live = c.args.live.now.data in
    let gone = c.args.gone.now.data in
    let cell = c.in-Some-Some.cell.now in
    let other = c.in-Some-Some.other.now in
    let cell_fits : FitsSigned w64 cell = search rules in
    let other_fits : FitsSigned w64 other = search rules in
    let some : 0 < length live.items = omega (arith, live.ok.0, c.in-Some-Some.ensures.variant.0 refl) in
    let any : 0 < length gone.items = omega (arith, gone.ok.0, c.in-Some-Some.ensures'.variant.0 refl) in
    same_words cell other cell_fits other_fits ∙ has_gone live.items gone.items cell other c.requires some any c.in-Some-Some.ensures.lookup c.in-Some-Some.ensures'.lookup

pub returns-in_default-2 : goal.returns-in_default-2
returns-in_default-2 c =
    let live = c.args.live.now.data in
    let none = λ (some : 0 < length live.items). true≢false (sym (c.in_default.ensures.variant.1 (omega (arith, live.ok.0, some)))) in
    none_gone (top live.items) live.items c.args.gone.now.data.items none (c.requires.among (top live.items))
