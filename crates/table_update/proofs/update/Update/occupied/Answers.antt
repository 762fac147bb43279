use Rattle.std.proofs.Common.{◌≡◌, refl, sym, ap₂, ◌∙◌, subst, IfOk, List, [], ◌∷◌, ℕ, length, true, ◌==◌, arith}
use Rattle.std.proofs.lemmas.Bool.{eqb-true}
use Rattle.key_lists.specs.Keys.{is_among, without}
use Rattle.row_set.specs.Sets.{common}
use Rattle.tick_model.{specs.Rules.landed, specs.Shifts.{moved, as_key}}
use Rattle.shift_data.specs.Moves.{unapplied}
use Rattle.table_update.{proofs.LawfulParts.lawful_some, proofs.Occupied.landed-unapplied}
use Rattle.table_update.proofs.update.Update.occupied.Goals as goal

pub apply-requires : goal.apply-requires
apply-requires c =
    let shifts = c.args.self.now.shifted in
    let survivors = without c.args.self.now.removed c.args.old.now in
    let before : c.in_ok-before.before ≡ unapplied shifts survivors c.args.keys.now =
    c.in_ok-before.ensures ∙ ap₂ (λ moves gone. unapplied moves (without gone c.args.old.now) c.args.keys.now) c.shifted-shifted.ensures c.removed.ensures.keys in
    rw (c.shifted-shifted.ensures, before) (lawful_some shifts (λ key. is_among (as_key (moved shifts key)) c.args.keys.now) survivors c.requires)

pub returns : goal.returns
returns c =
    let shifts = c.args.self.now.shifted in
    let survivors = without c.args.self.now.removed c.args.old.now in
    let before : c.in_ok-before.before ≡ unapplied shifts survivors c.args.keys.now =
    c.in_ok-before.ensures ∙ ap₂ (λ moves gone. unapplied moves (without gone c.args.old.now) c.args.keys.now) c.shifted-shifted.ensures c.removed.ensures.keys in
    let places : landed c.shifted-shifted.result.now c.in_ok-before.before ≡ common c.args.keys.now (landed shifts survivors) =
    ap₂ landed c.shifted-shifted.ensures before ∙ landed-unapplied shifts survivors c.args.keys.now c.requires c.is_empty.ensures.keys.rising in
    subst (λ keys. IfOk c.apply.result (λ places. places ≡ keys)) places c.apply.ensures

-- of no keys, none
none_common : (keys others : List ℕ) → true ≡ (length keys == 0) → keys ≡ common keys others
none_common [] others e = refl
none_common (key ∷ keys) others e = absurd (omega (arith, eqb-true (length (key ∷ keys)) 0 (sym e)))

pub returns-then-is_empty : goal.returns-then-is_empty
returns-then-is_empty c =
    subst (λ keys. IfOk c.copy.result (λ places. places ≡ keys)) (none_common c.args.keys.now (landed c.args.self.now.shifted (without c.args.self.now.removed c.args.old.now)) c.if-is_empty.ensures.empty) c.copy.ensures
