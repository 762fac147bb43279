use Rattle.std.proofs.Common.{◌≡◌, sym, ap, ◌∙◌, Some, None, cond, pos, ◌-ℤ◌, w64}
use Rattle.std.{proofs.lemmas.Int.to_z-of_z, specs.Prelude.option_map, proofs.lemmas.Bool.{lt-ltb, le-ltb}}
use Rattle.shift_data.{proofs.Segments.fits_delta, proofs.Kept.kept_set, specs.Faults.breaks, proofs.PartFaults.{past_found, own_fault, up_to}}
use Rattle.key_lists.specs.Keys.{without}
use Rattle.shift_data.proofs.order.past_the_limit.Goals as goal

pub returns-in_err-key : goal.returns-in_err-key
returns-in_err-key c =
    let delta = c.args.part.delta in
    let at : pos c.key_reaching.result ≡ pos c.args.limit -ℤ delta = c.key_reaching.ensures ∙ ap (λ d. pos c.args.limit -ℤ d) (to_z-of_z w64 delta (fits_delta delta c.requires.part.up c.requires.part.down)) in
    ap (option_map breaks) c.from_residual.ensures
    ∙ ap (λ o. option_map own_fault (up_to c.args.part.last o)) (sym c.in_err-key.was ∙ c.next_kept.ensures.key)
    ∙ sym (past_found c.args.limit c.key_reaching.result c.args.part (without c.args.left_out.now c.args.keys.now) at c.requires.inside (kept_set c.args.left_out.now c.args.keys.now c.next_kept.ensures.keys).rising)

pub returns-then-part-key : goal.returns-then-part-key
returns-then-part-key c =
    let delta = c.args.part.delta in
    let at : pos c.key_reaching.result ≡ pos c.args.limit -ℤ delta = c.key_reaching.ensures ∙ ap (λ d. pos c.args.limit -ℤ d) (to_z-of_z w64 delta (fits_delta delta c.requires.part.up c.requires.part.down)) in
    sym (ap (λ t. option_map own_fault (cond t None (Some c.in_ok-key.key))) (lt-ltb c.args.part.last c.in_ok-key.key c.if-part-key.true))
    ∙ ap (λ o. option_map own_fault (up_to c.args.part.last o)) (sym c.in_ok-key.was ∙ c.next_kept.ensures.key)
    ∙ sym (past_found c.args.limit c.key_reaching.result c.args.part (without c.args.left_out.now c.args.keys.now) at c.requires.inside (kept_set c.args.left_out.now c.args.keys.now c.next_kept.ensures.keys).rising)

pub returns : goal.returns
returns c =
    let delta = c.args.part.delta in
    let at : pos c.key_reaching.result ≡ pos c.args.limit -ℤ delta = c.key_reaching.ensures ∙ ap (λ d. pos c.args.limit -ℤ d) (to_z-of_z w64 delta (fits_delta delta c.requires.part.up c.requires.part.down)) in
    sym (ap (λ t. option_map own_fault (cond t None (Some c.in_ok-key.key))) (le-ltb c.args.part.last c.in_ok-key.key c.if-part-key.false))
    ∙ ap (λ o. option_map own_fault (up_to c.args.part.last o)) (sym c.in_ok-key.was ∙ c.next_kept.ensures.key)
    ∙ sym (past_found c.args.limit c.key_reaching.result c.args.part (without c.args.left_out.now c.args.keys.now) at c.requires.inside (kept_set c.args.left_out.now c.args.keys.now c.next_kept.ensures.keys).rising)
