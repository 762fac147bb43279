-- The messages that are still to come, step by step.
use Rattle.std.proofs.Common.{◌≡◌, refl, sym, ap, ◌∙◌, ℕ, zero, suc, ◌+◌, ◌-◌, ◌<◌, ◌≤◌, ◌==◌, ◌++◌, arith, Bool, true, false, cond, List, [], ◌∷◌, Option, Some, None}
use Rattle.std.{proofs.lemmas.Bool.{eq-eqb, ne_eqb}, proofs.lemmas.Grind.flat_map-append, proofs.lemmas.List.append-nil}
use Rattle.replay.specs.ToCome.{good_steps}
use Rattle.tick_model.{specs.declared.feed.Run.Run, specs.Spoiled.{first_spoiled, step_before}, specs.Texts.{record_text, records_text}}
use Rattle.watched_run.{specs.declared.watch.Watch.Watch, specs.Messages.{first_records, gaps, later_records, message_records, watch_text}, specs.ToCome.{rest_text, text_from}}

module _ (run : Run) (watch : Watch) where
  abbrev later : ℕ → List ℕ → List ℕ
  later last more = records_text (later_records run watch last more)

  abbrev left : ℕ → ℕ → ℕ
  left last more = good_steps run - suc (last + more)

  -- a good step after which no message is due
  pub text_waits : (last more : ℕ) → suc (last + more) < good_steps run → suc more < watch.every → text_from run watch last more ≡ text_from run watch last (suc more)
  text_waits last more good waits =
      let one : left last more ≡ suc (left last (suc more)) = omega (arith, good) in
      let not_due : (suc more == watch.every) ≡ false = ne_eqb (suc more) watch.every (λ same. absurd (omega (arith, same, waits))) in
      ap (λ n. later last (gaps watch.every more n)) one
      ∙ ap (λ (b : Bool). later last (cond b (suc more ∷ gaps watch.every 0 (left last (suc more))) (gaps watch.every (suc more) (left last (suc more))))) not_due

  -- a good step after which one is due
  pub text_due : (last more : ℕ) → suc (last + more) < good_steps run → suc more ≡ watch.every
      → text_from run watch last more ≡ records_text (message_records run watch last (suc more)) ++ text_from run watch (last + suc more) 0
  text_due last more good due =
      let one : left last more ≡ suc (left (last + suc more) 0) = omega (arith, good) in
      let is_due : (suc more == watch.every) ≡ true = eq-eqb (suc more) watch.every due in
      ap (λ n. later last (gaps watch.every more n)) one
      ∙ ap (λ (b : Bool). later last (cond b (suc more ∷ gaps watch.every 0 (left (last + suc more) 0)) (gaps watch.every (suc more) (left (last + suc more) 0)))) is_due
      ∙ flat_map-append record_text (message_records run watch last (suc more)) (later_records run watch (last + suc more) (gaps watch.every 0 (left (last + suc more) 0)))

  -- past the last good step there is at most one message
  pub text_rests : (last more : ℕ) → good_steps run ≤ suc (last + more) → text_from run watch last more ≡ rest_text run watch last more
  text_rests last more past =
      let none : left last more ≡ 0 = omega (arith, past) in
      ap (λ n. later last (gaps watch.every more n)) none

  -- the message of a step at which there is one
  pub rest_is : (last more : ℕ) → 0 < more → rest_text run watch last more ≡ records_text (message_records run watch last more)
  rest_is last zero some = absurd (omega (arith, some))
  rest_is last (suc more) some =
      let not_none : (suc more == 0) ≡ false = ne_eqb (suc more) 0 (λ same. absurd (omega (arith, same))) in
      ap (λ (b : Bool). later last (cond b [] (suc more ∷ []))) not_none
      ∙ flat_map-append record_text (message_records run watch last (suc more)) []
      ∙ append-nil (records_text (message_records run watch last (suc more)))

  pub rest_none : (last : ℕ) → rest_text run watch last 0 ≡ []
  rest_none last = refl

  -- from the opening on these are all messages
  pub text_whole : (last : ℕ) → good_steps run ≡ suc last → watch_text run watch last ≡ records_text (first_records run watch) ++ text_from run watch 0 0
  text_whole last good =
      let all : last ≡ left 0 0 = omega (arith, good) in
      flat_map-append record_text (first_records run watch) (later_records run watch 0 (gaps watch.every 0 last))
      ∙ ap (λ n. records_text (first_records run watch) ++ later 0 (gaps watch.every 0 n)) all
