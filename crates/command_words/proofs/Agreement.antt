-- The words make one command, by `clap`'s account of its walk and by the rules.
use Rattle.std.proofs.Common.{◌≡◌, ◌∙◌, Bool, true, false, refl, sym, ap, List, [], ◌∷◌, map, Option, Some, None, String, string_bytes, codes, bytes_eq}
use Rattle.std.{proofs.lemmas.Bool.true≢false, proofs.lemmas.Str.IsUtf8-string_bytes}
use Rattle.clap.specs.Walk.{Text}
use Rattle.command_words.{specs.declared.command.Task.Task, specs.Commands.{command, command_from, task_of, with_settings}, specs.Found.command_in, specs.Program.found_in, specs.Words.{Parts, parts_of}, proofs.DemoRules.{demo_leaf, demo_places}, proofs.EndLemmas.{demo_ends, no_task, run_ends, watch_ends}, proofs.LeafRules.{demo_rules, run_rules, watch_rules}, proofs.LeafSteps.outcome_whole, proofs.LeafWalk.{Texts, leaf_agrees}, proofs.PartLemmas.{command_from-finish, finish_all, no_parts, prepend}, proofs.PlaceLemmas.told, proofs.RunRules.{run_leaf, run_places}, proofs.TopLemmas.{demo_told, met_none, no_words, other_none, run_told, watch_told}, proofs.UseLemmas.{bytes_apart, bytes_same, bytes_self}, proofs.WatchRules.{watch_leaf, watch_places}}

prepend_to_none : (parts : Option Parts) → prepend no_parts parts ≡ parts
prepend_to_none None = refl
prepend_to_none (Some parts) = refl

finished : (first : Text) (words : List Text) → finish_all first (prepend no_parts (parts_of words)) ≡ command (first ∷ words)
finished first words = ap (finish_all first) (prepend_to_none (parts_of words)) ∙ sym (command_from-finish first (parts_of words))

run_agrees : (words : List Text) → Texts words → command_in (found_in (codes "run" ∷ words)) ≡ command (codes "run" ∷ words)
run_agrees words texts =
    run_told words ∙ ap (told (codes "run")) (outcome_whole (codes "run") run_rules words) ∙ leaf_agrees (codes "run") run_rules run_places run_leaf run_ends words texts
    ∙ finished (codes "run") words

demo_agrees : (words : List Text) → Texts words → command_in (found_in (codes "demo" ∷ words)) ≡ command (codes "demo" ∷ words)
demo_agrees words texts =
    demo_told words ∙ ap (told (codes "demo")) (outcome_whole (codes "demo") demo_rules words) ∙ leaf_agrees (codes "demo") demo_rules demo_places demo_leaf demo_ends words texts
    ∙ finished (codes "demo") words

watch_agrees : (words : List Text) → Texts words → command_in (found_in (codes "watch" ∷ words)) ≡ command (codes "watch" ∷ words)
watch_agrees words texts =
    watch_told words ∙ ap (told (codes "watch")) (outcome_whole (codes "watch") watch_rules words) ∙ leaf_agrees (codes "watch") watch_rules watch_places watch_leaf watch_ends words texts
    ∙ finished (codes "watch") words

-- a first word of no task makes no command
no_command : (first : Text) (parts : Option Parts) → bytes_eq first (codes "run") ≡ false → bytes_eq first (codes "demo") ≡ false → bytes_eq first (codes "watch") ≡ false → command_from first parts ≡ None
no_command first None run demo watch = refl
no_command first (Some parts) run demo watch =
    let task : task_of first parts.positional ≡ None = rw (run, demo, watch) refl in
    ap (λ (t : Option Task). with_settings first t parts.options) task ∙ no_task first parts.options

swapped : (a b : Text) → bytes_eq a b ≡ false → bytes_eq b a ≡ false
swapped a b apart = bytes_apart b a (λ same. true≢false (sym (bytes_self a) ∙ ap (bytes_eq a) (sym same) ∙ apart))

pub agrees : (words : List Text) → Texts words → command_in (found_in words) ≡ command words
agrees [] texts = no_words
agrees (first ∷ words) texts = go (bytes_eq first (codes "run")) (bytes_eq first (codes "demo")) (bytes_eq first (codes "watch")) refl refl refl
  where
    go : (r d w : Bool) → bytes_eq first (codes "run") ≡ r → bytes_eq first (codes "demo") ≡ d → bytes_eq first (codes "watch") ≡ w → command_in (found_in (first ∷ words)) ≡ command (first ∷ words)
    go true d w run demo watch = rw (bytes_same first (codes "run") run) (run_agrees words texts.1)
    go false true w run demo watch = rw (bytes_same first (codes "demo") demo) (demo_agrees words texts.1)
    go false false true run demo watch = rw (bytes_same first (codes "watch") watch) (watch_agrees words texts.1)
    go false false false run demo watch =
        other_none first words texts.0 (met_none first (swapped first (codes "run") run) (swapped first (codes "demo") demo) (swapped first (codes "watch") watch))
        ∙ sym (no_command first (parts_of words) run demo watch)

pub strings_are_texts : {Z : Type 0} (words : List (String Z)) → Texts (map string_bytes words)
strings_are_texts [] = tt
strings_are_texts (word ∷ words) = (IsUtf8-string_bytes word, strings_are_texts words)
