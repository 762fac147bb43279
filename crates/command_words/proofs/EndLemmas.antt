-- What a subcommand makes of its words at their end, and that it makes nothing of too many.
use Rattle.std.proofs.Common.{◌≡◌, ◌∙◌, ℕ, Bool, refl, sym, ap, arith, List, [], ◌∷◌, ◌++◌, length, Option, Some, None, codes, cond, is_some, option_to_list, slice_get}
use Rattle.std.specs.List.{list_all}
use Rattle.clap.{specs.Walk.{Text, first_of}, specs.Takes.is_given}
use Rattle.command_words.{specs.declared.command.Task.Task, specs.Commands.{demo_task, is_known, one_of, run_task, watch_task, setting, with_numbers, with_settings}, specs.Found.{demo_of, found_setting, number_or, run_of, watch_of, with_found_numbers}, specs.Words.{Given, Parts, with_positional}, proofs.DemoRules.demo_places, proofs.HoldLemmas.Holds, proofs.LeafSteps.complete, proofs.PartLemmas.{Known, attempts, callers, every, finish, finish_all, if_none, prepend, snaps, workers}, proofs.PlaceLemmas.{Ends, told}, proofs.RunRules.run_places, proofs.WatchRules.watch_places, proofs.UseLemmas.{Use, first_of-rows, is_given-rows, rows_of_uses, value_in}}

one_value : (least most default : ℕ) (value : Option Text) → number_or least most default value ≡ one_of least most default (option_to_list value)
one_value least most default None = refl
one_value least most default (Some value) = refl

pub no_task : (first : Text) (options : List Given) → with_settings first None options ≡ None
no_task first options = if_none (list_all (λ option. is_known first option.name) options) _ refl

module _ (start : Text) (places : List Text) (parts : Parts) (uses : List Use) (held : Holds start places parts uses) where
  same_setting : (name : Text) (least most default : ℕ) → Known name → found_setting name least most default (rows_of_uses uses) ≡ setting name least most default parts.options
  same_setting name least most default is =
      ap (number_or least most default) (first_of-rows name uses) ∙ one_value least most default (value_in name uses) ∙ ap (one_of least most default) (sym (held.options name is))

  same_numbers : (task : Option Task) → with_found_numbers task (rows_of_uses uses) ≡ with_settings start task parts.options
  same_numbers task =
      (λ i. with_numbers task (same_setting (codes "workers") 1 64 1 workers i) (same_setting (codes "callers") 0 16 0 callers i)
      (same_setting (codes "snaps") 0 64 0 snaps i) (same_setting (codes "attempts") 0 16 2 attempts i) (same_setting (codes "every") 1 100000 1 every i))
      ∙ sym (ap (λ (b : Bool). cond b (with_numbers task (setting (codes "workers") 1 64 1 parts.options) (setting (codes "callers") 0 16 0 parts.options)
      (setting (codes "snaps") 0 64 0 parts.options) (setting (codes "attempts") 0 16 2 parts.options) (setting (codes "every") 1 100000 1 parts.options)) None) held.known)

  word_is : (i : ℕ) (name : Text) (word : Option Text) → slice_get places i ≡ Some name → slice_get parts.positional i ≡ word → first_of name (rows_of_uses uses) ≡ word
  word_is i name word at is = first_of-rows name uses ∙ held.words i name at ∙ is

  given_is : (i : ℕ) (name : Text) (word : Option Text) → slice_get places i ≡ Some name → slice_get parts.positional i ≡ word → is_given name (rows_of_uses uses) ≡ is_some word
  given_is i name word at is = is_given-rows name uses ∙ ap is_some (held.words i name at ∙ is)

-- ---- run SCRIPT FEED

run_whole : (parts : Parts) (uses : List Use) → Holds (codes "run") run_places parts uses → told (codes "run") (complete run_places (rows_of_uses uses)) ≡ finish (codes "run") parts
run_whole parts uses held = go parts.positional refl
  where
    script_is : (word : Option Text) → slice_get parts.positional 0 ≡ word → is_given (codes "script") (rows_of_uses uses) ≡ is_some word
    script_is word e = given_is (codes "run") run_places parts uses held 0 (codes "script") word refl e

    feed_is : (word : Option Text) → slice_get parts.positional 1 ≡ word → is_given (codes "feed") (rows_of_uses uses) ≡ is_some word
    feed_is word e = given_is (codes "run") run_places parts uses held 1 (codes "feed") word refl e

    go : (words : List Text) → parts.positional ≡ words → told (codes "run") (complete run_places (rows_of_uses uses)) ≡ finish (codes "run") parts
    go [] e =
        let script = script_is None (ap (λ (ws : List Text). slice_get ws 0) e) in
        rw script (sym (ap (λ (ws : List Text). with_settings (codes "run") (run_task ws) parts.options) e ∙ no_task (codes "run") parts.options))
    go (a ∷ []) e =
        let script = script_is (Some a) (ap (λ (ws : List Text). slice_get ws 0) e) in
        let feed = feed_is None (ap (λ (ws : List Text). slice_get ws 1) e) in
        rw (script, feed) (sym (ap (λ (ws : List Text). with_settings (codes "run") (run_task ws) parts.options) e ∙ no_task (codes "run") parts.options))
    go (a ∷ b ∷ []) e =
        let script = script_is (Some a) (ap (λ (ws : List Text). slice_get ws 0) e) in
        let feed = feed_is (Some b) (ap (λ (ws : List Text). slice_get ws 1) e) in
        let first = word_is (codes "run") run_places parts uses held 0 (codes "script") (Some a) refl (ap (λ (ws : List Text). slice_get ws 0) e) in
        let second = word_is (codes "run") run_places parts uses held 1 (codes "feed") (Some b) refl (ap (λ (ws : List Text). slice_get ws 1) e) in
        let task : run_of (first_of (codes "script") (rows_of_uses uses)) (first_of (codes "feed") (rows_of_uses uses)) ≡ run_task parts.positional = (λ i. run_of (first i) (second i)) ∙ sym (ap run_task e) in
        rw (script, feed) (ap (λ (t : Option Task). with_found_numbers t (rows_of_uses uses)) task ∙ same_numbers (codes "run") run_places parts uses held (run_task parts.positional))
    go (a ∷ b ∷ c ∷ words) e = absurd (omega (arith, held.fits, ap length e))

run_long_task : (xs : List Text) (word : Text) (ys : List Text) → slice_get run_places (length xs) ≡ None → run_task (xs ++ word ∷ ys) ≡ None
run_long_task [] word ys e = cc
run_long_task (a ∷ []) word ys e = cc
run_long_task (a ∷ b ∷ []) word ys e = refl
run_long_task (a ∷ b ∷ c ∷ xs) word ys e = refl

run_long : (parts : Parts) (word : Text) (rest : Option Parts) → slice_get run_places (length parts.positional) ≡ None → finish_all (codes "run") (prepend parts (with_positional word rest)) ≡ None
run_long parts word None e = refl
run_long parts word (Some later) e =
    ap (λ (t : Option Task). with_settings (codes "run") t (parts.options ++ later.options)) (run_long_task parts.positional word later.positional e) ∙ no_task (codes "run") (parts.options ++ later.options)

pub run_ends : Ends (codes "run") run_places
run_ends = record { whole = run_whole; long = run_long }

-- ---- demo STEPS

demo_whole : (parts : Parts) (uses : List Use) → Holds (codes "demo") demo_places parts uses → told (codes "demo") (complete demo_places (rows_of_uses uses)) ≡ finish (codes "demo") parts
demo_whole parts uses held = go parts.positional refl
  where
    steps_is : (word : Option Text) → slice_get parts.positional 0 ≡ word → is_given (codes "steps") (rows_of_uses uses) ≡ is_some word
    steps_is word e = given_is (codes "demo") demo_places parts uses held 0 (codes "steps") word refl e

    go : (words : List Text) → parts.positional ≡ words → told (codes "demo") (complete demo_places (rows_of_uses uses)) ≡ finish (codes "demo") parts
    go [] e =
        let steps = steps_is None (ap (λ (ws : List Text). slice_get ws 0) e) in
        rw steps (sym (ap (λ (ws : List Text). with_settings (codes "demo") (demo_task ws) parts.options) e ∙ no_task (codes "demo") parts.options))
    go (a ∷ []) e =
        let steps = steps_is (Some a) (ap (λ (ws : List Text). slice_get ws 0) e) in
        let first = word_is (codes "demo") demo_places parts uses held 0 (codes "steps") (Some a) refl (ap (λ (ws : List Text). slice_get ws 0) e) in
        let task : demo_of (first_of (codes "steps") (rows_of_uses uses)) ≡ demo_task parts.positional = ap demo_of first ∙ sym (ap demo_task e) in
        rw steps (ap (λ (t : Option Task). with_found_numbers t (rows_of_uses uses)) task ∙ same_numbers (codes "demo") demo_places parts uses held (demo_task parts.positional))
    go (a ∷ b ∷ words) e = absurd (omega (arith, held.fits, ap length e))

demo_long_task : (xs : List Text) (word : Text) (ys : List Text) → slice_get demo_places (length xs) ≡ None → demo_task (xs ++ word ∷ ys) ≡ None
demo_long_task [] word ys e = cc
demo_long_task (a ∷ []) word ys e = refl
demo_long_task (a ∷ b ∷ xs) word ys e = refl

demo_long : (parts : Parts) (word : Text) (rest : Option Parts) → slice_get demo_places (length parts.positional) ≡ None → finish_all (codes "demo") (prepend parts (with_positional word rest)) ≡ None
demo_long parts word None e = refl
demo_long parts word (Some later) e =
    ap (λ (t : Option Task). with_settings (codes "demo") t (parts.options ++ later.options)) (demo_long_task parts.positional word later.positional e) ∙ no_task (codes "demo") (parts.options ++ later.options)

pub demo_ends : Ends (codes "demo") demo_places
demo_ends = record { whole = demo_whole; long = demo_long }

-- ---- watch SCRIPT FEED NAME FIRST COUNT

watch_whole : (parts : Parts) (uses : List Use) → Holds (codes "watch") watch_places parts uses → told (codes "watch") (complete watch_places (rows_of_uses uses)) ≡ finish (codes "watch") parts
watch_whole parts uses held = go parts.positional refl
  where
    word_there : (i : ℕ) (name : Text) → slice_get watch_places i ≡ Some name → (words : List Text) → parts.positional ≡ words → is_given name (rows_of_uses uses) ≡ is_some (slice_get words i)
    word_there i name at words e = given_is (codes "watch") watch_places parts uses held i name (slice_get words i) at (ap (λ (ws : List Text). slice_get ws i) e)

    word_at : (i : ℕ) (name : Text) → slice_get watch_places i ≡ Some name → (words : List Text) → parts.positional ≡ words → first_of name (rows_of_uses uses) ≡ slice_get words i
    word_at i name at words e = word_is (codes "watch") watch_places parts uses held i name (slice_get words i) at (ap (λ (ws : List Text). slice_get ws i) e)

    fails : (words : List Text) → parts.positional ≡ words → watch_task words ≡ None → None ≡ finish (codes "watch") parts
    fails words e none =
        sym (ap (λ (ws : List Text). with_settings (codes "watch") (watch_task ws) parts.options) e ∙ ap (λ (t : Option Task). with_settings (codes "watch") t parts.options) none ∙ no_task (codes "watch") parts.options)

    go : (words : List Text) → parts.positional ≡ words → told (codes "watch") (complete watch_places (rows_of_uses uses)) ≡ finish (codes "watch") parts
    go [] e =
        let script = word_there 0 (codes "script") refl ([]) e in
        rw script (fails ([]) e refl)
    go (a ∷ []) e =
        let script = word_there 0 (codes "script") refl (a ∷ []) e in
        let feed = word_there 1 (codes "feed") refl (a ∷ []) e in
        rw (script, feed) (fails (a ∷ []) e refl)
    go (a ∷ b ∷ []) e =
        let script = word_there 0 (codes "script") refl (a ∷ b ∷ []) e in
        let feed = word_there 1 (codes "feed") refl (a ∷ b ∷ []) e in
        let name = word_there 2 (codes "name") refl (a ∷ b ∷ []) e in
        rw (script, feed, name) (fails (a ∷ b ∷ []) e refl)
    go (a ∷ b ∷ c ∷ []) e =
        let script = word_there 0 (codes "script") refl (a ∷ b ∷ c ∷ []) e in
        let feed = word_there 1 (codes "feed") refl (a ∷ b ∷ c ∷ []) e in
        let name = word_there 2 (codes "name") refl (a ∷ b ∷ c ∷ []) e in
        let first = word_there 3 (codes "first") refl (a ∷ b ∷ c ∷ []) e in
        rw (script, feed, name, first) (fails (a ∷ b ∷ c ∷ []) e refl)
    go (a ∷ b ∷ c ∷ d ∷ []) e =
        let script = word_there 0 (codes "script") refl (a ∷ b ∷ c ∷ d ∷ []) e in
        let feed = word_there 1 (codes "feed") refl (a ∷ b ∷ c ∷ d ∷ []) e in
        let name = word_there 2 (codes "name") refl (a ∷ b ∷ c ∷ d ∷ []) e in
        let first = word_there 3 (codes "first") refl (a ∷ b ∷ c ∷ d ∷ []) e in
        let count = word_there 4 (codes "count") refl (a ∷ b ∷ c ∷ d ∷ []) e in
        rw (script, feed, name, first, count) (fails (a ∷ b ∷ c ∷ d ∷ []) e refl)
    go (a ∷ b ∷ c ∷ d ∷ f ∷ []) e =
        let script = word_there 0 (codes "script") refl (a ∷ b ∷ c ∷ d ∷ f ∷ []) e in
        let feed = word_there 1 (codes "feed") refl (a ∷ b ∷ c ∷ d ∷ f ∷ []) e in
        let name = word_there 2 (codes "name") refl (a ∷ b ∷ c ∷ d ∷ f ∷ []) e in
        let first = word_there 3 (codes "first") refl (a ∷ b ∷ c ∷ d ∷ f ∷ []) e in
        let count = word_there 4 (codes "count") refl (a ∷ b ∷ c ∷ d ∷ f ∷ []) e in
        let task : watch_of (first_of (codes "script") (rows_of_uses uses)) (first_of (codes "feed") (rows_of_uses uses)) (first_of (codes "name") (rows_of_uses uses)) (first_of (codes "first") (rows_of_uses uses)) (first_of (codes "count") (rows_of_uses uses)) ≡ watch_task parts.positional =
        (λ i. watch_of (word_at 0 (codes "script") refl (a ∷ b ∷ c ∷ d ∷ f ∷ []) e i) (word_at 1 (codes "feed") refl (a ∷ b ∷ c ∷ d ∷ f ∷ []) e i) (word_at 2 (codes "name") refl (a ∷ b ∷ c ∷ d ∷ f ∷ []) e i) (word_at 3 (codes "first") refl (a ∷ b ∷ c ∷ d ∷ f ∷ []) e i) (word_at 4 (codes "count") refl (a ∷ b ∷ c ∷ d ∷ f ∷ []) e i))
        ∙ sym (ap watch_task e) in
        rw (script, feed, name, first, count) (ap (λ (t : Option Task). with_found_numbers t (rows_of_uses uses)) task ∙ same_numbers (codes "watch") watch_places parts uses held (watch_task parts.positional))
    go (a ∷ b ∷ c ∷ d ∷ f ∷ g ∷ words) e = absurd (omega (arith, held.fits, ap length e))

watch_long_task : (xs : List Text) (word : Text) (ys : List Text) → slice_get watch_places (length xs) ≡ None → watch_task (xs ++ word ∷ ys) ≡ None
watch_long_task [] word ys e = cc
watch_long_task (a ∷ []) word ys e = cc
watch_long_task (a ∷ b ∷ []) word ys e = cc
watch_long_task (a ∷ b ∷ c ∷ []) word ys e = cc
watch_long_task (a ∷ b ∷ c ∷ d ∷ []) word ys e = cc
watch_long_task (a ∷ b ∷ c ∷ d ∷ f ∷ []) word ys e = refl
watch_long_task (a ∷ b ∷ c ∷ d ∷ f ∷ g ∷ xs) word ys e = refl

watch_long : (parts : Parts) (word : Text) (rest : Option Parts) → slice_get watch_places (length parts.positional) ≡ None → finish_all (codes "watch") (prepend parts (with_positional word rest)) ≡ None
watch_long parts word None e = refl
watch_long parts word (Some later) e =
    ap (λ (t : Option Task). with_settings (codes "watch") t (parts.options ++ later.options)) (watch_long_task parts.positional word later.positional e) ∙ no_task (codes "watch") (parts.options ++ later.options)

pub watch_ends : Ends (codes "watch") watch_places
watch_ends = record { whole = watch_whole; long = watch_long }
