-- What is found of a watched run: its script, the node of the name, and then its tables and its feed.
use Rattle.std.proofs.Common.{◌≡◌, refl, sym, ap, ◌∙◌, subst, ℕ, inl, inr, Bool, List, [], ◌∷◌, Option, Some, None, Result, Ok, Err}
use Rattle.std.{specs.Prelude.{IsTrue, option_map}, specs.Str.bytes_eq}
use Rattle.tick_io.specs.Asked.{AsksFor}
use Rattle.tick_model.{specs.declared.feed.Run.Run, specs.declared.plan.Node.Node, specs.declared.plan.Plan.Plan, specs.Texts.record_text}
use Rattle.script_reader.{specs.declared.script.Script.Script, specs.Plain.{plain_node, plain_plan, plain_script}, proofs.Places.position-map}
use Rattle.feed_reader.specs.Assembled.{plain_run}
use Rattle.watched_run.specs.declared.watch.Watch.{Watch}
use Rattle.feed_run.{specs.declared.refusal.LoadStop.LoadStop, specs.declared.refusal.LoadStop.TheVariants.{Memory, Unread, Refused as Stopped}, specs.Answers.{Answers, Ends, EndsByStop, EndsByWatch}, specs.Found.{Found, names_after}, specs.Headline.IsOneOf, specs.Readings.{Content, plan_found, plan_read, script_in}, specs.Stops.{Asks, AsksUntil, Reads}, specs.Verdicts.{Refused, Unnamed, named_files, named_verdict, node_named, status_of, watch_files, watch_verdict, watched_verdict}, specs.Wholes.{unnamed_record, whole}, proofs.AskLemmas.{asks_after, until_all, until_stopped}, proofs.PlainVerdicts.{lawful_plain, plainly, status_plain, watched_plain, whole_plain}, proofs.StopLemmas.{one_of_front, one_of_later}}

-- the node of a name, wherever formulas lie
pub named_plain : (name : List ℕ) (plan : Plan) → node_named name (plain_plan plan) ≡ node_named name plan
named_plain name plan = position-map (λ (node : Node). bytes_eq node.name name) plain_node plan.nodes

-- a load that failed later failed in all
pub reads_wider : {X Y : Type 0} (told : Bool) (later failed read : List ℕ → Type 0) (found : Found Y) (view : X → Y) (result : Result X LoadStop) → ((name : List ℕ) → later name → failed name) → Reads told later read found view result → Reads told failed read found view result
reads_wider told later failed read found view (Ok value) wider reads = reads
reads_wider told later failed read found view (Err Memory) wider reads = tt
reads_wider told later failed read found view (Err (Unread name)) wider reads = (wider name reads.0, reads.1)
reads_wider told later failed read found view (Err (Stopped refusal)) wider reads = reads

-- the same of contents that are equal
pub reads_there : (told : Bool) (later failed : List ℕ → Type 0) (content mid : Content) (script : Script) (feed : List ℕ) (result : Result Run LoadStop) → mid ≡ content → ((name : List ℕ) → later name → failed name)
    → Reads {X = Run} told later (IsOneOf (plan_read mid (plain_script script) feed)) (plan_found mid (plain_script script) feed) plain_run result
    → Reads {X = Run} told failed (IsOneOf (plan_read content (plain_script script) feed)) (plan_found content (plain_script script) feed) plain_run result
reads_there told later failed content mid script feed result kept wider reads =
    subst (λ (of : Content). Reads {X = Run} told failed (IsOneOf (plan_read of (plain_script script) feed)) (plan_found of (plain_script script) feed) plain_run result) kept
    (reads_wider told later failed (IsOneOf (plan_read mid (plain_script script) feed)) (plan_found mid (plain_script script) feed) plain_run result wider reads)

module _ (told : Bool) (unread : List ℕ → Type 0) (failed : Type 0) (old new : Option (List ℕ)) (answer : ℕ) (content : Content) (watch : ℕ → Watch) (script feed name : List ℕ) where
  abbrev found : Found Script
  found = option_map script_in (content script)

  abbrev next : Script → List (List ℕ)
  next read = named_files content feed read (node_named name read.plan)

  abbrev Answered : Type 0
  Answered = Answers told (watch_verdict content watch feed name found) unread (IsOneOf (watch_files content script feed name)) failed old new answer

  -- the script was not read
  pub script_stops : (stop : LoadStop) → Reads {X = Script} told unread (IsOneOf (script ∷ [])) found plain_script (Err stop) → EndsByStop stop failed old new answer → Answered
  script_stops Memory reads ends = inr (inr ends)
  script_stops (Unread other) reads ends = inr (inl (other, reads.0, (λ t. one_of_front other (script ∷ []) (names_after found next) (reads.1 t)), ends))
  script_stops (Stopped refusal) reads ends = inl (Refused refusal, (λ t. ap (watch_verdict content watch feed name) (reads t)), ([], refl, ends))

  module _ (own : Script) (read : IsTrue told → found ≡ Some (Ok (plain_script own))) where
    verdict_is : (o : Option ℕ) → node_named name own.plan ≡ o → IsTrue told → watch_verdict content watch feed name found ≡ named_verdict content watch feed name (plain_script own) o
    verdict_is o is t = ap (watch_verdict content watch feed name) (read t) ∙ ap (named_verdict content watch feed name (plain_script own)) (named_plain name own.plan ∙ is)

    files_are : (o : Option ℕ) → node_named name own.plan ≡ o → IsTrue told → (other : List ℕ) → IsOneOf (named_files content feed (plain_script own) o) other → IsOneOf (watch_files content script feed name) other
    files_are o is t other one =
        one_of_later other script (names_after found next)
        (subst (λ (f : Found Script). IsOneOf (names_after f next) other) (sym (read t))
        (subst (λ (n : Option ℕ). IsOneOf (named_files content feed (plain_script own) n) other) (sym (named_plain name own.plan ∙ is)) one))

    -- it has no node of the name
    pub unnamed_ends : node_named name own.plan ≡ None → Ends 12 (record_text (unnamed_record name)) failed old new answer → Answered
    unnamed_ends is ends = inl (Unnamed name, verdict_is None is, ([], refl, ends))

    -- its tables or its feed were not read
    pub plan_stops : (node : ℕ) (stop : LoadStop) → node_named name own.plan ≡ Some node → Reads {X = Run} told unread (IsOneOf (plan_read content (plain_script own) feed)) (plan_found content (plain_script own) feed) plain_run (Err stop)
        → EndsByStop stop failed old new answer → Answered
    plan_stops node Memory is reads ends = inr (inr ends)
    plan_stops node (Unread other) is reads ends = inr (inl (other, reads.0, (λ t. files_are (Some node) is t other (reads.1 t)), ends))
    plan_stops node (Stopped refusal) is reads ends = inl (Refused refusal, (λ t. verdict_is (Some node) is t ∙ ap (watched_verdict (watch node)) (reads t)), ([], refl, ends))

    -- the run was run to its end
    pub watched_ends : (node : ℕ) (run : Run) → node_named name own.plan ≡ Some node → Reads {X = Run} told unread (IsOneOf (plan_read content (plain_script own) feed)) (plan_found content (plain_script own) feed) plain_run (Ok run)
        → EndsByWatch run (watch node) failed old new answer → Answered
    watched_ends node run is reads (of, verdict, (choice, lawful, ends)) =
        inl (
          plainly of,
          (λ t. verdict_is (Some node) is t ∙ ap (watched_verdict (watch node)) (reads t) ∙ watched_plain run (watch node) ∙ ap (option_map plainly) verdict),
          (
            choice,
            lawful_plain of choice lawful,
            subst (λ (status : ℕ). Ends status (whole (plainly of) choice) failed old new answer) (sym (status_plain of)) (subst (λ (text : List ℕ). Ends (status_of of) text failed old new answer) (sym (whole_plain of choice)) ends),
          ),
        )

-- what was asked for
module _ (told : Bool) (content : Content) (script feed name : List ℕ) (old : Option (List (List ℕ))) where
  abbrev read_next : Script → List (List ℕ)
  read_next read = named_files content feed read (node_named name read.plan)

  pub script_asked : (failed : List ℕ → Type 0) (new : Option (List (List ℕ))) (stop : LoadStop) → Reads {X = Script} told failed (IsOneOf (script ∷ [])) (option_map script_in (content script)) plain_script (Err stop) → AsksFor old new (script ∷ []) → AsksUntil told old new (watch_files content script feed name) stop
  script_asked failed new stop reads is =
      until_stopped told old new failed (IsOneOf (script ∷ [])) (script ∷ []) (option_map script_in (content script)) read_next plain_script stop reads (until_all told old new (script ∷ []) stop is)

  module _ (own : Script) (read : IsTrue told → option_map script_in (content script) ≡ Some (Ok (plain_script own))) where
    names_are : (o : Option ℕ) → node_named name own.plan ≡ o → IsTrue told → script ∷ named_files content feed (plain_script own) o ≡ watch_files content script feed name
    names_are o is t =
        ap (λ (n : Option ℕ). script ∷ named_files content feed (plain_script own) n) (sym (named_plain name own.plan ∙ is))
        ∙ ap (λ (f : Found Script). script ∷ names_after f read_next) (sym (read t))

    -- there is no node of the name
    pub unnamed_asked : (new : Option (List (List ℕ))) → node_named name own.plan ≡ None → AsksFor old new (script ∷ []) → IsTrue told → AsksFor old new (watch_files content script feed name)
    unnamed_asked new is asked t = subst (AsksFor old new) (names_are None is t) asked

    -- there is one
    pub named_asks : (mid new : Option (List (List ℕ))) (node : ℕ) (later : Content) (result : Result Run LoadStop) → node_named name own.plan ≡ Some node → AsksFor old mid (script ∷ []) → later ≡ content → Asks told mid new (plan_read later (plain_script own) feed) result → Asks told old new (watch_files content script feed name) result
    named_asks mid new node later result is asked kept asks =
        asks_after told old new mid (watch_files content script feed name) (script ∷ []) (plan_read content (plain_script own) feed) (names_are (Some node) is) (λ t. asked) result
        (subst (λ (of : Content). Asks told mid new (plan_read of (plain_script own) feed) result) kept asks)
