-- What a command comes to, by what its task comes to.
use Rattle.std.proofs.Common.{◌≡◌, ℕ, List, [], Bool, true, Option, Some, None, refl, sym, subst, inl}
use Rattle.std.specs.Prelude.{option_map}
use Rattle.command_words.{specs.declared.command.Command.Command, specs.declared.command.Task.Task, specs.declared.command.Task.TheVariants.{Run as RunTask, Demo, Watch as WatchTask}}
use Rattle.replay.specs.declared.outcome.Knobs.{Knobs}
use Rattle.feed_run.{specs.declared.refusal.Refusal.TheVariants.Usage, specs.declared.refusal.LoadStop.TheVariants.Refused as Stopped, specs.Answers.{Answers, EndsBy, EndsByStop, HasAsked}, specs.Headline.IsOneOf, specs.Readings.{Content, run_found, files_read, script_in}, specs.Verdicts.{Refused, Summary, command_files, command_told, command_verdict, found_verdict, knobs_of, task_files, task_told, task_verdict, watch_files, watch_of, watch_verdict}, proofs.AskLemmas.{asked_all, asked_same}}

module _ (told : Bool) (unread : List ℕ → Type 0) (failed : Type 0) (old new : Option (List ℕ)) (answer : ℕ) (content : Content) where
  abbrev OfFiles : Knobs → List ℕ → List ℕ → Type 0
  OfFiles knobs script feed = Answers told (found_verdict knobs (run_found content script feed)) unread (IsOneOf (files_read content script feed)) failed old new answer

  abbrev OfWatch : List ℕ → List ℕ → List ℕ → ℕ → ℕ → ℕ → Type 0
  OfWatch script feed name first count every =
      Answers told (watch_verdict content (watch_of first count every) feed name (option_map script_in (content script))) unread (IsOneOf (watch_files content script feed name)) failed old new answer

  abbrev OfTask : Knobs → ℕ → Task → Type 0
  OfTask knobs every task = Answers (task_told told task) (task_verdict content knobs every task) unread (IsOneOf (task_files content task)) failed old new answer

  abbrev OfCommand : Option Command → Type 0
  OfCommand asked = Answers (command_told told asked) (command_verdict content asked) unread (IsOneOf (command_files content asked)) failed old new answer

  -- a run of files
  pub files_end : (knobs : Knobs) (every : ℕ) (task : Task) (script feed first second : List ℕ) → task ≡ RunTask script feed → first ≡ script → second ≡ feed → OfFiles knobs first second → OfTask knobs every task
  files_end knobs every task script feed first second is same_script same_feed ends =
      subst (OfTask knobs every) (sym is) (subst (λ name. OfFiles knobs name feed) same_script (subst (λ name. OfFiles knobs first name) same_feed ends))

  -- a made run
  pub demo_ends : (knobs : Knobs) (every : ℕ) (task : Task) (steps : ℕ) → task ≡ Demo steps → EndsBy (Summary steps) failed old new answer → OfTask knobs every task
  demo_ends knobs every task steps is ends = let own : OfTask knobs every (Demo steps) = inl (Summary steps, (λ t. refl), ends) in subst (OfTask knobs every) (sym is) own

  -- a watched run
  pub watch_ends : (knobs : Knobs) (every : ℕ) (task : Task) (script feed name : List ℕ) (first count : ℕ) (own_script own_feed own_name : List ℕ) → task ≡ WatchTask script feed name first count
      → own_script ≡ script → own_feed ≡ feed → own_name ≡ name → OfWatch own_script own_feed own_name first count every → OfTask knobs every task
  watch_ends knobs every task script feed name first count own_script own_feed own_name is same_script same_feed same_name ends =
      subst (OfTask knobs every) (sym is)
      (subst (λ own. OfWatch own feed name first count every) same_script
      (subst (λ own. OfWatch own_script own name first count every) same_feed
      (subst (λ own. OfWatch own_script own_feed own first count every) same_name ends)))

  -- the words
  pub command_ends : (asked : Option Command) (own : Command) (knobs : Knobs) → Some own ≡ asked → knobs ≡ knobs_of own → OfTask knobs own.every own.task → OfCommand asked
  command_ends asked own knobs is same ends = subst OfCommand is (subst (λ of. OfTask of own.every own.task) same ends)

  pub usage_ends : (asked : Option Command) → None ≡ asked → EndsByStop (Stopped Usage) failed old new answer → OfCommand asked
  usage_ends asked is ends = let own : OfCommand None = inl (Refused Usage, (λ t. refl), ([], refl, ends)) in subst OfCommand is own

-- what it asks for
module _ (told : Bool) (content : Content) (old new : Option (List (List ℕ))) (none_failed : Type 0) (answer : ℕ) where
  abbrev AsksByTask : Task → Type 0
  AsksByTask task = HasAsked (task_told told task) old new (task_files content task) none_failed answer

  abbrev AsksByCommand : Option Command → Type 0
  AsksByCommand asked = HasAsked (command_told told asked) old new (command_files content asked) none_failed answer

  pub files_asked : (task : Task) (script feed first second : List ℕ) → task ≡ RunTask script feed → first ≡ script → second ≡ feed → HasAsked told old new (files_read content first second) none_failed answer → AsksByTask task
  files_asked task script feed first second is same_script same_feed asks =
      subst AsksByTask (sym is)
      (subst (λ name. HasAsked told old new (files_read content name feed) none_failed answer) same_script
      (subst (λ name. HasAsked told old new (files_read content first name) none_failed answer) same_feed asks))

  pub watch_asked : (task : Task) (script feed name : List ℕ) (first count : ℕ) (own_script own_feed own_name : List ℕ) → task ≡ WatchTask script feed name first count → own_script ≡ script → own_feed ≡ feed → own_name ≡ name
      → HasAsked told old new (watch_files content own_script own_feed own_name) none_failed answer → AsksByTask task
  watch_asked task script feed name first count own_script own_feed own_name is same_script same_feed same_name asks =
      subst AsksByTask (sym is)
      (subst (λ own. HasAsked told old new (watch_files content own feed name) none_failed answer) same_script
      (subst (λ own. HasAsked told old new (watch_files content own_script own name) none_failed answer) same_feed
      (subst (λ own. HasAsked told old new (watch_files content own_script own_feed own) none_failed answer) same_name asks)))

  -- a made run, and words of no command, ask for none
  pub demo_asked : (task : Task) (steps : ℕ) → task ≡ Demo steps → new ≡ old → none_failed → AsksByTask task
  demo_asked task steps is same steady =
      let own : AsksByTask (Demo steps) = asked_all true old new [] none_failed answer (λ t. asked_same old new same) steady in
      subst AsksByTask (sym is) own

  pub usage_asked : (asked : Option Command) → None ≡ asked → new ≡ old → none_failed → AsksByCommand asked
  usage_asked asked is same steady =
      let own : AsksByCommand None = asked_all true old new [] none_failed answer (λ t. asked_same old new same) steady in
      subst AsksByCommand is own

  pub command_asked : (asked : Option Command) (own : Command) → Some own ≡ asked → AsksByTask own.task → AsksByCommand asked
  command_asked asked own is asks = subst AsksByCommand is asks
