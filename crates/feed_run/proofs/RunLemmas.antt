-- What is found of a run: of its script, then of its tables, then of its feed.
use Rattle.std.proofs.Common.{◌≡◌, ℕ, List, [], ◌∷◌, ◌++◌, map, Bool, Option, Some, Result, Ok, Err, sym, ap, ◌∙◌, subst}
use Rattle.std.specs.Prelude.{IsTrue, option_map}
use Rattle.tick_io.specs.Asked.{AsksFor}
use Rattle.tick_model.{specs.declared.feed.Run.Run, specs.declared.plan.Node.Node, specs.LawfulRuns.sources_of}
use Rattle.script_reader.{specs.declared.script.Script.Script, specs.declared.script.SourceFile.SourceFile, specs.Plain.{plain_node, plain_script}}
use Rattle.feed_reader.{specs.declared.raw.RawTable.RawTable, specs.Assembled.plain_run}
use Rattle.feed_run.{specs.declared.refusal.LoadStop.LoadStop, specs.Found.{Found, names_after}, specs.Headline.IsOneOf, specs.Readings.{Content, script_in, tables_found, tables_read, feed_found, plan_found, plan_read, run_found, files_read}, specs.Stops.{Asks, AsksUntil, Reads}, proofs.AskLemmas.{asks_after, asks_all, until_all, until_stopped}, proofs.PlainReadings.{tables_found_plain, tables_read_plain}, proofs.StopLemmas.{one_of_front, one_of_back, one_of_later, reads_on, reads_stopped}}

module _ (told : Bool) (content : Content) (script : Script) (feed : List ℕ) where
  -- the tables, by the nodes of the script as it lies in memory
  tables_plainly : (failed : List ℕ → Type 0) (nodes : List Node) (files : List SourceFile) (result : Result (List RawTable) LoadStop) → nodes ≡ script.plan.nodes → files ≡ script.files → Reads {X = List RawTable} told failed (IsOneOf (tables_read content (sources_of nodes) files)) (tables_found content (sources_of nodes) files) (λ tables. tables) result → Reads {X = List RawTable} told failed (IsOneOf (tables_read content (sources_of (map plain_node script.plan.nodes)) script.files)) (tables_found content (sources_of (map plain_node script.plan.nodes)) script.files) (λ tables. tables) result
  tables_plainly failed nodes files result same_nodes same_files reads =
      subst (λ (names : List (List ℕ)). Reads {X = List RawTable} told failed (IsOneOf names) (tables_found content (sources_of (map plain_node script.plan.nodes)) script.files) (λ tables. tables) result) (sym (tables_read_plain content script.plan.nodes script.files))
      (subst (λ (found : Found (List RawTable)). Reads {X = List RawTable} told failed (IsOneOf (tables_read content (sources_of script.plan.nodes) script.files)) found (λ tables. tables) result) (sym (tables_found_plain content script.plan.nodes script.files))
      (subst (λ (of : List SourceFile). Reads {X = List RawTable} told failed (IsOneOf (tables_read content (sources_of script.plan.nodes) of)) (tables_found content (sources_of script.plan.nodes) of) (λ tables. tables) result) same_files
      (subst (λ (of : List Node). Reads {X = List RawTable} told failed (IsOneOf (tables_read content (sources_of of) files)) (tables_found content (sources_of of) files) (λ tables. tables) result) same_nodes reads)))

  names_plainly : (nodes : List Node) (files : List SourceFile) → nodes ≡ script.plan.nodes → files ≡ script.files → tables_read content (sources_of nodes) files ≡ tables_read content (sources_of (map plain_node script.plan.nodes)) script.files
  names_plainly nodes files same_nodes same_files =
      ap (λ (of : List Node). tables_read content (sources_of of) files) same_nodes
      ∙ ap (tables_read content (sources_of script.plan.nodes)) same_files
      ∙ sym (tables_read_plain content script.plan.nodes script.files)

  pub plan_stopped : (failed : List ℕ → Type 0) (nodes : List Node) (files : List SourceFile) (stop : LoadStop) → nodes ≡ script.plan.nodes → files ≡ script.files → Reads {X = List RawTable} told failed (IsOneOf (tables_read content (sources_of nodes) files)) (tables_found content (sources_of nodes) files) (λ tables. tables) (Err stop) → Reads {X = Run} told failed (IsOneOf (plan_read content (plain_script script) feed)) (plan_found content (plain_script script) feed) plain_run (Err stop)
  plan_stopped failed nodes files stop same_nodes same_files reads =
      let found = tables_found content (sources_of (map plain_node script.plan.nodes)) script.files in
      let names = tables_read content (sources_of (map plain_node script.plan.nodes)) script.files in
      let next : List RawTable → Found Run = λ tables. feed_found content (plain_script script) tables feed in
      reads_stopped told failed (IsOneOf names) (IsOneOf (plan_read content (plain_script script) feed)) found next (λ (tables : List RawTable). tables) plain_run stop
      (tables_plainly failed nodes files (Err stop) same_nodes same_files reads)
      (λ name t is. one_of_front name names (names_after found (λ (tables : List RawTable). feed ∷ [])) is)

  pub plan_goes_on : (failed earlier later : List ℕ → Type 0) (nodes : List Node) (files : List SourceFile) (tables : List RawTable) (mid : Content) (result : Result Run LoadStop) → nodes ≡ script.plan.nodes → files ≡ script.files → Reads {X = List RawTable} told earlier (IsOneOf (tables_read content (sources_of nodes) files)) (tables_found content (sources_of nodes) files) (λ own. own) (Ok tables) → mid ≡ content → ((name : List ℕ) → later name → failed name) → Reads {X = Run} told later (IsOneOf (feed ∷ [])) (feed_found mid (plain_script script) tables feed) plain_run result → Reads {X = Run} told failed (IsOneOf (plan_read content (plain_script script) feed)) (plan_found content (plain_script script) feed) plain_run result
  plan_goes_on failed earlier later nodes files tables mid result same_nodes same_files reads kept wider goes =
      let found = tables_found content (sources_of (map plain_node script.plan.nodes)) script.files in
      let names = tables_read content (sources_of (map plain_node script.plan.nodes)) script.files in
      let next : List RawTable → Found Run = λ of. feed_found content (plain_script script) of feed in
      let there : IsTrue told → found ≡ Some (Ok tables) = tables_plainly earlier nodes files (Ok tables) same_nodes same_files reads in
      reads_on told failed later (IsOneOf (plan_read content (plain_script script) feed)) (IsOneOf (feed ∷ [])) found next (λ (of : List RawTable). of) plain_run tables result there wider
      (λ name t is. one_of_back name names (names_after found (λ (of : List RawTable). feed ∷ [])) (subst (λ (of : Found (List RawTable)). IsOneOf (names_after of (λ (all : List RawTable). feed ∷ [])) name) (sym (there t)) is))
      (subst (λ (of : Content). Reads {X = Run} told later (IsOneOf (feed ∷ [])) (feed_found of (plain_script script) tables feed) plain_run result) kept goes)

  -- what was asked for
  pub plan_asked_until : (failed : List ℕ → Type 0) (old new : Option (List (List ℕ))) (nodes : List Node) (files : List SourceFile) (stop : LoadStop) → nodes ≡ script.plan.nodes → files ≡ script.files → Reads {X = List RawTable} told failed (IsOneOf (tables_read content (sources_of nodes) files)) (tables_found content (sources_of nodes) files) (λ tables. tables) (Err stop) → AsksUntil told old new (tables_read content (sources_of nodes) files) stop → AsksUntil told old new (plan_read content (plain_script script) feed) stop
  plan_asked_until failed old new nodes files stop same_nodes same_files reads asks =
      let found = tables_found content (sources_of (map plain_node script.plan.nodes)) script.files in
      let names = tables_read content (sources_of (map plain_node script.plan.nodes)) script.files in
      until_stopped told old new failed (IsOneOf names) names found (λ (tables : List RawTable). feed ∷ []) (λ (tables : List RawTable). tables) stop
      (tables_plainly failed nodes files (Err stop) same_nodes same_files reads)
      (subst (λ (own : List (List ℕ)). AsksUntil told old new own stop) (names_plainly nodes files same_nodes same_files) asks)

  pub plan_asks : (failed : List ℕ → Type 0) (old mid new : Option (List (List ℕ))) (nodes : List Node) (files : List SourceFile) (tables : List RawTable) (result : Result Run LoadStop) → nodes ≡ script.plan.nodes → files ≡ script.files → Reads {X = List RawTable} told failed (IsOneOf (tables_read content (sources_of nodes) files)) (tables_found content (sources_of nodes) files) (λ own. own) (Ok tables) → (IsTrue told → AsksFor old mid (tables_read content (sources_of nodes) files)) → AsksFor mid new (feed ∷ []) → Asks told old new (plan_read content (plain_script script) feed) result
  plan_asks failed old mid new nodes files tables result same_nodes same_files reads asks is =
      let names = tables_read content (sources_of (map plain_node script.plan.nodes)) script.files in
      let there : IsTrue told → tables_found content (sources_of (map plain_node script.plan.nodes)) script.files ≡ Some (Ok tables) = tables_plainly failed nodes files (Ok tables) same_nodes same_files reads in
      asks_after told old new mid (plan_read content (plain_script script) feed) names (feed ∷ [])
      (λ t. ap (λ (of : Found (List RawTable)). names ++ names_after of (λ (own : List RawTable). feed ∷ [])) (sym (there t)))
      (λ t. subst (AsksFor old mid) (names_plainly nodes files same_nodes same_files) (asks t))
      result (asks_all told mid new (feed ∷ []) result is)

module _ (told : Bool) (content : Content) (name feed : List ℕ) where
  pub script_stopped : (failed : List ℕ → Type 0) (stop : LoadStop) → Reads {X = Script} told failed (IsOneOf (name ∷ [])) (option_map script_in (content name)) plain_script (Err stop) → Reads {X = Run} told failed (IsOneOf (files_read content name feed)) (run_found content name feed) plain_run (Err stop)
  script_stopped failed stop reads =
      let found = option_map script_in (content name) in
      let next : Script → Found Run = λ script. plan_found content script feed in
      reads_stopped told failed (IsOneOf (name ∷ [])) (IsOneOf (files_read content name feed)) found next plain_script plain_run stop reads
      (λ other t is. one_of_front other (name ∷ []) (names_after found (λ (script : Script). plan_read content script feed)) is)

  pub script_goes_on : (failed earlier later : List ℕ → Type 0) (script : Script) (mid : Content) (result : Result Run LoadStop) → Reads {X = Script} told earlier (IsOneOf (name ∷ [])) (option_map script_in (content name)) plain_script (Ok script) → mid ≡ content → ((other : List ℕ) → later other → failed other) → Reads {X = Run} told later (IsOneOf (plan_read mid (plain_script script) feed)) (plan_found mid (plain_script script) feed) plain_run result → Reads {X = Run} told failed (IsOneOf (files_read content name feed)) (run_found content name feed) plain_run result
  script_goes_on failed earlier later script mid result reads kept wider goes =
      let found = option_map script_in (content name) in
      let next : Script → Found Run = λ of. plan_found content of feed in
      reads_on told failed later (IsOneOf (files_read content name feed)) (IsOneOf (plan_read content (plain_script script) feed)) found next plain_script plain_run script result reads wider
      (λ other t is. one_of_later other name (names_after found (λ (of : Script). plan_read content of feed)) (subst (λ (of : Found Script). IsOneOf (names_after of (λ (all : Script). plan_read content all feed)) other) (sym (reads t)) is))
      (subst (λ (of : Content). Reads {X = Run} told later (IsOneOf (plan_read of (plain_script script) feed)) (plan_found of (plain_script script) feed) plain_run result) kept goes)

  -- what was asked for
  pub script_asked_until : (failed : List ℕ → Type 0) (old new : Option (List (List ℕ))) (stop : LoadStop) → Reads {X = Script} told failed (IsOneOf (name ∷ [])) (option_map script_in (content name)) plain_script (Err stop) → AsksFor old new (name ∷ []) → AsksUntil told old new (files_read content name feed) stop
  script_asked_until failed old new stop reads is =
      until_stopped told old new failed (IsOneOf (name ∷ [])) (name ∷ []) (option_map script_in (content name)) (λ (script : Script). plan_read content script feed) plain_script stop reads
      (until_all told old new (name ∷ []) stop is)

  pub script_asks : (old mid new : Option (List (List ℕ))) (script : Script) (later : Content) (result : Result Run LoadStop) → (IsTrue told → option_map script_in (content name) ≡ Some (Ok (plain_script script))) → AsksFor old mid (name ∷ []) → later ≡ content → Asks told mid new (plan_read later (plain_script script) feed) result → Asks told old new (files_read content name feed) result
  script_asks old mid new script later result reads is kept asks =
      asks_after told old new mid (files_read content name feed) (name ∷ []) (plan_read content (plain_script script) feed)
      (λ t. ap (λ (of : Found Script). name ∷ names_after of (λ (own : Script). plan_read content own feed)) (sym (reads t)))
      (λ t. is) result
      (subst (λ (of : Content). Asks told mid new (plan_read of (plain_script script) feed) result) kept asks)
