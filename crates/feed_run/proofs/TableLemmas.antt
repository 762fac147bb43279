-- The tables that sources open with, one after the other.
use Rattle.std.proofs.Common.{◌≡◌, ℕ, List, [], ◌∷◌, ◌++◌, drop, Bool, Option, Some, None, Ok, Err, refl, sym, ap, ◌∙◌, subst, append_assoc}
use Rattle.std.{proofs.lemmas.List.append-nil, specs.Prelude.{IsTrue, MatchOption}, specs.Option.option_to_list}
use Rattle.tick_io.specs.Asked.{AsksFor}
use Rattle.tick_model.specs.declared.plan.Node.{Node}
use Rattle.script_reader.specs.declared.script.SourceFile.{SourceFile}
use Rattle.feed_reader.{specs.declared.raw.RawTable.RawTable, specs.Assembled.{IsTableOf, AreTablesOf}}
use Rattle.feed_run.{specs.declared.refusal.LoadStop.LoadStop, specs.declared.refusal.LoadStop.TheVariants.{Memory, Unread, Refused}, specs.Found.{Found, after, names_after}, specs.Headline.IsOneOf, specs.Readings.{Content, first_file, opening_by, with_table, tables_found, tables_read}, specs.Stops.{AsksUntil, Reads}, proofs.AskLemmas.{asked_both, asked_same, until_after, until_all, until_stopped}, proofs.StopLemmas.{one_of_front, one_of_back}}

-- the tables so far, before the later ones
abbrev pub onto : List RawTable → List RawTable → Found (List RawTable)
onto tables later = Some (Ok (tables ++ later))

one_more : (tables : List RawTable) (table : RawTable) (later : Found (List RawTable)) → after (after later (with_table table)) (onto tables) ≡ after later (onto (tables ++ table ∷ []))
one_more tables table None = refl
one_more tables table (Some (Err refusal)) = refl
one_more tables table (Some (Ok later)) = ap (λ all. Some (Ok all)) (sym (append_assoc tables (table ∷ []) later))

-- these sources are left with these files, and the tables of those before them are found
pub record Opens (told : Bool) (content : Content) (all : List Node) (all_files : List SourceFile) (sources : List Node) (files : List SourceFile) (tables : List RawTable) : Type 0 where
  pub found : IsTrue told → after (tables_found content sources files) (onto tables) ≡ tables_found content all all_files
  pub names : (name : List ℕ) → IsTrue told → IsOneOf (tables_read content sources files) name → IsOneOf (tables_read content all all_files) name
  pub are : (later : List RawTable) → AreTablesOf sources later → AreTablesOf all (tables ++ later)

same_found : (found : Found (List RawTable)) → after found (onto []) ≡ found
same_found None = refl
same_found (Some (Err refusal)) = refl
same_found (Some (Ok tables)) = refl

module _ (told : Bool) (content : Content) (all : List Node) (all_files : List SourceFile) where
  pub opens_all : Opens told content all all_files all all_files []
  opens_all = record {
    found = λ t. same_found (tables_found content all all_files);
    names = λ name t is. is;
    are = λ later is. is;
  }

  pub opens_more : (source : Node) (sources : List Node) (files : List SourceFile) (tables : List RawTable) (table : RawTable) → (IsTrue told → opening_by content source (first_file files) ≡ Some (Ok table)) → IsTableOf source.columns table → Opens told content all all_files (source ∷ sources) files tables → Opens told content all all_files sources (drop 1 files) (tables ++ table ∷ [])
  opens_more source sources files tables table opening is opens = record {
    found = λ t.
        sym (one_more tables table (tables_found content sources (drop 1 files)))
        ∙ sym (ap (λ first. after (after first (λ own. after (tables_found content sources (drop 1 files)) (with_table own))) (onto tables)) (opening t))
        ∙ opens.found t;
    names = λ name t later. opens.names name t
        (subst (λ (first : Found RawTable). IsOneOf (option_to_list (first_file files) ++ names_after first (λ own. tables_read content sources (drop 1 files))) name) (sym (opening t))
        (one_of_back name (option_to_list (first_file files)) (tables_read content sources (drop 1 files)) later));
    are = λ later rest. subst (AreTablesOf all) (sym (append_assoc tables (table ∷ []) later)) (opens.are (table ∷ later) (is, rest));
  }

  pub opens_stop : (failed earlier : List ℕ → Type 0) (source : Node) (sources : List Node) (files : List SourceFile) (tables : List RawTable) (stop : LoadStop) → ((name : List ℕ) → earlier name → failed name) → Reads {X = RawTable} told earlier (IsOneOf (option_to_list (first_file files))) (opening_by content source (first_file files)) (λ table. table) (Err stop) → Opens told content all all_files (source ∷ sources) files tables → Reads {X = List RawTable} told failed (IsOneOf (tables_read content all all_files)) (tables_found content all all_files) (λ own. own) (Err stop)
  opens_stop failed earlier source sources files tables Memory wider reads opens = tt
  opens_stop failed earlier source sources files tables (Unread name) wider reads opens = (
    wider name reads.0,
    λ t. opens.names name t (one_of_front name (option_to_list (first_file files)) (names_after (opening_by content source (first_file files)) (λ own. tables_read content sources (drop 1 files))) (reads.1 t)),
  )
  opens_stop failed earlier source sources files tables (Refused refusal) wider reads opens =
      λ t. sym (opens.found t) ∙ ap (λ first. after (after first (λ own. after (tables_found content sources (drop 1 files)) (with_table own))) (onto tables)) (reads t)

-- the file of a source was asked for, where it has one
pub first_asked : (old new : Option (List (List ℕ))) (file : Option (List ℕ)) → MatchOption file (new ≡ old) (λ name. AsksFor old new (name ∷ [])) → AsksFor old new (option_to_list file)
first_asked old new None same = asked_same old new same
first_asked old new (Some file) is = is

-- these sources are left with these files, and the files of those before them were asked for
pub record AsksOn (told : Bool) (content : Content) (all : List Node) (all_files : List SourceFile) (sources : List Node) (files : List SourceFile) (old mid : Option (List (List ℕ))) : Type 0 where
  pub names : List (List ℕ)
  pub asked : AsksFor old mid names
  pub rest : IsTrue told → names ++ tables_read content sources files ≡ tables_read content all all_files

module _ (told : Bool) (content : Content) (all : List Node) (all_files : List SourceFile) (old : Option (List (List ℕ))) where
  pub asks_begin : AsksOn told content all all_files all all_files old old
  asks_begin = record { names = []; asked = asked_same old old refl; rest = λ t. refl }

  pub asks_end : (files : List SourceFile) (mid : Option (List (List ℕ))) → AsksOn told content all all_files [] files old mid → IsTrue told → AsksFor old mid (tables_read content all all_files)
  asks_end files mid on t = subst (AsksFor old mid) (sym (append-nil on.names) ∙ on.rest t) on.asked

  module _ (source : Node) (sources : List Node) (files : List SourceFile) (mid new : Option (List (List ℕ))) (is : MatchOption (first_file files) (new ≡ mid) (λ file. AsksFor mid new (file ∷ []))) (on : AsksOn told content all all_files (source ∷ sources) files old mid) where
    abbrev file : List (List ℕ)
    file = option_to_list (first_file files)

    abbrev later : RawTable → List (List ℕ)
    later table = tables_read content sources (drop 1 files)

    asked_file : AsksFor mid new file
    asked_file = first_asked mid new (first_file files) is

    pub asks_next : (table : RawTable) → (IsTrue told → opening_by content source (first_file files) ≡ Some (Ok table)) → AsksOn told content all all_files sources (drop 1 files) old new
    asks_next table opening = record {
      names = on.names ++ file;
      asked = asked_both new mid old on.names file on.asked asked_file;
      rest = λ t.
          append_assoc on.names file (tables_read content sources (drop 1 files))
          ∙ ap (λ (of : Found RawTable). on.names ++ (file ++ names_after of later)) (sym (opening t))
          ∙ on.rest t;
    }

    -- the source's table was not read, or memory ran out behind it
    pub asks_stop : (failed read : List ℕ → Type 0) (stop : LoadStop) → Reads {X = RawTable} told failed read (opening_by content source (first_file files)) (λ table. table) (Err stop) → AsksUntil told old new (tables_read content all all_files) stop
    asks_stop failed read stop reads =
        until_after told old new mid (tables_read content all all_files) on.names (tables_read content (source ∷ sources) files) on.rest (λ t. on.asked) stop
        (until_stopped told mid new failed read file (opening_by content source (first_file files)) later (λ (table : RawTable). table) stop reads (until_all told mid new file stop asked_file))
