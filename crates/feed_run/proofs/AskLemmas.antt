-- What was asked for, part by part, and that no load failed.
use Rattle.std.proofs.Common.{◌≡◌, ◌⊎◌, ℕ, List, [], ◌++◌, Bool, Option, Some, None, Result, Ok, Err, refl, sym, ap, ◌∙◌, subst, append_assoc, inl, inr}
use Rattle.std.{proofs.lemmas.List.append-nil, specs.Prelude.IsTrue}
use Rattle.tick_io.specs.Asked.{AsksFor, AsksSome}
use Rattle.feed_run.{specs.declared.refusal.LoadStop.LoadStop, specs.declared.refusal.LoadStop.TheVariants.{Memory, Unread, Refused}, specs.Answers.{EndsByStop, HasAsked}, specs.Found.{Found, names_after}, specs.Stops.{Asks, AsksUntil, OnFound, OnRefused, Reads}}

-- none, and some after others
asked_none : (asked : Option (List (List ℕ))) → AsksFor asked asked []
asked_none None = record { told = tt }
asked_none (Some before) = record { told = sym (append-nil before) }

pub asked_same : (old new : Option (List (List ℕ))) → new ≡ old → AsksFor old new []
asked_same old new same = subst (λ known. AsksFor old known []) (sym same) (asked_none old)

pub asked_both : (new mid old : Option (List (List ℕ))) (first later : List (List ℕ)) → AsksFor old mid first → AsksFor mid new later → AsksFor old new (first ++ later)
asked_both None mid old first later one two = record { told = tt }
asked_both (Some asked) None old first later one two = absurd two.told
asked_both (Some asked) (Some between) None first later one two = absurd one.told
asked_both (Some asked) (Some between) (Some before) first later one two = record { told = two.told ∙ ap (λ own. own ++ later) one.told ∙ append_assoc before first later }

module _ (old new : Option (List (List ℕ))) (names : List (List ℕ)) where
  pub some_of_all : AsksFor old new names → AsksSome old new names
  some_of_all is = record { first = names; later = []; names_are = append-nil names; asked = is }

  pub some_of_none : new ≡ old → AsksSome old new names
  some_of_none same = record { first = []; later = names; names_are = refl; asked = asked_same old new same }

  some_of_more : (more : List (List ℕ)) → AsksSome old new names → AsksSome old new (names ++ more)
  some_of_more more some = record {
    first = some.first;
    later = some.later ++ more;
    names_are = sym (append_assoc some.first some.later more) ∙ ap (λ own. own ++ more) some.names_are;
    asked = some.asked;
  }

  some_after : (mid : Option (List (List ℕ))) (before : List (List ℕ)) → AsksFor old mid before → AsksSome mid new names → AsksSome old new (before ++ names)
  some_after mid before asked some = record {
    first = before ++ some.first;
    later = some.later;
    names_are = append_assoc before some.first some.later ∙ ap (λ own. before ++ own) some.names_are;
    asked = asked_both new mid old before some.first asked some.asked;
  }

module _ (told : Bool) (old new : Option (List (List ℕ))) where
  -- all of the names, whatever stopped
  pub until_all : (names : List (List ℕ)) (stop : LoadStop) → AsksFor old new names → AsksUntil told old new names stop
  until_all names Memory is = λ t. some_of_all old new names is
  until_all names (Unread name) is = λ t. some_of_all old new names is
  until_all names (Refused refusal) is = λ t. is

  pub asks_all : {X : Type 0} (names : List (List ℕ)) (result : Result X LoadStop) → AsksFor old new names → Asks told old new names result
  asks_all names (Ok value) is = λ t. is
  asks_all names (Err stop) is = until_all names stop is

  -- the first part stopped, so the names of the next are not asked for
  pub until_stopped : {X Y : Type 0} (failed read : List ℕ → Type 0) (names : List (List ℕ)) (found : Found Y) (next : Y → List (List ℕ)) (view : X → Y) (stop : LoadStop) → Reads told failed read found view (Err stop) → AsksUntil told old new names stop → AsksUntil told old new (names ++ names_after found next) stop
  until_stopped failed read names found next view Memory reads asks = λ t. some_of_more old new names (names_after found next) (asks t)
  until_stopped failed read names found next view (Unread name) reads asks = λ t. some_of_more old new names (names_after found next) (asks t)
  until_stopped failed read names found next view (Refused refusal) reads asks = λ t.
      subst (AsksFor old new) (sym (append-nil names) ∙ ap (λ read. names ++ names_after read next) (sym (reads t))) (asks t)

  -- the names of the first part were asked for, and then those of the next
  module _ (mid : Option (List (List ℕ))) (names first later : List (List ℕ)) (are : IsTrue told → first ++ later ≡ names) (before : IsTrue told → AsksFor old mid first) where
    all_after : (IsTrue told → AsksFor mid new later) → IsTrue told → AsksFor old new names
    all_after asks t = subst (AsksFor old new) (are t) (asked_both new mid old first later (before t) (asks t))

    first_after : (IsTrue told → AsksSome mid new later) → IsTrue told → AsksSome old new names
    first_after asks t = subst (AsksSome old new) (are t) (some_after old new later mid first (before t) (asks t))

    pub until_after : (stop : LoadStop) → AsksUntil told mid new later stop → AsksUntil told old new names stop
    until_after Memory asks = first_after asks
    until_after (Unread name) asks = first_after asks
    until_after (Refused refusal) asks = all_after asks

    pub asks_after : {X : Type 0} (result : Result X LoadStop) → Asks told mid new later result → Asks told old new names result
    asks_after (Ok value) asks = all_after asks
    asks_after (Err stop) asks = until_after stop asks

-- what holds where a value or a refusal is found
pub on_refused_more : {P Q : Type 0} (stop : LoadStop) → (P → Q) → OnRefused stop P → OnRefused stop Q
on_refused_more Memory more holds = tt
on_refused_more (Unread name) more holds = tt
on_refused_more (Refused refusal) more holds = more holds

pub on_found_more : {X P Q : Type 0} (result : Result X LoadStop) → (P → Q) → OnFound result P → OnFound result Q
on_found_more (Ok value) more holds = more holds
on_found_more (Err stop) more holds = on_refused_more stop more holds

pub on_refused : {P : Type 0} (stop : LoadStop) → P → OnRefused stop P
on_refused Memory holds = tt
on_refused (Unread name) holds = tt
on_refused (Refused refusal) holds = holds

pub on_found : {X P : Type 0} (result : Result X LoadStop) → P → OnFound result P
on_found (Ok value) holds = holds
on_found (Err stop) holds = on_refused stop holds

-- the status, where all names were asked for, none, or those up to a stop
module _ (told : Bool) (old new : Option (List (List ℕ))) (names : List (List ℕ)) (none_failed : Type 0) (status : ℕ) where
  pub asked_all : (IsTrue told → AsksFor old new names) → none_failed → HasAsked told old new names none_failed status
  asked_all is steady = record { some = λ t. some_of_all old new names (is t); all = λ of t. is t; steady = λ of. steady }

  -- a load failed, or memory ran out
  asked_some : (status ≡ 1) ⊎ ((status ≡ 3) ⊎ (status ≡ 10)) → (IsTrue told → AsksSome old new names) → HasAsked told old new names none_failed status
  asked_some (inl one) some = record { some = some; all = λ of. absurd (of.0 one); steady = λ of. absurd (of.0 one) }
  asked_some (inr (inl three)) some = record { some = some; all = λ of. absurd (of.1 three); steady = λ of. absurd (of.1 three) }
  asked_some (inr (inr ten)) some = record { some = some; all = λ of. absurd (of.2 ten); steady = λ of. absurd (of.2 ten) }

  pub asked_until : (failed : Type 0) (bytes written : Option (List ℕ)) (stop : LoadStop) → AsksUntil told old new names stop → OnRefused stop none_failed → EndsByStop stop failed bytes written status → HasAsked told old new names none_failed status
  asked_until failed bytes written Memory some steady ends = asked_some (inl ends.0) some
  asked_until failed bytes written (Unread name) some steady (inl (three, all)) = asked_some (inr (inl three)) some
  asked_until failed bytes written (Unread name) some steady (inr (inl (one, prefix))) = asked_some (inl one) some
  asked_until failed bytes written (Unread name) some steady (inr (inr (ten, fails, prefix))) = asked_some (inr (inr ten)) some
  asked_until failed bytes written (Refused refusal) is steady ends = asked_all is steady
