-- The arguments of a subcommand as `clap` builds them: positional words in their places, and its options.
use Rattle.std.proofs.Common.{◌≡◌, ◌∙◌, ◌+◌, ◌≤◌, ◌&&◌, ℕ, Bool, true, false, not, refl, sym, ap, List, [], ◌∷◌, length, Some, None, codes, bytes_eq, fold, slice_get, true≢false}
use Rattle.std.specs.List.{list_any}
use Rattle.clap.{specs.Walk.{Row, Rule, Text, arg_by_id, arg_by_index, arg_by_long, arg_by_short, has_row, with_default}, specs.Takes.is_given, specs.Faults.{default_fault, defaults_fault}}
use Rattle.command_words.{specs.Commands.is_known, proofs.PartLemmas.{IsOption, is_name}, proofs.UseLemmas.{bytes_apart, taker}}

abbrev pub option_taker : Text → Rule
option_taker name = taker name (Some name) None false

abbrev pub word_taker : ℕ → Text → Rule
word_taker place name = taker name None (Some place) true

abbrev pub option_takers : List Rule
option_takers = option_taker (codes "workers") ∷ option_taker (codes "callers") ∷ option_taker (codes "snaps") ∷ option_taker (codes "attempts") ∷ []

abbrev pub run_rules : List Rule
run_rules = word_taker 1 (codes "script") ∷ word_taker 2 (codes "feed") ∷ option_takers

abbrev pub demo_rules : List Rule
demo_rules = word_taker 1 (codes "steps") ∷ option_takers

abbrev pub watch_rules : List Rule
watch_rules =
    word_taker 1 (codes "script") ∷ word_taker 2 (codes "feed") ∷ word_taker 3 (codes "name") ∷ word_taker 4 (codes "first") ∷ word_taker 5 (codes "count")
    ∷ option_taker (codes "workers") ∷ option_taker (codes "every") ∷ []

-- no rule has a default
abbrev pub HasNoDefaults : List Rule → Type 0
HasNoDefaults [] = Unit {0}
HasNoDefaults (a ∷ rest) = (a.defaults ≡ []) × HasNoDefaults rest

default_kept : (rows : List Row) (a : Rule) → a.defaults ≡ [] → with_default rows a ≡ rows
default_kept rows a none = go (has_row a.id rows) refl
  where
    go : (t : Bool) → has_row a.id rows ≡ t → with_default rows a ≡ rows
    go true e = rw e refl
    go false e = rw (e, none) refl

default_passes : (rows : List Row) (a : Rule) → a.defaults ≡ [] → default_fault rows a ≡ []
default_passes rows a none = go (has_row a.id rows) refl
  where
    go : (t : Bool) → has_row a.id rows ≡ t → default_fault rows a ≡ []
    go true e = rw e refl
    go false e = rw (e, none) refl

pub defaults_kept : (rows : List Row) (rules : List Rule) → HasNoDefaults rules → fold with_default rows rules ≡ rows
defaults_kept rows [] h = refl
defaults_kept rows (a ∷ rest) h = rw (default_kept rows a h.0) (defaults_kept rows rest h.1)

pub defaults_pass : (rows : List Row) (rules : List Rule) → HasNoDefaults rules → defaults_fault rows rules ≡ []
unfolding defaults_fault
defaults_pass rows [] h = refl
defaults_pass rows (a ∷ rest) h = rw (default_passes rows a h.0, default_kept rows a h.0) (defaults_pass rows rest h.1)

-- what the walk asks of the rules, where the positional words have these names
pub record IsLeaf (first : Text) (rules : List Rule) (places : List Text) : Type 0 where
  pub by_long : (name : Text) → IsOption first name → arg_by_long rules name ≡ Some (option_taker name)
  pub no_long : (name : Text) → is_known first name ≡ false → arg_by_long rules name ≡ None
  pub no_short : (char : ℕ) → arg_by_short rules char ≡ None
  pub by_name : (name : Text) → IsOption first name → arg_by_id rules name ≡ Some (option_taker name)
  pub by_word : (i : ℕ) (name : Text) → slice_get places i ≡ Some name → arg_by_id rules name ≡ Some (word_taker (i + 1) name)
  pub by_place : (i : ℕ) (name : Text) → slice_get places i ≡ Some name → arg_by_index rules (i + 1) ≡ Some (word_taker (i + 1) name)
  pub past : arg_by_index rules (length places + 1) ≡ None
  pub defaults : HasNoDefaults rules
  pub required : (rows : List Row) → list_any (λ a. a.required && not (is_given a.id rows)) rules ≡ list_any (λ name. not (is_given name rows)) places
  pub unknown : (i : ℕ) (name : Text) → slice_get places i ≡ Some name → is_name name ≡ false
  pub apart : (i j : ℕ) (name : Text) → slice_get places i ≡ Some name → slice_get places j ≡ Some name → i ≡ j
  pub few : length places ≤ 5

-- a name that is none of the options differs from each
pub differs : (first name other : Text) → is_known first other ≡ true → is_known first name ≡ false → bytes_eq other name ≡ false
differs first name other is none = bytes_apart other name (λ same. true≢false (sym is ∙ ap (is_known first) same ∙ none))
