-- The parts so far hold what `clap` keeps of the uses.
use Rattle.std.proofs.Common.{◌≡◌, ◌≢◌, ◌∙◌, ◌≤◌, ℕ, zero, suc, Bool, true, false, refl, sym, ap, ap₂, arith, List, [], ◌∷◌, ◌++◌, length, Some, None, bytes_eq, option_to_list, slice_get, true≢false, append-nil}
use Rattle.std.{specs.List.list_all, proofs.lemmas.List.length-append, proofs.lemmas.Option.{slice_get_past, slice_get_within}, proofs.lemmas.Bool.and_parts}
use Rattle.clap.specs.Walk.{Rule, Text}
use Rattle.command_words.{specs.Commands.{is_known, values_of}, specs.Words.{Given, Parts}, proofs.LeafRules.IsLeaf, proofs.PartLemmas.{IsOption, Known, add_option, add_word, given, is_name, name_is, no_parts, values_of-append}, proofs.UseLemmas.{Use, bytes_apart, bytes_same, bytes_self, value_in, value_in-push, value_in-push_other}}

pub record Holds (first : Text) (places : List Text) (parts : Parts) (uses : List Use) : Type 0 where
  pub options : (name : Text) → Known name → values_of name parts.options ≡ option_to_list (value_in name uses)
  pub words : (i : ℕ) (name : Text) → slice_get places i ≡ Some name → value_in name uses ≡ slice_get parts.positional i
  pub known : list_all (λ option. is_known first option.name) parts.options ≡ true
  pub fits : length parts.positional ≤ length places

pub holds_none : (first : Text) (places : List Text) → Holds first places no_parts []
holds_none first places = record {
  options = λ name is. refl;
  words = λ i name at. refl;
  known = refl;
  fits = omega arith;
}

list_all-push : (p : Given → Bool) (xs : List Given) (y : Given) → list_all p xs ≡ true → p y ≡ true → list_all p (xs ++ y ∷ []) ≡ true
list_all-push p [] y all is = rw is refl
list_all-push p (x ∷ xs) y all is =
    let parts = and_parts (p x) (list_all p xs) all in
    rw parts.0 (list_all-push p xs y parts.1 is)

pub slice_get-push : (xs : List Text) (x : Text) → slice_get (xs ++ x ∷ []) (length xs) ≡ Some x
slice_get-push [] x = refl
slice_get-push (y ∷ xs) x = slice_get-push xs x

slice_get-push_other : (xs : List Text) (x : Text) (i : ℕ) → i ≢ length xs → slice_get (xs ++ x ∷ []) i ≡ slice_get xs i
slice_get-push_other [] x zero apart = absurd (apart refl)
slice_get-push_other [] x (suc i) apart = refl
slice_get-push_other (y ∷ xs) x zero apart = refl
slice_get-push_other (y ∷ xs) x (suc i) apart = slice_get-push_other xs x i (λ same. apart (ap suc same))

module _ (first : Text) (rules : List Rule) (places : List Text) (leaf : IsLeaf first rules places) (parts : Parts) (uses : List Use) (held : Holds first places parts uses) where
  -- an option is given that was not given yet
  option_values : (name value other : Text) → value_in name uses ≡ None → Known other
      → values_of other (parts.options ++ given name value ∷ []) ≡ option_to_list (value_in other (uses ++ (name, value) ∷ []))
  option_values name value other new is = values_of-append other parts.options (given name value ∷ []) ∙ go (bytes_eq name other) refl
    where
      go : (t : Bool) → bytes_eq name other ≡ t
          → values_of other parts.options ++ values_of other (given name value ∷ []) ≡ option_to_list (value_in other (uses ++ (name, value) ∷ []))
      go true e =
          let none : value_in other uses ≡ None = ap (λ (n : Text). value_in n uses) (sym (bytes_same name other e)) ∙ new in
          let so_far : values_of other parts.options ≡ [] = held.options other is ∙ ap option_to_list none in
          let here : values_of other (given name value ∷ []) ≡ value ∷ [] = rw e refl in
          ap₂ (λ (xs ys : List Text). xs ++ ys) so_far here ∙ ap option_to_list (sym (value_in-push name other value uses e none))
      go false e =
          let here : values_of other (given name value ∷ []) ≡ [] = rw e refl in
          ap (λ (ys : List Text). values_of other parts.options ++ ys) here ∙ append-nil (values_of other parts.options) ∙ held.options other is
          ∙ ap option_to_list (sym (value_in-push_other name other value uses e))

  option_apart : (i : ℕ) (name other : Text) → Known name → slice_get places i ≡ Some other → bytes_eq name other ≡ false
  option_apart i name other is at = bytes_apart name other (λ same. true≢false (sym (name_is name is) ∙ ap is_name same ∙ leaf.unknown i other at))

  pub holds_option : (name value : Text) → IsOption first name → value_in name uses ≡ None → Holds first places (add_option parts name value) (uses ++ (name, value) ∷ [])
  holds_option name value is new = record {
    options = λ other of. option_values name value other new of;
    words = λ i other at. value_in-push_other name other value uses (option_apart i name other is.named at) ∙ held.words i other at;
    known = list_all-push (λ option. is_known first option.name) parts.options (given name value) held.known is.taken;
    fits = held.fits;
  }

  -- a word comes to the next place
  pub place_new : (name : Text) → slice_get places (length parts.positional) ≡ Some name → value_in name uses ≡ None
  place_new name at = held.words (length parts.positional) name at ∙ slice_get_past parts.positional (length parts.positional) (omega arith)

  word_at : (name word other : Text) (i : ℕ) → slice_get places (length parts.positional) ≡ Some name → slice_get places i ≡ Some other
      → value_in other (uses ++ (name, word) ∷ []) ≡ slice_get (parts.positional ++ word ∷ []) i
  word_at name word other i at there = go (bytes_eq name other) refl
    where
      go : (t : Bool) → bytes_eq name other ≡ t → value_in other (uses ++ (name, word) ∷ []) ≡ slice_get (parts.positional ++ word ∷ []) i
      go true e =
          let same = bytes_same name other e in
          let place : length parts.positional ≡ i = leaf.apart (length parts.positional) i other (at ∙ ap (λ (n : Text). Some n) same) there in
          let none : value_in other uses ≡ None = ap (λ (n : Text). value_in n uses) (sym same) ∙ place_new name at in
          value_in-push name other word uses e none ∙ sym (slice_get-push parts.positional word) ∙ ap (slice_get (parts.positional ++ word ∷ [])) place
      go false e =
          value_in-push_other name other word uses e ∙ held.words i other there ∙ sym (slice_get-push_other parts.positional word i (λ same.
          let equal : Some name ≡ Some other = sym at ∙ ap (slice_get places) (sym same) ∙ there in
          let names : name ≡ other = cc in
          true≢false (sym (bytes_self other) ∙ ap (λ (n : Text). bytes_eq n other) (sym names) ∙ e)))

  place_apart : (name other : Text) → slice_get places (length parts.positional) ≡ Some name → Known other → bytes_eq name other ≡ false
  place_apart name other at is = bytes_apart name other (λ same.
      true≢false (sym (name_is other is) ∙ ap is_name (sym same) ∙ leaf.unknown (length parts.positional) name at))

  pub holds_word : (name word : Text) → slice_get places (length parts.positional) ≡ Some name → Holds first places (add_word parts word) (uses ++ (name, word) ∷ [])
  holds_word name word at = record {
    options = λ other of. held.options other of ∙ ap option_to_list (sym (value_in-push_other name other word uses (place_apart name other at of)));
    words = λ i other there. word_at name word other i at there;
    known = held.known;
    fits = omega (arith, slice_get_within places (length parts.positional) name at, length-append parts.positional (word ∷ []));
  }
