-- `clap`'s walk over the words of a subcommand makes what the rules make of them.
use Rattle.std.proofs.Common.{◌≡◌, ◌∙◌, ◌+◌, inl, inr, ℕ, Bool, true, false, refl, sym, ap, ap₂, List, [], ◌∷◌, length, Option, Some, None, IsUtf8, slice_get}
use Rattle.clap.{specs.Walk.{Row, Rule, Text, Walk, idle, option, settled, used}, specs.Faults.{react_fault, settle_fault, turn_fault, use_fault}, specs.Kinds.{Kinds, or_else}}
use Rattle.clap.specs.declared.error.kind.ErrorKind.TheVariants as kind
use Rattle.command_words.{specs.Commands.is_known, specs.Words.{Parts, after_option, is_positional, parts_after, with_option, with_positional}, proofs.HoldLemmas.{Holds, holds_none}, proofs.LeafRules.{IsLeaf, option_taker}, proofs.LeafSteps.{at, bundle_fails, end_fails, end_next, end_passes, fails, goes, held_at, leaf_shape, name_next, name_turn, outcome, place_fault, plain_next, plain_turn, taken_next, taken_passes, trailing_next, trailing_turn, unknown_fails, value_next, value_turn}, proofs.PartLemmas.{IsOption, add_option, finish_all, no_parts, option_is, prepend, prepend-option, refuses_unknown}, proofs.PlaceLemmas.{Ends, Goes, ended, past_places, place, place_settles, standing, told}, proofs.SettleLemmas.{Fits, Last, nothing, pending_of, rows_at, settle, settle_at, taken, total, uses_after}, proofs.UseLemmas.{Use, rows_of_uses}, proofs.WordLooks.{IsBundle, IsEnd, IsLong, IsPlain, Look, look}}

-- ---- what the rules make of a word

end_parts : (word : Text) (words : List Text) → IsEnd word → parts_after None (word ∷ words) ≡ Some (record { options = []; positional = words })
end_parts word words l = rw l.is refl

plain_parts : (word : Text) (words : List Text) → IsPlain word → parts_after None (word ∷ words) ≡ with_positional word (parts_after None words)
plain_parts word words l = rw (l.differs, l.positional) refl

bundle_parts : (word : Text) (words : List Text) → IsBundle word → parts_after None (word ∷ words) ≡ None
bundle_parts word words l = rw (l.differs, l.positional, l.option) refl

long_parts : (word : Text) (words : List Text) (l : IsLong word) → parts_after None (word ∷ words) ≡ after_option (Some (l.name, l.value)) (λ name. parts_after name words)
long_parts word words l = rw (l.differs, l.positional, l.option) refl

value_parts : (word value : Text) (words : List Text) (l : IsLong word) → l.value ≡ Some value → parts_after None (word ∷ words) ≡ with_option l.name value (parts_after None words)
value_parts word value words l e = long_parts word words l ∙ ap (λ (v : Option Text). after_option (Some (l.name, v)) (λ name. parts_after name words)) e

name_parts : (word : Text) (words : List Text) (l : IsLong word) → l.value ≡ None → parts_after None (word ∷ words) ≡ parts_after (Some l.name) words
name_parts word words l e = long_parts word words l ∙ ap (λ (v : Option Text). after_option (Some (l.name, v)) (λ name. parts_after name words)) e

taken_parts : (name word : Text) (words : List Text) → is_positional word ≡ true → parts_after (Some name) (word ∷ words) ≡ with_option name word (parts_after None words)
taken_parts name word words e = rw e refl

refused_parts : (name word : Text) (words : List Text) → is_positional word ≡ false → parts_after (Some name) (word ∷ words) ≡ None
refused_parts name word words e = rw e refl

unknown_waits : (first name : Text) (parts : Parts) (words : List Text) → is_known first name ≡ false → finish_all first (prepend parts (parts_after (Some name) words)) ≡ None
unknown_waits first name parts [] none = refl
unknown_waits first name parts (word ∷ words) none = go (is_positional word) refl
  where
    go : (b : Bool) → is_positional word ≡ b → finish_all first (prepend parts (parts_after (Some name) (word ∷ words))) ≡ None
    go true e = ap (λ (p : Option Parts). finish_all first (prepend parts p)) (taken_parts name word words e) ∙ refuses_unknown first name word parts (parts_after None words) none
    go false e = ap (λ (p : Option Parts). finish_all first (prepend parts p)) (refused_parts name word words e)

-- the words are text
abbrev pub Texts : List Text → Type 0
Texts [] = Unit {0}
Texts (word ∷ words) = IsUtf8 word × Texts words

module _ (first : Text) (rules : List Rule) (places : List Text) (leaf : IsLeaf first rules places) (ends : Ends first places) where
  -- ---- an option whose value is to come

  abbrev pub waiting_at : List Use → Text → ℕ → Bool → Walk
  waiting_at uses name n t = at (rows_of_uses uses) (Some (name, [])) (option name) (n + 1) t

  abbrev pub Waits : List Text → Type 0
  Waits words = (parts : Parts) (uses : List Use) (name : Text) → Holds first places parts uses → IsOption first name
      → told first (outcome first rules (waiting_at uses name (length parts.positional) false) words) ≡ finish_all first (prepend parts (parts_after (Some name) words))

  no_value : (uses : List Use) (name : Text) → IsOption first name → settle_fault rules false (held_at (rows_of_uses uses) (Some (name, []))) ≡ kind.InvalidValue ∷ []
  no_value uses name is = settle_at rules name [] (rows_of_uses uses) (option_taker name) (leaf.by_name name is)

  waits_ended : (parts : Parts) (uses : List Use) (name : Text) (t : Bool) → IsOption first name → outcome first rules (waiting_at uses name (length parts.positional) t) [] ≡ None
  waits_ended parts uses name t is =
      end_fails first rules places leaf (rows_of_uses uses) (Some (name, [])) (length parts.positional + 1) (option name) t kind.InvalidValue [] (no_value uses name is)

  trailing_fails : (parts : Parts) (uses : List Use) (name : Text) (words : List Text) → Holds first places parts uses → IsOption first name
      → outcome first rules (waiting_at uses name (length parts.positional) true) words ≡ None
  trailing_fails parts uses name [] held is = waits_ended parts uses name true is
  trailing_fails parts uses name (word ∷ words) held is = go (slice_get places (length parts.positional)) refl
    where
      go : (o : Option Text) → slice_get places (length parts.positional) ≡ o → outcome first rules (waiting_at uses name (length parts.positional) true) (word ∷ words) ≡ None
      go None e =
          let none = past_places first rules places leaf (length parts.positional) e held.fits in
          fails first rules (waiting_at uses name (length parts.positional) true) word words kind.UnknownArgument []
          (trailing_turn first rules places leaf (rows_of_uses uses) (Some (name, [])) (length parts.positional + 1) (option name) word
          ∙ ap (place_fault rules (rows_of_uses uses) (Some (name, []))) none)
      go (Some at_place) e =
          fails first rules (waiting_at uses name (length parts.positional) true) word words kind.InvalidValue []
          (trailing_turn first rules places leaf (rows_of_uses uses) (Some (name, [])) (length parts.positional + 1) (option name) word
          ∙ ap (place_fault rules (rows_of_uses uses) (Some (name, []))) (leaf.by_place (length parts.positional) at_place e)
          ∙ place_settles rules (rows_of_uses uses) (Some (name, [])) (length parts.positional + 1) at_place ∙ no_value uses name is)

  -- ---- after two minus signs

  pub trails : (words : List Text) → Goes first rules places leaf ends true words (Some (record { options = []; positional = words }))
  trails [] = ended first rules places leaf ends true
  trails (word ∷ words) = λ parts uses last held fits. place first rules places leaf ends true word words (Some (record { options = []; positional = words })) (trails words) parts uses last held fits
      (trailing_turn first rules places leaf (rows_of_uses uses) (pending_of last) (length (total parts last).positional + 1) idle word)
      (trailing_next first rules places leaf (rows_of_uses uses) (pending_of last) (length (total parts last).positional + 1) idle word)

  -- ---- a word where any may stand

  abbrev pub Opens : List Text → Type 0
  Opens words = Goes first rules places leaf ends false words (parts_after None words)

  -- the word's step by `clap`, where the rules make these parts
  abbrev Steps : Parts → List Use → Last → Text → List Text → Option Parts → Type 0
  Steps parts uses last word words rest = told first (outcome first rules (standing first rules places leaf ends parts uses last false) (word ∷ words)) ≡ finish_all first (prepend (total parts last) rest)

  opens_value : (word value : Text) (words : List Text) (l : IsLong word) → Opens words → IsOption first l.name → l.value ≡ Some value
      → (parts : Parts) (uses : List Use) (last : Last) → Holds first places parts uses → Fits first places parts last → Steps parts uses last word words (with_option l.name value (parts_after None words))
  opens_value word value words l later is some parts uses last held fits =
      let rows = rows_of_uses uses in
      let pending = pending_of last in
      let n = length (total parts last).positional in
      let w = standing first rules places leaf ends parts uses last false in
      let rest = with_option l.name value (parts_after None words) in
      let a = option_taker l.name in
      let turn = value_turn first rules places leaf rows pending (n + 1) idle word value l is some in
      elim (settle first rules places leaf parts uses last held fits) [
        | inl doomed ↦
            let fault : react_fault rules false a (value ∷ []) (held_at rows pending) ≡ doomed.0 ∷ [] = ap (λ (f : Kinds). or_else f (use_fault false a (value ∷ []) (settled rules (held_at rows pending)).rows)) doomed.1 in
            ap (told first) (fails first rules w word words doomed.0 [] (turn ∙ ap (λ (f : Kinds). or_else f []) fault)) ∙ sym (doomed.2 rest)
        | inr fine ↦
            let now = uses_after uses last in
            let so_far = total parts last in
            let second = settle_at rules l.name (value ∷ []) (rows_of_uses now) a (leaf.by_name l.name is) in
            let fault : react_fault rules false a (value ∷ []) (held_at rows pending) ≡ settle_fault rules false (held_at (rows_of_uses now) (Some (l.name, value ∷ []))) =
            ap₂ (λ (f : Kinds) (rs : List Row). or_else f (use_fault false a (value ∷ []) rs)) fine.0 fine.1 ∙ sym second in
            let read = ap (finish_all first) (prepend-option so_far l.name value (parts_after None words)) in
            elim (settle first rules places leaf so_far now (taken l.name value) fine.2 is) [
              | inl doomed ↦
                  ap (told first) (fails first rules w word words doomed.0 [] (turn ∙ ap (λ (f : Kinds). or_else f []) (fault ∙ doomed.1)))
                  ∙ sym (read ∙ doomed.2 (parts_after None words))
              | inr next ↦
                  let lands = value_next first rules places leaf rows pending (n + 1) word value l is some
                  ∙ ap (λ (rs : List Row). at (used a (value ∷ []) rs) None idle (n + 1) false) fine.1
                  ∙ ap (λ (rs : List Row). at rs None idle (n + 1) false) (sym (rows_at rules l.name (value ∷ []) (rows_of_uses now) a (leaf.by_name l.name is)) ∙ next.1) in
                  ap (told first) (goes first rules w (standing first rules places leaf ends (add_option so_far l.name value) (uses_after now (taken l.name value)) nothing false) word words
                  (turn ∙ ap (λ (f : Kinds). or_else f []) (fault ∙ next.0)) lands)
                  ∙ later (add_option so_far l.name value) (uses_after now (taken l.name value)) nothing next.2 tt ∙ sym read
            ]
      ]

  opens_name : (word : Text) (words : List Text) (l : IsLong word) → Waits words → IsOption first l.name → l.value ≡ None
      → (parts : Parts) (uses : List Use) (last : Last) → Holds first places parts uses → Fits first places parts last → Steps parts uses last word words (parts_after (Some l.name) words)
  opens_name word words l later is none parts uses last held fits =
      let rows = rows_of_uses uses in
      let pending = pending_of last in
      let n = length (total parts last).positional in
      let w = standing first rules places leaf ends parts uses last false in
      let turn = name_turn first rules places leaf rows pending (n + 1) idle word l is none in
      elim (settle first rules places leaf parts uses last held fits) [
        | inl doomed ↦ ap (told first) (fails first rules w word words doomed.0 [] (turn ∙ ap (λ (f : Kinds). or_else f []) doomed.1)) ∙ sym (doomed.2 (parts_after (Some l.name) words))
        | inr fine ↦
            let lands = name_next first rules places leaf rows pending (n + 1) word l is none ∙ ap (λ (rs : List Row). at rs (Some (l.name, [])) (option l.name) (n + 1) false) fine.1 in
            ap (told first) (goes first rules w (waiting_at (uses_after uses last) l.name n false) word words (turn ∙ ap (λ (f : Kinds). or_else f []) fine.0) lands)
            ∙ later (total parts last) (uses_after uses last) l.name fine.2 is
      ]

  opens_unknown : (word : Text) (words : List Text) (l : IsLong word) → is_known first l.name ≡ false → (parts : Parts) (uses : List Use) (last : Last)
      → Steps parts uses last word words (parts_after None (word ∷ words))
  opens_unknown word words l none parts uses last =
      let n = length (total parts last).positional in
      let fault = unknown_fails first rules places leaf (rows_of_uses uses) (pending_of last) (n + 1) idle word l none in
      ap (told first) (fails first rules (standing first rules places leaf ends parts uses last false) word words kind.UnknownArgument [] fault) ∙ sym (go l.value refl)
    where
      go : (v : Option Text) → l.value ≡ v → finish_all first (prepend (total parts last) (parts_after None (word ∷ words))) ≡ None
      go None e = ap (λ (p : Option Parts). finish_all first (prepend (total parts last) p)) (name_parts word words l e) ∙ unknown_waits first l.name (total parts last) words none
      go (Some value) e =
          ap (λ (p : Option Parts). finish_all first (prepend (total parts last) p)) (value_parts word value words l e)
          ∙ refuses_unknown first l.name value (total parts last) (parts_after None words) none

  opens_known : (word : Text) (words : List Text) (l : IsLong word) → Opens words → Waits words → IsOption first l.name
      → (parts : Parts) (uses : List Use) (last : Last) → Holds first places parts uses → Fits first places parts last → Steps parts uses last word words (parts_after None (word ∷ words))
  opens_known word words l opens waits is parts uses last held fits = go l.value refl
    where
      go : (v : Option Text) → l.value ≡ v → Steps parts uses last word words (parts_after None (word ∷ words))
      go None e = opens_name word words l waits is e parts uses last held fits ∙ sym (ap (λ (p : Option Parts). finish_all first (prepend (total parts last) p)) (name_parts word words l e))
      go (Some value) e =
          opens_value word value words l opens is e parts uses last held fits ∙ sym (ap (λ (p : Option Parts). finish_all first (prepend (total parts last) p)) (value_parts word value words l e))

  opens_long : (word : Text) (words : List Text) (l : IsLong word) → Opens words → Waits words
      → (parts : Parts) (uses : List Use) (last : Last) → Holds first places parts uses → Fits first places parts last → Steps parts uses last word words (parts_after None (word ∷ words))
  opens_long word words l opens waits parts uses last held fits = go (is_known first l.name) refl
    where
      go : (b : Bool) → is_known first l.name ≡ b → Steps parts uses last word words (parts_after None (word ∷ words))
      go true e = opens_known word words l opens waits (option_is first l.name e) parts uses last held fits
      go false e = opens_unknown word words l e parts uses last

  opens : (word : Text) (words : List Text) → Look word → Opens words → Waits words → Opens (word ∷ words)
  opens word words (inl l) later waits parts uses last held fits =
      let n = length (total parts last).positional in
      ap (told first) (goes first rules (standing first rules places leaf ends parts uses last false) (standing first rules places leaf ends parts uses last true) word words
      (end_passes first rules places leaf (rows_of_uses uses) (pending_of last) (n + 1) idle word l) (end_next first rules places leaf (rows_of_uses uses) (pending_of last) (n + 1) idle word l))
      ∙ trails words parts uses last held fits ∙ sym (ap (λ (p : Option Parts). finish_all first (prepend (total parts last) p)) (end_parts word words l))
  opens word words (inr (inl l)) later waits parts uses last held fits =
      let n = length (total parts last).positional in
      place first rules places leaf ends false word words (parts_after None words) later parts uses last held fits
      (plain_turn first rules places leaf (rows_of_uses uses) (pending_of last) (n + 1) word l) (plain_next first rules places leaf (rows_of_uses uses) (pending_of last) (n + 1) word l)
      ∙ sym (ap (λ (p : Option Parts). finish_all first (prepend (total parts last) p)) (plain_parts word words l))
  opens word words (inr (inr (inl l))) later waits parts uses last held fits =
      let n = length (total parts last).positional in
      ap (told first) (fails first rules (standing first rules places leaf ends parts uses last false) word words kind.UnknownArgument []
      (bundle_fails first rules places leaf (rows_of_uses uses) (pending_of last) (n + 1) idle word l))
      ∙ sym (ap (λ (p : Option Parts). finish_all first (prepend (total parts last) p)) (bundle_parts word words l))
  opens word words (inr (inr (inr l))) later waits parts uses last held fits = opens_long word words l later waits parts uses last held fits

  -- ---- a word where a value is to come

  abbrev Takes : Parts → List Use → Text → Text → List Text → Type 0
  Takes parts uses name word words =
      told first (outcome first rules (waiting_at uses name (length parts.positional) false) (word ∷ words)) ≡ finish_all first (prepend parts (parts_after (Some name) (word ∷ words)))

  takes_none : (parts : Parts) (uses : List Use) (name word : Text) (words : List Text) → is_positional word ≡ false
      → outcome first rules (waiting_at uses name (length parts.positional) false) (word ∷ words) ≡ None → Takes parts uses name word words
  takes_none parts uses name word words e fault = ap (told first) fault ∙ sym (ap (λ (p : Option Parts). finish_all first (prepend parts p)) (refused_parts name word words e))

  takes_long : (parts : Parts) (uses : List Use) (name word : Text) (words : List Text) (l : IsLong word) → IsOption first name → Takes parts uses name word words
  takes_long parts uses name word words l is = takes_none parts uses name word words l.positional (go (is_known first l.name) refl)
    where
      fault_at : (value : Option Text) → l.value ≡ value → IsOption first l.name
          → turn_fault (leaf_shape first rules) [] (waiting_at uses name (length parts.positional) false) word ≡ kind.InvalidValue ∷ []
      fault_at None e of =
          name_turn first rules places leaf (rows_of_uses uses) (Some (name, [])) (length parts.positional + 1) (option name) word l of e ∙ ap (λ (f : Kinds). or_else f []) (no_value uses name is)
      fault_at (Some value) e of =
          value_turn first rules places leaf (rows_of_uses uses) (Some (name, [])) (length parts.positional + 1) (option name) word value l of e
          ∙ ap (λ (f : Kinds). or_else (or_else f (use_fault false (option_taker l.name) (value ∷ []) (settled rules (held_at (rows_of_uses uses) (Some (name, [])))).rows)) []) (no_value uses name is)

      go : (b : Bool) → is_known first l.name ≡ b → outcome first rules (waiting_at uses name (length parts.positional) false) (word ∷ words) ≡ None
      go true e = fails first rules (waiting_at uses name (length parts.positional) false) word words kind.InvalidValue [] (fault_at l.value refl (option_is first l.name e))
      go false e = fails first rules (waiting_at uses name (length parts.positional) false) word words kind.UnknownArgument []
          (unknown_fails first rules places leaf (rows_of_uses uses) (Some (name, [])) (length parts.positional + 1) (option name) word l e)

  takes : (word : Text) (words : List Text) → Look word → Opens words → Waits (word ∷ words)
  takes word words (inl l) later parts uses name held is =
      takes_none parts uses name word words l.positional
      (goes first rules (waiting_at uses name (length parts.positional) false) (waiting_at uses name (length parts.positional) true) word words
      (end_passes first rules places leaf (rows_of_uses uses) (Some (name, [])) (length parts.positional + 1) (option name) word l)
      (end_next first rules places leaf (rows_of_uses uses) (Some (name, [])) (length parts.positional + 1) (option name) word l)
      ∙ trailing_fails parts uses name words held is)
  takes word words (inr (inl l)) later parts uses name held is =
      ap (told first) (goes first rules (waiting_at uses name (length parts.positional) false) (standing first rules places leaf ends parts uses (taken name word) false) word words
      (taken_passes first rules places leaf (rows_of_uses uses) (length parts.positional + 1) name word l)
      (taken_next first rules places leaf (rows_of_uses uses) (length parts.positional + 1) name word is l))
      ∙ later parts uses (taken name word) held is
      ∙ sym (ap (λ (p : Option Parts). finish_all first (prepend parts p)) (taken_parts name word words l.positional) ∙ ap (finish_all first) (prepend-option parts name word (parts_after None words)))
  takes word words (inr (inr (inl l))) later parts uses name held is =
      takes_none parts uses name word words l.positional
      (fails first rules (waiting_at uses name (length parts.positional) false) word words kind.UnknownArgument []
      (bundle_fails first rules places leaf (rows_of_uses uses) (Some (name, [])) (length parts.positional + 1) (option name) word l))
  takes word words (inr (inr (inr l))) later parts uses name held is = takes_long parts uses name word words l is

  -- ---- all the words

  agree : (words : List Text) → Texts words → Opens words × Waits words
  agree [] texts = (ended first rules places leaf ends false, (λ parts uses name held is. ap (told first) (waits_ended parts uses name false is)))
  agree (word ∷ words) texts =
      let later = agree words texts.1 in
      (opens word words (look word texts.0) later.0 later.1, takes word words (look word texts.0) later.0)

  pub leaf_agrees : (words : List Text) → Texts words → told first (outcome first rules (at [] None idle 1 false) words) ≡ finish_all first (prepend no_parts (parts_after None words))
  leaf_agrees words texts = (agree words texts).0 no_parts [] nothing (holds_none first places) tt
