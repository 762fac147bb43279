-- A use whose values are complete is settled: it is one more use, or it repeats an option.
use Rattle.std.proofs.Common.{◌≡◌, ◌∙◌, ◌⊎◌, ◌+◌, ◌≤◌, inl, inr, true, false, refl, sym, ap, arith, List, [], ◌∷◌, ◌++◌, length, Option, Some, None, option_to_list, slice_get}
use Rattle.std.{specs.Option.option_map_or, proofs.lemmas.List.length-append, proofs.lemmas.Option.slice_get_within}
use Rattle.clap.{specs.Walk.{Row, Rule, Text, arg_by_id, settled_rows, used, used_by_id}, specs.Faults.{settle_fault, use_fault}, specs.declared.error.kind.ErrorKind.ErrorKind}
use Rattle.clap.specs.declared.error.kind.ErrorKind.TheVariants as kind
use Rattle.command_words.{specs.Words.Parts, proofs.HoldLemmas.{Holds, holds_option, holds_word, place_new}, proofs.LeafRules.{IsLeaf, option_taker, word_taker}, proofs.LeafSteps.{Pending, held_at}, proofs.PartLemmas.{IsOption, add_option, add_word, finish_all, prepend, prepend-option, refuses_twice}, proofs.UseLemmas.{Use, bytes_self, rows_of_uses, use_passes, use_repeats, used_new, value_in}}

-- the use that is still held: of an option, or of a place
pub data Last : Type 0 where
  nothing : Last
  taken : Text → Text → Last
  placed : Text → Text → Last

abbrev pub pending_of : Last → Pending
pending_of nothing = None
pending_of (taken name value) = Some (name, value ∷ [])
pending_of (placed name word) = Some (name, word ∷ [])

-- the parts with it
abbrev pub total : Parts → Last → Parts
total parts nothing = parts
total parts (taken name value) = add_option parts name value
total parts (placed name word) = add_word parts word

abbrev pub uses_after : List Use → Last → List Use
uses_after uses nothing = uses
uses_after uses (taken name value) = uses ++ (name, value) ∷ []
uses_after uses (placed name word) = uses ++ (name, word) ∷ []

-- it is an option that there is, or the next place
abbrev pub Fits : Text → List Text → Parts → Last → Type 0
Fits first places parts nothing = Unit {0}
Fits first places parts (taken name value) = IsOption first name
Fits first places parts (placed name word) = slice_get places (length parts.positional) ≡ Some name

pub settle_at : (rules : List Rule) (name : Text) (values : List Text) (rows : List Row) (a : Rule) → arg_by_id rules name ≡ Some a
    → settle_fault rules false (held_at rows (Some (name, values))) ≡ use_fault false a values rows
settle_at rules name values rows a e = ap (λ (o : Option Rule). option_map_or (λ b. use_fault false b values rows) o []) e

pub rows_at : (rules : List Rule) (name : Text) (values : List Text) (rows : List Row) (a : Rule) → arg_by_id rules name ≡ Some a
    → settled_rows rules (Some (name, values)) rows ≡ used a values rows
rows_at rules name values rows a e = ap (λ (o : Option Rule). used_by_id o values rows) e

module _ (first : Text) (rules : List Rule) (places : List Text) (leaf : IsLeaf first rules places) where
  -- `clap` fails, and no later words make a command
  abbrev pub IsDoomed : Parts → List Use → Last → Type 0
  IsDoomed parts uses last = (k : ErrorKind) × (settle_fault rules false (held_at (rows_of_uses uses) (pending_of last)) ≡ k ∷ [])
      × ((rest : Option Parts) → finish_all first (prepend (total parts last) rest) ≡ None)

  abbrev pub IsFine : Parts → List Use → Last → Type 0
  IsFine parts uses last = (settle_fault rules false (held_at (rows_of_uses uses) (pending_of last)) ≡ [])
      × (settled_rows rules (pending_of last) (rows_of_uses uses) ≡ rows_of_uses (uses_after uses last)) × Holds first places (total parts last) (uses_after uses last)

  settle_option : (parts : Parts) (uses : List Use) (name value : Text) → Holds first places parts uses → IsOption first name → IsDoomed parts uses (taken name value) ⊎ IsFine parts uses (taken name value)
  settle_option parts uses name value held is = go (value_in name uses) refl
    where
      go : (o : Option Text) → value_in name uses ≡ o → IsDoomed parts uses (taken name value) ⊎ IsFine parts uses (taken name value)
      go None e = inr (
        settle_at rules name (value ∷ []) (rows_of_uses uses) (option_taker name) (leaf.by_name name is) ∙ use_passes name value (Some name) None false uses e,
        rows_at rules name (value ∷ []) (rows_of_uses uses) (option_taker name) (leaf.by_name name is) ∙ used_new name value (Some name) None false uses e,
        holds_option first rules places leaf parts uses held name value is e,
      )
      go (Some other) e = inl (
        kind.ArgumentConflict,
        settle_at rules name (value ∷ []) (rows_of_uses uses) (option_taker name) (leaf.by_name name is) ∙ use_repeats name value (Some name) None false uses other e,
        (λ rest. ap (finish_all first) (sym (prepend-option parts name value rest)) ∙ refuses_twice first name value other parts rest (bytes_self name) is.named (held.options name is.named ∙ ap option_to_list e)),
      )

  settle_word : (parts : Parts) (uses : List Use) (name word : Text) → Holds first places parts uses → slice_get places (length parts.positional) ≡ Some name → IsFine parts uses (placed name word)
  settle_word parts uses name word held at =
      let place = length parts.positional + 1 in
      let found = leaf.by_word (length parts.positional) name at in
      let new = place_new first rules places leaf parts uses held name at in (
        settle_at rules name (word ∷ []) (rows_of_uses uses) (word_taker place name) found ∙ use_passes name word None (Some place) true uses new,
        rows_at rules name (word ∷ []) (rows_of_uses uses) (word_taker place name) found ∙ used_new name word None (Some place) true uses new,
        holds_word first rules places leaf parts uses held name word at,
      )

  pub settle : (parts : Parts) (uses : List Use) (last : Last) → Holds first places parts uses → Fits first places parts last → IsDoomed parts uses last ⊎ IsFine parts uses last
  settle parts uses nothing held fits = inr (refl, refl, held)
  settle parts uses (taken name value) held fits = settle_option parts uses name value held fits
  settle parts uses (placed name word) held fits = inr (settle_word parts uses name word held fits)

  pub total_fits : (parts : Parts) (uses : List Use) (last : Last) → Holds first places parts uses → Fits first places parts last → length (total parts last).positional ≤ length places
  total_fits parts uses nothing held fits = held.fits
  total_fits parts uses (taken name value) held fits = held.fits
  total_fits parts uses (placed name word) held fits = omega (arith, slice_get_within places (length parts.positional) name fits, length-append parts.positional (word ∷ []))
