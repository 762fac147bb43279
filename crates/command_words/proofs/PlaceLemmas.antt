-- A word that goes to a place, in `clap`'s walk and by the rules.
use Rattle.std.proofs.Common.{◌≡◌, ◌∙◌, ◌+◌, ◌≤◌, ◌&&◌, inl, inr, ℕ, Bool, false, min, refl, sym, ap, arith, cond, List, [], ◌∷◌, ◌++◌, length, Option, Some, None, option_and_then, slice_get}
use Rattle.std.{proofs.lemmas.Bool.{and_right, cases_lt}, proofs.lemmas.List.length-append, proofs.lemmas.Option.slice_get-get_or}
use Rattle.key_lists.proofs.Booleans.{or_false}
use Rattle.clap.{specs.Lexer.usize_max, specs.Walk.{Row, Rule, Text, Walk, arg_by_index, idle, is_pending, pushed, settled, settled_rows, to_positional, walked}, specs.Faults.{settle_fault, turn_fault}}
use Rattle.clap.specs.declared.error.kind.ErrorKind.TheVariants as kind
use Rattle.command_words.{specs.declared.command.Command.Command, specs.Found.command_found, specs.Words.{Parts, with_positional}, proofs.HoldLemmas.Holds, proofs.LeafRules.{IsLeaf, word_taker}, proofs.LeafSteps.{Pending, at, complete, end_fails, end_goes, fails, goes, held_at, leaf_shape, outcome, place_fault}, proofs.PartLemmas.{finish, finish_all, no_parts, prepend, prepend-none, prepend-word}, proofs.SettleLemmas.{Fits, Last, pending_of, placed, settle, total, total_fits, uses_after}, proofs.UseLemmas.{Use, rows_of_uses}}

-- what a subcommand makes of its words
abbrev pub told : Text → Option (List Row) → Option Command
told first = option_and_then (command_found first)

-- at the end of the words, a subcommand with these places makes what the parts make; and it makes nothing of one word more than it has places
pub record Ends (first : Text) (places : List Text) : Type 0 where
  pub whole : (parts : Parts) (uses : List Use) → Holds first places parts uses → told first (complete places (rows_of_uses uses)) ≡ finish first parts
  pub long : (parts : Parts) (word : Text) (rest : Option Parts) → slice_get places (length parts.positional) ≡ None → finish_all first (prepend parts (with_positional word rest)) ≡ None

never_past : (places : List Text) (n : ℕ) → slice_get places n ≡ None → length places ≤ n
never_past [] n e = omega arith
never_past (p ∷ places) n e = elim (cases_lt n (length (p ∷ places))) [
  | inl inside ↦ let some = slice_get-get_or (p ∷ places) n p inside in absurd (cc)
  | inr past ↦ past
]

pub past_places : (first : Text) (rules : List Rule) (places : List Text) (leaf : IsLeaf first rules places) (n : ℕ) → slice_get places n ≡ None → n ≤ length places → arg_by_index rules (n + 1) ≡ None
past_places first rules places leaf n e fits =
    let all : length places ≡ n = omega (arith, never_past places n e) in
    ap (λ (k : ℕ). arg_by_index rules (k + 1)) (sym all) ∙ leaf.past

-- a word at a place settles what is pending
pub place_settles : (rules : List Rule) (rows : List Row) (pending : Pending) (place : ℕ) (name : Text) → place_fault rules rows pending (Some (word_taker place name)) ≡ settle_fault rules false (held_at rows pending)
place_settles rules rows pending place name =
    ap (λ (b : Bool). cond b [] (settle_fault rules false (held_at rows pending))) (and_right (is_pending (word_taker place name) pending) false refl)

-- and is the one word of it
placed_next : (rules : List Rule) (rows settled_to : List Row) (pending : Pending) (name word : Text) (n next : ℕ) (t : Bool)
    → arg_by_index rules (n + 1) ≡ Some (word_taker (n + 1) name) → settled_rows rules pending rows ≡ settled_to → min ((n + 1) + 1) usize_max ≡ next
    → to_positional rules (arg_by_index rules (n + 1)) word (at rows pending idle (n + 1) t) (held_at rows pending) ≡ at settled_to (Some (name, word ∷ [])) idle next t
placed_next rules rows settled_to pending name word n next t found is position =
    let h = held_at rows pending in
    let not_same : (is_pending (word_taker (n + 1) name) pending && false) ≡ false = and_right (is_pending (word_taker (n + 1) name) pending) false refl in
    let landed : ◌≡◌ {A = Walk} (to_positional rules (Some (word_taker (n + 1) name)) word (at rows pending idle (n + 1) t) h) (at (settled rules h).rows (Some (name, word ∷ [])) idle next t) =
    λ i. record { held = pushed name word (cond (not_same i) h (settled rules h)); waiting = idle; position = position i; is_trailing = or_false t i; stopped = None } in
    ap (λ (o : Option Rule). to_positional rules o word (at rows pending idle (n + 1) t) h) found ∙ landed ∙ ap (λ (rs : List Row). at rs (Some (name, word ∷ [])) idle next t) is

module _ (first : Text) (rules : List Rule) (places : List Text) (leaf : IsLeaf first rules places) (ends : Ends first places) where
  -- where the walk stands when it is open to any word
  abbrev pub standing : Parts → List Use → Last → Bool → Walk
  standing parts uses last t = at (rows_of_uses uses) (pending_of last) idle (length (total parts last).positional + 1) t

  abbrev pub Goes : Bool → List Text → Option Parts → Type 0
  Goes t words rest = (parts : Parts) (uses : List Use) (last : Last) → Holds first places parts uses → Fits first places parts last
      → told first (outcome first rules (standing parts uses last t) words) ≡ finish_all first (prepend (total parts last) rest)

  -- the end
  pub ended : (t : Bool) → Goes t [] (Some no_parts)
  ended t parts uses last held fits =
      let rows = rows_of_uses uses in
      let pending = pending_of last in
      let position = length (total parts last).positional + 1 in
      elim (settle first rules places leaf parts uses last held fits) [
        | inl doomed ↦ ap (told first) (end_fails first rules places leaf rows pending position idle t doomed.0 [] doomed.1) ∙ sym (doomed.2 (Some no_parts))
        | inr fine ↦ ap (told first) (end_goes first rules places leaf rows pending position idle t (rows_of_uses (uses_after uses last)) fine.0 fine.1)
            ∙ ends.whole (total parts last) (uses_after uses last) fine.2 ∙ sym (ap (finish_all first) (prepend-none (total parts last)))
      ]

  -- one more word, at a place
  pub place : (t : Bool) (word : Text) (words : List Text) (rest : Option Parts) → Goes t words rest
      → (parts : Parts) (uses : List Use) (last : Last) → Holds first places parts uses → Fits first places parts last
      → turn_fault (leaf_shape first rules) [] (standing parts uses last t) word ≡ place_fault rules (rows_of_uses uses) (pending_of last) (arg_by_index rules (length (total parts last).positional + 1))
      → walked rules [] (standing parts uses last t) word
      ≡ to_positional rules (arg_by_index rules (length (total parts last).positional + 1)) word (standing parts uses last t) (held_at (rows_of_uses uses) (pending_of last))
      → told first (outcome first rules (standing parts uses last t) (word ∷ words)) ≡ finish_all first (prepend (total parts last) (with_positional word rest))
  place t word words rest later parts uses last held fits turn next = go (slice_get places (length (total parts last).positional)) refl
    where
      go : (o : Option Text) → slice_get places (length (total parts last).positional) ≡ o
          → told first (outcome first rules (standing parts uses last t) (word ∷ words)) ≡ finish_all first (prepend (total parts last) (with_positional word rest))
      go None e =
          let none = past_places first rules places leaf (length (total parts last).positional) e (total_fits first rules places leaf parts uses last held fits) in
          ap (told first) (fails first rules (standing parts uses last t) word words kind.UnknownArgument [] (turn ∙ ap (place_fault rules (rows_of_uses uses) (pending_of last)) none))
          ∙ sym (ends.long (total parts last) word rest e)
      go (Some name) e =
          let k = length (total parts last).positional in
          let found = leaf.by_place k name e in
          let settles : turn_fault (leaf_shape first rules) [] (standing parts uses last t) word ≡ settle_fault rules false (held_at (rows_of_uses uses) (pending_of last)) =
          turn ∙ ap (place_fault rules (rows_of_uses uses) (pending_of last)) found ∙ place_settles rules (rows_of_uses uses) (pending_of last) (k + 1) name in
          elim (settle first rules places leaf parts uses last held fits) [
            | inl doomed ↦ ap (told first) (fails first rules (standing parts uses last t) word words doomed.0 [] (settles ∙ doomed.1)) ∙ sym (doomed.2 (with_positional word rest))
            | inr fine ↦
                let position : min ((k + 1) + 1) usize_max ≡ length ((total parts last).positional ++ word ∷ []) + 1 =
                omega (arith, length-append (total parts last).positional (word ∷ []), total_fits first rules places leaf parts uses last held fits, leaf.few) in
                let lands = next ∙ placed_next rules (rows_of_uses uses) (rows_of_uses (uses_after uses last)) (pending_of last) name word k (length ((total parts last).positional ++ word ∷ []) + 1) t found fine.1 position in
                ap (told first) (goes first rules (standing parts uses last t) (standing (total parts last) (uses_after uses last) (placed name word) t) word words (settles ∙ fine.0) lands)
                ∙ later (total parts last) (uses_after uses last) (placed name word) fine.2 e ∙ sym (ap (finish_all first) (prepend-word (total parts last) word rest))
          ]
