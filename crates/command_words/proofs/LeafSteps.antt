-- One word more in `clap`'s walk over the words of a subcommand.
use Rattle.std.proofs.Common.{◌≡◌, ◌∙◌, ℕ, Bool, true, false, not, refl, ap, List, [], ◌∷◌, Option, Some, None, fold}
use Rattle.std.{specs.List.list_any, specs.Option.option_map_or}
use Rattle.clap.{specs.Walk.{Held, Row, Rule, Text, Waiting, Walk, arg_by_index, finished, idle, nothing_held, option, positional, rows_after, settled, settled_rows, subcommand_met, to_positional, used, walked}, specs.Simple.{Shape, new_shape}, specs.Takes.is_given, specs.Faults.{check_fault, defaults_fault, flags_fault, level_fault, positional_fault, react_fault, settle_fault, turn_fault, walk_fault}, specs.Kinds.{Kinds, check_kinds, or_else}, specs.declared.error.kind.ErrorKind.ErrorKind}
use Rattle.clap.specs.declared.error.kind.ErrorKind.TheVariants as kind
use Rattle.command_words.{specs.Commands.is_known, proofs.LeafRules.{IsLeaf, defaults_kept, defaults_pass, option_taker}, proofs.PartLemmas.IsOption, proofs.UseLemmas.bytes_self, proofs.WordLooks.{IsBundle, IsEnd, IsLong, IsPlain}}

-- what was made, where nothing failed
abbrev pub passed : {X : Type 0} → Kinds → X → Option X
passed [] x = Some x
passed (k ∷ ks) x = None

-- a subcommand with these arguments, as it is built
abbrev pub leaf_shape : Text → List Rule → Shape
leaf_shape name rules = record (new_shape name) {
  rules = rules;
  no_binary_name = true;
  disable_help_flag = true;
  disable_help_subcommand = true;
  disable_version_flag = true;
  is_built = true;
}

abbrev pub Pending : Type 0
Pending = Option (Text × List Text)

abbrev pub held_at : List Row → Pending → Held
held_at rows pending = record { rows = rows; pending = pending; skip = 0 }

-- where the walk stands
abbrev pub at : List Row → Pending → Waiting → ℕ → Bool → Walk
at rows pending waiting position is_trailing = record { held = held_at rows pending; waiting = waiting; position = position; is_trailing = is_trailing; stopped = None }

-- past the words, where a held use is to pass and then what is required is to be there
abbrev pub end_fault : Text → List Rule → Held → Kinds
end_fault name rules h = or_else (settle_fault rules false h)
    (or_else (defaults_fault (settled rules h).rows rules) (check_fault (leaf_shape name rules) (finished rules h) false))

-- what a walk over the words that are left comes to
abbrev pub outcome : Text → List Rule → Walk → List Text → Option (List Row)
outcome name rules w words =
    let end = (fold (walked rules []) w words).held in
    passed (or_else (walk_fault (leaf_shape name rules) [] w words) (end_fault name rules end)) (finished rules end)

-- the rows, where a row has each of the names
abbrev pub complete : List Text → List Row → Option (List Row)
complete places found = passed (check_kinds false false (list_any (λ place. not (is_given place found)) places)) found

pub outcome_whole : (name : Text) (rules : List Rule) (words : List Text)
    → passed (level_fault (leaf_shape name rules) [] nothing_held words false []) (rows_after rules [] words) ≡ outcome name rules (at [] None idle 1 false) words
outcome_whole name rules words = refl

pub fails : (name : Text) (rules : List Rule) (w : Walk) (word : Text) (words : List Text) (k : ErrorKind) (ks : Kinds) → turn_fault (leaf_shape name rules) [] w word ≡ k ∷ ks
    → outcome name rules w (word ∷ words) ≡ None
unfolding walk_fault
fails name rules w word words k ks e =
    let next = walked rules [] w word in
    let end = (fold (walked rules []) next words).held in
    ap (λ (f : Kinds). passed (or_else (or_else f (walk_fault (leaf_shape name rules) [] next words)) (end_fault name rules end)) (finished rules end)) e

pub goes : (name : Text) (rules : List Rule) (w next : Walk) (word : Text) (words : List Text) → turn_fault (leaf_shape name rules) [] w word ≡ [] → walked rules [] w word ≡ next
    → outcome name rules w (word ∷ words) ≡ outcome name rules next words
unfolding walk_fault
goes name rules w next word words e f =
    let then : Walk → List Text → Option (List Row) = outcome name rules in
    let end = (fold (walked rules []) (walked rules [] w word) words).held in
    ap (λ (g : Kinds). passed (or_else (or_else g (walk_fault (leaf_shape name rules) [] (walked rules [] w word) words)) (end_fault name rules end)) (finished rules end)) e
    ∙ ap (λ (v : Walk). then v words) f

-- a word that goes to a place settles what is pending, and is refused where there is no place
abbrev pub place_fault : List Rule → List Row → Pending → Option Rule → Kinds
place_fault rules rows pending found = option_map_or (λ a. positional_fault rules false a (held_at rows pending)) found (kind.UnknownArgument ∷ [])

no_subcommand : (waiting : Waiting) (word : Text) → subcommand_met [] waiting word ≡ None
no_subcommand idle word = refl
no_subcommand (option name) word = refl
no_subcommand positional word = refl

module _ (name : Text) (rules : List Rule) (places : List Text) (leaf : IsLeaf name rules places) (rows : List Row) (pending : Pending) (position : ℕ) where
  -- ---- two minus signs

  pub end_passes : (waiting : Waiting) (word : Text) → IsEnd word → turn_fault (leaf_shape name rules) [] (at rows pending waiting position false) word ≡ []
  end_passes waiting word l = rw (no_subcommand waiting word, l.is) refl

  pub end_next : (waiting : Waiting) (word : Text) → IsEnd word → walked rules [] (at rows pending waiting position false) word ≡ at rows pending waiting position true
  unfolding walked
  end_next waiting word l = rw (no_subcommand waiting word, l.is) refl

  -- ---- a word that goes to a place

  pub trailing_turn : (waiting : Waiting) (word : Text) → turn_fault (leaf_shape name rules) [] (at rows pending waiting position true) word ≡ place_fault rules rows pending (arg_by_index rules position)
  trailing_turn waiting word = refl

  pub trailing_next : (waiting : Waiting) (word : Text)
      → walked rules [] (at rows pending waiting position true) word ≡ to_positional rules (arg_by_index rules position) word (at rows pending waiting position true) (held_at rows pending)
  unfolding walked
  trailing_next waiting word = refl

  pub plain_turn : (word : Text) → IsPlain word → turn_fault (leaf_shape name rules) [] (at rows pending idle position false) word ≡ place_fault rules rows pending (arg_by_index rules position)
  plain_turn word l = rw (l.differs, l.long, l.short) refl

  pub plain_next : (word : Text) → IsPlain word
      → walked rules [] (at rows pending idle position false) word ≡ to_positional rules (arg_by_index rules position) word (at rows pending idle position false) (held_at rows pending)
  unfolding walked
  plain_next word l = rw (l.differs, l.long, l.short) refl

  -- ---- a flag word

  pub bundle_fails : (waiting : Waiting) (word : Text) → IsBundle word → turn_fault (leaf_shape name rules) [] (at rows pending waiting position false) word ≡ kind.UnknownArgument ∷ []
  unfolding flags_fault
  bundle_fails waiting word l = rw (no_subcommand waiting word, l.differs, l.long, l.short, l.first, leaf.no_short l.char) refl

  pub unknown_fails : (waiting : Waiting) (word : Text) (l : IsLong word) → is_known name l.name ≡ false
      → turn_fault (leaf_shape name rules) [] (at rows pending waiting position false) word ≡ kind.UnknownArgument ∷ []
  unknown_fails waiting word l none = rw (no_subcommand waiting word, l.differs, l.long, leaf.no_long l.name none) refl

  pub value_turn : (waiting : Waiting) (word value : Text) (l : IsLong word) → IsOption name l.name → l.value ≡ Some value
      → turn_fault (leaf_shape name rules) [] (at rows pending waiting position false) word ≡ or_else (react_fault rules false (option_taker l.name) (value ∷ []) (held_at rows pending)) []
  value_turn waiting word value l is some = rw (no_subcommand waiting word, l.differs, l.long, some, leaf.by_long l.name is) refl

  pub value_next : (word value : Text) (l : IsLong word) → IsOption name l.name → l.value ≡ Some value
      → walked rules [] (at rows pending idle position false) word ≡ at (used (option_taker l.name) (value ∷ []) (settled_rows rules pending rows)) None idle position false
  unfolding walked
  value_next word value l is some = rw (l.differs, l.long, some, leaf.by_long l.name is) refl

  pub name_turn : (waiting : Waiting) (word : Text) (l : IsLong word) → IsOption name l.name → l.value ≡ None
      → turn_fault (leaf_shape name rules) [] (at rows pending waiting position false) word ≡ or_else (settle_fault rules false (held_at rows pending)) []
  name_turn waiting word l is none = rw (no_subcommand waiting word, l.differs, l.long, none, leaf.by_long l.name is) refl

  pub name_next : (word : Text) (l : IsLong word) → IsOption name l.name → l.value ≡ None
      → walked rules [] (at rows pending idle position false) word ≡ at (settled_rows rules pending rows) (Some (l.name, [])) (option l.name) position false
  unfolding walked
  name_next word l is none = rw (l.differs, l.long, none, leaf.by_long l.name is) refl

  -- ---- the end

  pub end_fails : (waiting : Waiting) (is_trailing : Bool) (k : ErrorKind) (ks : Kinds) → settle_fault rules false (held_at rows pending) ≡ k ∷ ks
      → outcome name rules (at rows pending waiting position is_trailing) [] ≡ None
  unfolding walk_fault
  end_fails waiting is_trailing k ks e =
      let h = held_at rows pending in
      ap (λ (f : Kinds). passed (or_else f (or_else (defaults_fault (settled rules h).rows rules) (check_fault (leaf_shape name rules) (finished rules h) false))) (finished rules h)) e

  pub end_goes : (waiting : Waiting) (is_trailing : Bool) (found : List Row) → settle_fault rules false (held_at rows pending) ≡ [] → settled_rows rules pending rows ≡ found
      → outcome name rules (at rows pending waiting position is_trailing) [] ≡ complete places found
  unfolding walk_fault
  end_goes waiting is_trailing found e f =
      let h = held_at rows pending in
      ap (λ (g : Kinds). passed (or_else g (or_else (defaults_fault (settled rules h).rows rules) (check_fault (leaf_shape name rules) (finished rules h) false))) (finished rules h)) e
      ∙ ap (λ (g : Kinds). passed (or_else g (check_fault (leaf_shape name rules) (finished rules h) false)) (finished rules h)) (defaults_pass (settled rules h).rows rules leaf.defaults)
      ∙ ap (λ (rs : List Row). passed (check_fault (leaf_shape name rules) rs false) rs) (defaults_kept (settled rules h).rows rules leaf.defaults ∙ f)
      ∙ ap (λ (b : Bool). passed (check_kinds false false b) found) (leaf.required found)

module _ (name : Text) (rules : List Rule) (places : List Text) (leaf : IsLeaf name rules places) (rows : List Row) (position : ℕ) where
  -- ---- the word after an option

  pub taken_passes : (option_name word : Text) → IsPlain word → turn_fault (leaf_shape name rules) [] (at rows (Some (option_name, [])) (option option_name) position false) word ≡ []
  taken_passes option_name word l = rw (l.differs, l.long, l.short) refl

  pub taken_next : (option_name word : Text) → IsOption name option_name → IsPlain word
      → walked rules [] (at rows (Some (option_name, [])) (option option_name) position false) word ≡ at rows (Some (option_name, word ∷ [])) idle position false
  unfolding walked
  taken_next option_name word is l = rw (l.differs, l.long, l.short, leaf.by_name option_name is, bytes_self option_name) refl
