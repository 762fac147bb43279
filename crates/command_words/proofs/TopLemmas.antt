-- `clap`'s walk over the first word: it enters the subcommand of this name, or refuses the words.
use Rattle.std.proofs.Common.{◌≡◌, ◌∙◌, inl, inr, Bool, true, false, refl, sym, ap, ap₂, arith, List, [], ◌∷◌, length, Option, Some, None, IsUtf8, codes, bytes_eq, cond, find, fold, is_some, if◌then◌else◌}
use Rattle.std.proofs.lemmas.Bool.{and_right, ne_eqb}
use Rattle.clap.{specs.Walk.{Names, Row, Rule, Text, Walk, answers_to, finished, idle, is_empty, nothing_held, rows_after, settled, stop_after, subcommand_met, walk, walk_from, walked}, specs.Simple.{App, Shape, entered, label_of, new_shape}, specs.Faults.{built_fault, check_fault, defaults_fault, entered_fault, flags_fault, level_fault, settle_fault, turn_fault, walk_fault}, specs.Kinds.{Kinds, or_else}, specs.declared.error.kind.ErrorKind.ErrorKind, proofs.FaultLemmas.stopped_fault, proofs.WalkLemmas.walk_stopped}
use Rattle.clap.specs.declared.error.kind.ErrorKind.TheVariants as kind
use Rattle.command_words.{specs.declared.command.Command.Command, specs.Found.command_in, specs.Program.{found_in, set_up}, proofs.LeafRules.{demo_rules, run_rules, watch_rules}, proofs.LeafSteps.{leaf_shape, passed}, proofs.PlaceLemmas.told, proofs.WordLooks.{IsBundle, IsEnd, IsLong, IsPlain, Look, look}}

-- the command as it is built
abbrev top_shape : Shape
top_shape = record (set_up (new_shape (codes "tick"))) { is_leaf = false; is_built = true }

abbrev names : Names
names = (codes "run", []) ∷ (codes "demo", []) ∷ (codes "watch", []) ∷ []

abbrev whole_app : App
whole_app = record { top = top_shape; subs = leaf_shape (codes "run") run_rules ∷ leaf_shape (codes "demo") demo_rules ∷ leaf_shape (codes "watch") watch_rules ∷ [] }

-- what the words make, by what is found of a fault
abbrev made_by : Kinds → Option (Text × List Row) → Option Command
made_by fault found = command_in (if is_empty fault then Some found else None)

abbrev stop_in : List Text → Option (Text × List Text)
stop_in words = stop_after [] names words

found_is : (words : List Text) → command_in (found_in words) ≡ made_by (built_fault whole_app nothing_held words) (entered whole_app (stop_in words))
found_is words = refl

not_empty : (k : ErrorKind) (ks : Kinds) (found : Option (Text × List Row)) → made_by (k ∷ ks) found ≡ None
not_empty k ks found =
    let full : is_empty (k ∷ ks) ≡ false = ne_eqb (length (k ∷ ks)) 0 (λ none. absurd (omega arith)) in
    ap (λ (b : Bool). command_in (if b then Some found else None)) full

-- the fault of a walk that stood there at its end
abbrev fault_at : Walk → Kinds → Kinds
fault_at w so_far =
    or_else so_far (or_else (entered_fault whole_app w.stopped) (or_else (settle_fault [] false w.held)
    (or_else (defaults_fault (settled [] w.held).rows []) (check_fault top_shape (finished [] w.held) (is_some (entered whole_app w.stopped))))))

-- ---- the name of a subcommand

abbrev stopped_at : Text → List Text → Walk
stopped_at name words = record (walk_from nothing_held) { stopped = Some (name, words) }

module _ (name : Text) (rules : List Rule) (met : subcommand_met names idle name ≡ Some name) (sub : find (λ s. answers_to name (label_of s)) whole_app.subs ≡ Some (leaf_shape name rules)) where
  enters : walked [] names (walk_from nothing_held) name ≡ stopped_at name []
  unfolding walked
  enters = rw met refl

  walks : (words : List Text) → walk [] names nothing_held (name ∷ words) ≡ stopped_at name words
  walks words = ap (λ (w : Walk). fold (walked [] names) w words) enters ∙ sym (walk_stopped [] names (walk_from nothing_held) name [] words)

  turns : turn_fault top_shape names (walk_from nothing_held) name ≡ []
  turns = rw met (ap (λ (b : Bool). or_else (cond b (kind.DisplayHelp ∷ kind.InvalidSubcommand ∷ []) []) []) (and_right (bytes_eq name (codes "help")) false refl))

  no_fault_yet : (words : List Text) → walk_fault top_shape names (walk_from nothing_held) (name ∷ words) ≡ []
  unfolding walk_fault
  no_fault_yet words =
      ap₂ (λ (f : Kinds) (w : Walk). or_else f (walk_fault top_shape names w words)) turns enters ∙ stopped_fault top_shape names (walk_from nothing_held) (name, []) words

  abbrev leaf_fault : List Text → Kinds
  leaf_fault words = level_fault (leaf_shape name rules) [] nothing_held words false []

  entered_is : (words : List Text) → entered whole_app (Some (name, words)) ≡ Some (name, rows_after rules [] words)
  entered_is words = rw sub refl

  below_is : (words : List Text) → entered_fault whole_app (Some (name, words)) ≡ leaf_fault words
  below_is words = rw sub refl

  or_none : (ks : Kinds) → or_else ks [] ≡ ks
  or_none [] = refl
  or_none (k ∷ ks) = refl

  whole_fault : (words : List Text) → built_fault whole_app nothing_held (name ∷ words) ≡ leaf_fault words
  unfolding defaults_fault
  whole_fault words =
      ap₂ fault_at (walks words) (no_fault_yet words)
      ∙ ap₂ (λ (below : Kinds) (found : Option (Text × List Row)). or_else below (check_fault top_shape [] (is_some found))) (below_is words) (entered_is words)
      ∙ or_none (leaf_fault words)

  told_if : (fault : Kinds) (rows : List Row) → made_by fault (Some (name, rows)) ≡ told name (passed fault rows)
  told_if [] rows = refl
  told_if (k ∷ ks) rows = not_empty k ks (Some (name, rows))

  pub subcommand_told : (words : List Text) → command_in (found_in (name ∷ words)) ≡ told name (passed (leaf_fault words) (rows_after rules [] words))
  subcommand_told words =
      found_is (name ∷ words) ∙ ap₂ made_by (whole_fault words) (ap (λ (w : Walk). entered whole_app w.stopped) (walks words) ∙ entered_is words)
      ∙ told_if (leaf_fault words) (rows_after rules [] words)

-- ---- any other word

module _ (word : Text) (words : List Text) (other : subcommand_met names idle word ≡ None) where
  turn_fails : (k : ErrorKind) (ks : Kinds) → turn_fault top_shape names (walk_from nothing_held) word ≡ k ∷ ks → walk_fault top_shape names (walk_from nothing_held) (word ∷ words) ≡ k ∷ ks
  unfolding walk_fault
  turn_fails k ks e = ap (λ (f : Kinds). or_else f (walk_fault top_shape names (walked [] names (walk_from nothing_held) word) words)) e

  made_none : (k : ErrorKind) (ks : Kinds) → walk_fault top_shape names (walk_from nothing_held) (word ∷ words) ≡ k ∷ ks → command_in (found_in (word ∷ words)) ≡ None
  made_none k ks e =
      found_is (word ∷ words) ∙ ap (λ (f : Kinds). made_by (fault_at (walk [] names nothing_held (word ∷ words)) f) (entered whole_app (stop_in (word ∷ words)))) e
      ∙ not_empty k ks (entered whole_app (stop_in (word ∷ words)))

  plain_none : IsPlain word → command_in (found_in (word ∷ words)) ≡ None
  plain_none l =
      let e : turn_fault top_shape names (walk_from nothing_held) word ≡ kind.UnknownArgument ∷ kind.InvalidSubcommand ∷ [] = rw (other, l.differs, l.long, l.short) refl in
      made_none kind.UnknownArgument (kind.InvalidSubcommand ∷ []) (turn_fails _ _ e)

  bundle_turn : IsBundle word → turn_fault top_shape names (walk_from nothing_held) word ≡ kind.UnknownArgument ∷ []
  unfolding flags_fault
  bundle_turn l = rw (other, l.differs, l.long, l.short, l.first) refl

  long_turn : IsLong word → turn_fault top_shape names (walk_from nothing_held) word ≡ kind.UnknownArgument ∷ []
  long_turn l = rw (other, l.differs, l.long) refl

-- two minus signs, after which no word has a place
abbrev trailing : Walk
trailing = record (walk_from nothing_held) { is_trailing = true }

end_next : (word : Text) → subcommand_met names idle word ≡ None → IsEnd word → walked [] names (walk_from nothing_held) word ≡ trailing
unfolding walked
end_next word other l = rw (other, l.is) refl

end_turn : (word : Text) → subcommand_met names idle word ≡ None → IsEnd word → turn_fault top_shape names (walk_from nothing_held) word ≡ []
end_turn word other l = rw (other, l.is) refl

trailing_none : (words : List Text) → made_by (fault_at (fold (walked [] names) trailing words) (walk_fault top_shape names trailing words)) (entered whole_app (fold (walked [] names) trailing words).stopped) ≡ None
unfolding walk_fault defaults_fault
trailing_none [] = refl
trailing_none (word ∷ words) = refl

end_none : (word : Text) (words : List Text) → subcommand_met names idle word ≡ None → IsEnd word → command_in (found_in (word ∷ words)) ≡ None
unfolding walk_fault
end_none word words other l =
    found_is (word ∷ words)
    ∙ ap₂ (λ (w : Walk) (f : Kinds). made_by (fault_at (fold (walked [] names) w words) (or_else f (walk_fault top_shape names w words))) (entered whole_app (fold (walked [] names) w words).stopped))
    (end_next word other l) (end_turn word other l)
    ∙ trailing_none words

pub other_none : (word : Text) (words : List Text) → IsUtf8 word → subcommand_met names idle word ≡ None → command_in (found_in (word ∷ words)) ≡ None
other_none word words text other = go (look word text)
  where
    go : Look word → command_in (found_in (word ∷ words)) ≡ None
    go (inl l) = end_none word words other l
    go (inr (inl l)) = plain_none word words other l
    go (inr (inr (inl l))) = made_none word words other _ _ (turn_fails word words other _ _ (bundle_turn word words other l))
    go (inr (inr (inr l))) = made_none word words other _ _ (turn_fails word words other _ _ (long_turn word words other l))

pub no_words : command_in (found_in []) ≡ None
unfolding walk_fault defaults_fault
no_words = refl

pub run_told : (words : List Text) → command_in (found_in (codes "run" ∷ words)) ≡ told (codes "run") (passed (level_fault (leaf_shape (codes "run") run_rules) [] nothing_held words false []) (rows_after run_rules [] words))
run_told words = subcommand_told (codes "run") run_rules refl refl words

pub demo_told : (words : List Text) → command_in (found_in (codes "demo" ∷ words)) ≡ told (codes "demo") (passed (level_fault (leaf_shape (codes "demo") demo_rules) [] nothing_held words false []) (rows_after demo_rules [] words))
demo_told words = subcommand_told (codes "demo") demo_rules refl refl words

pub watch_told : (words : List Text) → command_in (found_in (codes "watch" ∷ words)) ≡ told (codes "watch") (passed (level_fault (leaf_shape (codes "watch") watch_rules) [] nothing_held words false []) (rows_after watch_rules [] words))
watch_told words = subcommand_told (codes "watch") watch_rules refl refl words

pub met_none : (word : Text) → bytes_eq (codes "run") word ≡ false → bytes_eq (codes "demo") word ≡ false → bytes_eq (codes "watch") word ≡ false → subcommand_met names idle word ≡ None
met_none word run demo watch = rw (run, demo, watch) refl
