-- Parts so far with those of later words, and the parts that make no command.
use Rattle.std.proofs.Common.{◌≡◌, ◌∙◌, ◌&&◌, ◌||◌, ℕ, Bool, true, false, refl, sym, ap, ap₂, List, [], ◌∷◌, ◌++◌, cond, Option, Some, None, option_map, option_and_then, codes, bytes_eq, append_assoc, append-nil, subst, true≢false}
use Rattle.std.{specs.List.list_all, proofs.lemmas.Bool.and_left}
use Rattle.clap.specs.Walk.{Text}
use Rattle.command_words.{specs.declared.command.Command.Command, specs.declared.command.Task.Task, specs.Commands.{command_from, is_known, is_of_run, is_of_watch, one_of, setting, task_of, values_of, with_numbers, with_settings}, specs.Words.{Given, Parts, with_option, with_positional}, proofs.UseLemmas.bytes_same}

abbrev pub joined : Parts → Parts → Parts
joined parts later = record { options = parts.options ++ later.options; positional = parts.positional ++ later.positional }

-- the parts so far, and then those of the words that are left
abbrev pub prepend : Parts → Option Parts → Option Parts
prepend parts = option_map (joined parts)

abbrev pub given : Text → Text → Given
given name value = record { name = name; value = value }

abbrev pub add_option : Parts → Text → Text → Parts
add_option parts name value = record { options = parts.options ++ given name value ∷ []; positional = parts.positional }

abbrev pub add_word : Parts → Text → Parts
add_word parts word = record { options = parts.options; positional = parts.positional ++ word ∷ [] }

pub prepend-option : (parts : Parts) (name value : Text) (rest : Option Parts) → prepend parts (with_option name value rest) ≡ prepend (add_option parts name value) rest
prepend-option parts name value None = refl
prepend-option parts name value (Some later) =
    ap (λ (options : List Given). let whole : Parts = record { options = options; positional = parts.positional ++ later.positional } in Some whole)
    (sym (append_assoc parts.options (given name value ∷ []) later.options))

pub prepend-word : (parts : Parts) (word : Text) (rest : Option Parts) → prepend parts (with_positional word rest) ≡ prepend (add_word parts word) rest
prepend-word parts word None = refl
prepend-word parts word (Some later) =
    ap (λ (words : List Text). let whole : Parts = record { options = parts.options ++ later.options; positional = words } in Some whole)
    (sym (append_assoc parts.positional (word ∷ []) later.positional))

abbrev pub no_parts : Parts
no_parts = record { options = []; positional = [] }

pub prepend-none : (parts : Parts) → prepend parts (Some no_parts) ≡ Some parts
prepend-none parts =
    ap₂ (λ (options : List Given) (words : List Text). let whole : Parts = record { options = options; positional = words } in Some whole)
    (append-nil parts.options) (append-nil parts.positional)

-- ---- the command of parts

abbrev pub finish : Text → Parts → Option Command
finish first parts = with_settings first (task_of first parts.positional) parts.options

abbrev pub finish_all : Text → Option Parts → Option Command
finish_all first = option_and_then (finish first)

pub command_from-finish : (first : Text) (parts : Option Parts) → command_from first parts ≡ finish_all first parts
command_from-finish first None = refl
command_from-finish first (Some parts) = refl

-- ---- names of options

pub data Known : Text → Type 0 where
  workers : Known (codes "workers")
  callers : Known (codes "callers")
  snaps : Known (codes "snaps")
  attempts : Known (codes "attempts")
  every : Known (codes "every")

of_run : (name : Text) → is_of_run name ≡ true → Known name
of_run name is = go (bytes_eq name (codes "workers")) (bytes_eq name (codes "callers")) (bytes_eq name (codes "snaps")) (bytes_eq name (codes "attempts")) refl refl refl refl
  where
    go : (a b c d : Bool) → bytes_eq name (codes "workers") ≡ a → bytes_eq name (codes "callers") ≡ b → bytes_eq name (codes "snaps") ≡ c → bytes_eq name (codes "attempts") ≡ d → Known name
    go true b c d p q r s = subst Known (sym (bytes_same name _ p)) workers
    go false true c d p q r s = subst Known (sym (bytes_same name _ q)) callers
    go false false true d p q r s = subst Known (sym (bytes_same name _ r)) snaps
    go false false false true p q r s = subst Known (sym (bytes_same name _ s)) attempts
    go false false false false p q r s = absurd (true≢false (sym is ∙ rw (p, q, r, s) refl))

of_watch : (name : Text) → is_of_watch name ≡ true → Known name
of_watch name is = go (bytes_eq name (codes "workers")) (bytes_eq name (codes "every")) refl refl
  where
    go : (a b : Bool) → bytes_eq name (codes "workers") ≡ a → bytes_eq name (codes "every") ≡ b → Known name
    go true b p q = subst Known (sym (bytes_same name _ p)) workers
    go false true p q = subst Known (sym (bytes_same name _ q)) every
    go false false p q = absurd (true≢false (sym is ∙ rw (p, q) refl))

pub known : (first name : Text) → is_known first name ≡ true → Known name
known first name is = go (bytes_eq first (codes "watch")) refl
  where
    go : (b : Bool) → bytes_eq first (codes "watch") ≡ b → Known name
    go true e = of_watch name (sym (ap (λ (b : Bool). cond b (is_of_watch name) (is_of_run name)) e) ∙ is)
    go false e = of_run name (sym (ap (λ (b : Bool). cond b (is_of_watch name) (is_of_run name)) e) ∙ is)

-- the name of an option of some first word, and of this one
abbrev pub is_name : Text → Bool
is_name name = is_of_run name || bytes_eq name (codes "every")

pub name_is : (name : Text) → Known name → is_name name ≡ true
name_is name workers = refl
name_is name callers = refl
name_is name snaps = refl
name_is name attempts = refl
name_is name every = refl

pub record IsOption (first name : Text) : Type 0 where
  pub named : Known name
  pub taken : is_known first name ≡ true

pub option_is : (first name : Text) → is_known first name ≡ true → IsOption first name
option_is first name is = record { named = known first name is; taken = is }

-- ---- options that are refused

pub list_all-append : (p : Given → Bool) (xs ys : List Given) → list_all p ys ≡ false → list_all p (xs ++ ys) ≡ false
list_all-append p [] ys none = none
list_all-append p (x ∷ xs) ys none = go (p x) (list_all-append p xs ys none)
  where
    go : (b : Bool) → list_all p (xs ++ ys) ≡ false → (b && list_all p (xs ++ ys)) ≡ false
    go true h = h
    go false h = refl

abbrev all_known : Text → List Given → Bool
all_known first = list_all (λ option. is_known first option.name)

unknown_settings : (first : Text) (task : Option Task) (options : List Given) → all_known first options ≡ false → with_settings first task options ≡ None
unknown_settings first task options none = rw none refl

pub refuses_unknown : (first name value : Text) (parts : Parts) (rest : Option Parts) → is_known first name ≡ false → finish_all first (prepend parts (with_option name value rest)) ≡ None
refuses_unknown first name value parts None none = refl
refuses_unknown first name value parts (Some later) none =
    unknown_settings first (task_of first (parts.positional ++ later.positional)) (parts.options ++ given name value ∷ later.options)
    (list_all-append (λ option. is_known first option.name) parts.options (given name value ∷ later.options) (and_left (is_known first name) (all_known first later.options) none))

pub values_of-append : (name : Text) (xs ys : List Given) → values_of name (xs ++ ys) ≡ values_of name xs ++ values_of name ys
values_of-append name [] ys = refl
values_of-append name (x ∷ xs) ys = go (bytes_eq x.name name) refl (values_of-append name xs ys)
  where
    go : (b : Bool) → bytes_eq x.name name ≡ b → values_of name (xs ++ ys) ≡ values_of name xs ++ values_of name ys
        → values_of name ((x ∷ xs) ++ ys) ≡ values_of name (x ∷ xs) ++ values_of name ys
    go true e h = rw e (ap (λ vs. x.value ∷ vs) h)
    go false e h = rw e h

no_workers : (task : Option Task) (b c d e : Option ℕ) → with_numbers task None b c d e ≡ None
no_workers None b c d e = refl
no_workers (Some t) b c d e = refl

no_callers : (task : Option Task) (a c d e : Option ℕ) → with_numbers task a None c d e ≡ None
no_callers None a c d e = refl
no_callers (Some t) None c d e = refl
no_callers (Some t) (Some a) c d e = refl

no_snaps : (task : Option Task) (a b d e : Option ℕ) → with_numbers task a b None d e ≡ None
no_snaps None a b d e = refl
no_snaps (Some t) None b d e = refl
no_snaps (Some t) (Some a) None d e = refl
no_snaps (Some t) (Some a) (Some b) d e = refl

no_attempts : (task : Option Task) (a b c e : Option ℕ) → with_numbers task a b c None e ≡ None
no_attempts None a b c e = refl
no_attempts (Some t) None b c e = refl
no_attempts (Some t) (Some a) None c e = refl
no_attempts (Some t) (Some a) (Some b) None e = refl
no_attempts (Some t) (Some a) (Some b) (Some c) e = refl

no_every : (task : Option Task) (a b c d : Option ℕ) → with_numbers task a b c d None ≡ None
no_every None a b c d = refl
no_every (Some t) None b c d = refl
no_every (Some t) (Some a) None c d = refl
no_every (Some t) (Some a) (Some b) None d = refl
no_every (Some t) (Some a) (Some b) (Some c) None = refl
no_every (Some t) (Some a) (Some b) (Some c) (Some d) = refl

pub if_none : {X : Type 0} (b : Bool) (x : Option X) → x ≡ None → cond b x None ≡ None
if_none true x none = none
if_none false x none = refl

-- an option of which two values are given
twice_settings : (first : Text) (task : Option Task) (options : List Given) (name one other : Text) (more : List Text) → Known name → values_of name options ≡ one ∷ other ∷ more
    → with_settings first task options ≡ None
twice_settings first task options name one other more workers e =
    if_none (all_known first options) _ (ap (λ values. with_numbers task (one_of 1 64 1 values) (setting (codes "callers") 0 16 0 options) (setting (codes "snaps") 0 64 0 options) (setting (codes "attempts") 0 16 2 options) (setting (codes "every") 1 100000 1 options)) e
    ∙ no_workers task _ _ _ _)
twice_settings first task options name one other more callers e =
    if_none (all_known first options) _ (ap (λ values. with_numbers task (setting (codes "workers") 1 64 1 options) (one_of 0 16 0 values) (setting (codes "snaps") 0 64 0 options) (setting (codes "attempts") 0 16 2 options) (setting (codes "every") 1 100000 1 options)) e
    ∙ no_callers task _ _ _ _)
twice_settings first task options name one other more snaps e =
    if_none (all_known first options) _ (ap (λ values. with_numbers task (setting (codes "workers") 1 64 1 options) (setting (codes "callers") 0 16 0 options) (one_of 0 64 0 values) (setting (codes "attempts") 0 16 2 options) (setting (codes "every") 1 100000 1 options)) e
    ∙ no_snaps task _ _ _ _)
twice_settings first task options name one other more attempts e =
    if_none (all_known first options) _ (ap (λ values. with_numbers task (setting (codes "workers") 1 64 1 options) (setting (codes "callers") 0 16 0 options) (setting (codes "snaps") 0 64 0 options) (one_of 0 16 2 values) (setting (codes "every") 1 100000 1 options)) e
    ∙ no_attempts task _ _ _ _)
twice_settings first task options name one other more every e =
    if_none (all_known first options) _ (ap (λ values. with_numbers task (setting (codes "workers") 1 64 1 options) (setting (codes "callers") 0 16 0 options) (setting (codes "snaps") 0 64 0 options) (setting (codes "attempts") 0 16 2 options) (one_of 1 100000 1 values)) e
    ∙ no_every task _ _ _ _)

values_here : (name value : Text) (later : List Given) → bytes_eq name name ≡ true → values_of name (given name value ∷ later) ≡ value ∷ values_of name later
values_here name value later self = rw self refl

pub refuses_twice : (first name value other : Text) (parts : Parts) (rest : Option Parts) → bytes_eq name name ≡ true → Known name → values_of name parts.options ≡ other ∷ []
    → finish_all first (prepend parts (with_option name value rest)) ≡ None
refuses_twice first name value other parts None self is e = refl
refuses_twice first name value other parts (Some later) self is e =
    twice_settings first (task_of first (parts.positional ++ later.positional)) (parts.options ++ given name value ∷ later.options) name other value (values_of name later.options) is
    (values_of-append name parts.options (given name value ∷ later.options) ∙ ap₂ (λ (xs ys : List Text). xs ++ ys) e (values_here name value later.options self))
