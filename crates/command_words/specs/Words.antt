-- The words after the first: options with their values, and positional words.
--     parts_of words      the parts, or none where a word is neither
use Rattle.std.{specs.Prelude.{ℕ, ◌==◌, Bool, true, not, List, [], ◌∷◌, Option, Some, None, codes, option_map, if◌then◌else◌}, specs.Str.bytes_eq}

-- an option with its value
pub record Given : Type 0 where
  pub name : List ℕ
  pub value : List ℕ

-- options and positional words, each in order
pub record Parts : Type 0 where
  pub options : List Given
  pub positional : List (List ℕ)

-- a word that does not begin with a minus sign, or is one alone
abbrev pub is_positional : List ℕ → Bool
is_positional [] = true
is_positional (first ∷ []) = true
is_positional (first ∷ second ∷ others) = not (first == 45)

-- what follows a minus sign
abbrev pub after_minus : List ℕ → Option (List ℕ)
after_minus [] = None
after_minus (first ∷ others) = if first == 45 then Some others else None

-- what stands before the first equals sign, and what stands after it where there is one
abbrev pub before_byte : ℕ → List ℕ × Option (List ℕ) → List ℕ × Option (List ℕ)
before_byte byte (name, value) = (byte ∷ name, value)

abbrev pub name_and_value : List ℕ → List ℕ × Option (List ℕ)
name_and_value [] = ([], None)
name_and_value (byte ∷ bytes) = if byte == 61 then ([], Some bytes) else before_byte byte (name_and_value bytes)

-- --NAME, or --NAME=VALUE
abbrev pub option_after : Option (List ℕ) → Option (List ℕ × Option (List ℕ))
option_after None = None
option_after (Some text) = option_map name_and_value (after_minus text)

abbrev pub option_of : List ℕ → Option (List ℕ × Option (List ℕ))
option_of word = option_after (after_minus word)

-- one more part in front of the later ones
abbrev pub with_option : List ℕ → List ℕ → Option Parts → Option Parts
with_option name value = option_map (λ later. record { options = record { name = name; value = value } ∷ later.options; positional = later.positional })

abbrev pub with_positional : List ℕ → Option Parts → Option Parts
with_positional word = option_map (λ later. record { options = later.options; positional = word ∷ later.positional })

-- what an option's word makes of the words after it, which may begin with its value
abbrev pub after_option : Option (List ℕ × Option (List ℕ)) → (Option (List ℕ) → Option Parts) → Option Parts
after_option None later = None
after_option (Some (name, None)) later = later (Some name)
after_option (Some (name, Some value)) later = with_option name value (later None)

-- The words are taken from left to right, each after the option whose value it is to be, if there is one. After a word of two minus signs,
-- each word is positional.
abbrev pub parts_after : Option (List ℕ) → List (List ℕ) → Option Parts
parts_after None [] = Some (record { options = []; positional = [] })
parts_after (Some name) [] = None
parts_after (Some name) (word ∷ words) = if is_positional word then with_option name word (parts_after None words) else None
parts_after None (word ∷ words) =
    if bytes_eq word (codes "--") then Some (record { options = []; positional = words })
    else (if is_positional word then with_positional word (parts_after None words)
    else after_option (option_of word) (λ name. parts_after name words))

abbrev pub parts_of : List (List ℕ) → Option Parts
parts_of = parts_after None
