-- Files in memory, and what a load of one answers.
use Rattle.std.{specs.Prelude.{◌≡◌, ◌||◌, ℕ, Bool, List, [], ◌∷◌, Option, None, Some, Result, Ok, Err, if◌then◌else◌, is_none, option_map, IsOk, length, map, nat_lt, String, string_bytes}, specs.Global.{Global, Vec}, specs.Str.bytes_eq}
use Rattle.tick_io.{specs.Calls.{Calls, next_fails}, specs.declared.inputs.LoadFault.LoadFault, specs.declared.inputs.LoadFault.TheVariants.{Memory, TooLong, Failed}}

-- a name and its bytes
pub record File : Type 0 where
  pub name : List ℕ
  pub bytes : List ℕ

-- files, the calls that were made of them, and the names that were asked for, where they are told
pub record Shelf : Type 0 where
  pub files : List File
  pub calls : Calls
  pub asked : Option (List (List ℕ))

-- a file as the program has it
abbrev pub file_of : String Global × Vec ℕ → File
file_of (name, bytes) = record { name = string_bytes name; bytes = bytes.items }

-- names as the program has them
abbrev pub names_told : Option (Vec (String Global)) → Option (List (List ℕ))
names_told asked = option_map (λ names. map string_bytes names.items) asked

-- the bytes of the first file of a name
abbrev pub content_of : List File → List ℕ → Option (List ℕ)
content_of [] name = None
content_of (file ∷ files) name = if bytes_eq file.name name then Some file.bytes else content_of files name

-- whether the next load of a name fails
abbrev pub load_fails : Shelf → List ℕ → Bool
load_fails shelf name = next_fails shelf.calls || is_none (content_of shelf.files name)

-- what is answered of the bytes that are there, of which at most so many are wanted
abbrev pub answer_of : Option (List ℕ) → ℕ → Result (List ℕ) LoadFault
answer_of None most = Err Failed
answer_of (Some bytes) most = if nat_lt most (length bytes) then Err (TooLong (length bytes)) else Ok bytes

-- the same, where the call may be one that is to fail
abbrev pub answer_unless : Bool → Option (List ℕ) → ℕ → Result (List ℕ) LoadFault
answer_unless to_fail content most = if to_fail then Err Failed else answer_of content most

-- what the next load of a name answers, unless memory runs out
abbrev pub answer_to : Shelf → List ℕ → ℕ → Result (List ℕ) LoadFault
answer_to shelf name most = answer_unless (next_fails shelf.calls) (content_of shelf.files name) most

-- this is the answer, or memory ran out while the bytes of a good one were copied
abbrev pub AnswersUnlessMemory : Result (Vec ℕ) LoadFault → Result (List ℕ) LoadFault → Type 0
AnswersUnlessMemory (Ok loaded) answer = answer ≡ Ok loaded.items
AnswersUnlessMemory (Err Memory) answer = IsOk answer
AnswersUnlessMemory (Err Failed) answer = answer ≡ Err Failed
AnswersUnlessMemory (Err (TooLong seen)) answer = answer ≡ Err (TooLong seen)
