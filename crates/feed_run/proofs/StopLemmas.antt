-- What is found part by part, and why there is no run.
use Rattle.std.proofs.Common.{◌≡◌, ℕ, ◌<◌, List, [], ◌∷◌, ◌++◌, Bool, true, false, Option, Some, None, Result, Ok, Err, refl, ap, ◌∙◌, length}
use Rattle.std.{specs.Prelude.{◌||◌, IsTrue, IsSomeAnd, option_map}, specs.List.list_any, specs.Str.bytes_eq, proofs.lemmas.Bool.or_right}
use Rattle.feed_run.{specs.declared.refusal.Refusal.Refusal, specs.declared.refusal.LoadStop.LoadStop, specs.declared.refusal.LoadStop.TheVariants.{Memory, Unread, Refused}, specs.Found.{Found, after}, specs.Headline.IsOneOf, specs.Stops.Reads}

pub one_of_later : (name first : List ℕ) (others : List (List ℕ)) → IsOneOf others name → IsOneOf (first ∷ others) name
one_of_later name first others is = or_right (bytes_eq name first) (list_any (bytes_eq name) others) is

pub one_of_back : (name : List ℕ) (front back : List (List ℕ)) → IsOneOf back name → IsOneOf (front ++ back) name
one_of_back name [] back is = is
one_of_back name (first ∷ front) back is = one_of_later name first (front ++ back) (one_of_back name front back is)

pub one_of_front : (name : List ℕ) (front back : List (List ℕ)) → IsOneOf front name → IsOneOf (front ++ back) name
one_of_front name [] back is = cc
one_of_front name (first ∷ front) back is =
    (elim (bytes_eq name first) as (λ b. (b || list_any (bytes_eq name) front) ≡ true → (b || list_any (bytes_eq name) (front ++ back)) ≡ true) [
      | true ↦ λ e. refl
      | false ↦ λ e. one_of_front name front back e
    ]) is

module _ (told : Bool) (failed : List ℕ → Type 0) where
  -- the value is there, and more is read
  pub reads_on : {X Y Z W : Type 0} (earlier : List ℕ → Type 0) (read later : List ℕ → Type 0) (found : Found Y) (next : Y → Found W) (view : X → Y) (end : Z → W) (value : X) (result : Result Z LoadStop) → (IsTrue told → found ≡ Some (Ok (view value))) → ((name : List ℕ) → earlier name → failed name) → ((name : List ℕ) → IsTrue told → later name → read name) → Reads told earlier later (next (view value)) end result → Reads told failed read (after found next) end result
  reads_on earlier read later found next view end value (Ok given) is wider more reads = λ t. ap (λ f. after f next) (is t) ∙ reads t
  reads_on earlier read later found next view end value (Err Memory) is wider more reads = tt
  reads_on earlier read later found next view end value (Err (Unread name)) is wider more reads = (wider name reads.0, λ t. more name t (reads.1 t))
  reads_on earlier read later found next view end value (Err (Refused refusal)) is wider more reads = λ t. ap (λ f. after f next) (is t) ∙ reads t

  -- the value is not there
  pub reads_stopped : {X Y Z W : Type 0} (first read : List ℕ → Type 0) (found : Found Y) (next : Y → Found W) (view : X → Y) (end : Z → W) (stop : LoadStop) → Reads told failed first found view (Err stop) → ((name : List ℕ) → IsTrue told → first name → read name) → Reads told failed read (after found next) end (Err stop)
  reads_stopped first read found next view end Memory reads more = tt
  reads_stopped first read found next view end (Unread name) reads more = (reads.0, λ t. more name t (reads.1 t))
  reads_stopped first read found next view end (Refused refusal) reads more = λ t. ap (λ f. after f next) (reads t)

  -- a file was too long
  pub long_file : {Y : Type 0} (most : ℕ) (content : Option (List ℕ)) (of : List ℕ → Result Y Refusal) (refusal : Refusal) → ((bytes : List ℕ) → most < length bytes → of bytes ≡ Err refusal) → IsSomeAnd content (λ bytes. most < length bytes) → option_map of content ≡ Some (Err refusal)
  long_file most None of refusal long loads = absurd loads
  long_file most (Some bytes) of refusal long loads = ap Some (long bytes loads)
