-- What holds of what is read, where it holds of its parts.
use Rattle.std.proofs.Common.{◌≡◌, refl, ap, subst, Bool, ℕ, suc, ◌+◌, ◌<◌, List, [], ◌∷◌, map, length, Option, Some, None, Result, Ok, Err}
use Rattle.std.{specs.Prelude.{IfOk, nat_lt, position}, specs.List.AllByRecursion, specs.Str.bytes_eq, proofs.lemmas.Bool.cond_both, proofs.lemmas.List.length-map, proofs.lemmas.List.Quantifiers.position-Some, proofs.lemmas.Result.IfOk-at_ok}
use Rattle.script_lines.{specs.declared.fault.ScriptKind.ScriptKind, specs.declared.fault.ScriptKind.TheVariants.{TooLong, UnknownName, UnknownColumn}, specs.declared.line.Line.Line, specs.Answers.◌>>=◌, specs.Grammar.KeepsRules, specs.Lines.{line_of, lines_of}, proofs.LinesKept.line_keeps_rules}
use Rattle.tick_model.specs.declared.plan.ColumnSpec.{ColumnSpec}
use Rattle.script_reader.{specs.declared.script.Script.Script, specs.Checks.{said, each, or_refused, node_named, column_named}, specs.Scripts.{nothing, after_line, after_lines, going_on, script_of}}

pub record Holds {X : Type 0} (P : X → Type 0) (read : Result X ScriptKind) : Type 0 where
  pub holds : IfOk read P

pub done : {X : Type 0} {P : X → Type 0} {x : X} → P x → Holds P (Ok x)
done holds = record { holds = holds }

-- one after the other
pub then : {X Y : Type 0} {P : X → Type 0} {Q : Y → Type 0} {read : Result X ScriptKind} → Holds P read → (f : X → Result Y ScriptKind) → ((x : X) → P x → Holds Q (f x)) → Holds Q (read >>= f)
then {read = Ok x} read f next = next x read.holds
then {read = Err kind} read f next = record { holds = tt }

pub whatever : {X Y : Type 0} {Q : Y → Type 0} (read : Result X ScriptKind) (f : X → Result Y ScriptKind) → ((x : X) → Holds Q (f x)) → Holds Q (read >>= f)
whatever (Ok x) f next = next x
whatever (Err kind) f next = record { holds = tt }

-- each of a list
pub each_read : {X Y : Type 0} {P : Y → Type 0} {f : X → Result Y ScriptKind} → ((x : X) → Holds P (f x)) → (xs : List X) → Holds (λ ys. (length ys ≡ length xs) × AllByRecursion P ys) (each f xs)
unfolding each
each_read step [] = done (refl, tt)
each_read step (x ∷ xs) = then (step x) _ (λ y holds. then (each_read step xs) _ (λ ys later. done (ap suc later.0, (holds, later.1))))

pub each_long : {X Y : Type 0} (f : X → Result Y ScriptKind) (xs : List X) → Holds (λ ys. length ys ≡ length xs) (each f xs)
unfolding each
each_long f [] = done refl
each_long f (x ∷ xs) = whatever (f x) _ (λ y. then (each_long f xs) _ (λ ys same. done (ap suc same)))

-- places by names
found_within : {X : Type 0} (kind : ScriptKind) (p : X → Bool) (xs : List X) (d : X) → Holds (λ i. i < length xs) (or_refused kind (position p xs))
found_within kind p xs d = go (position p xs) refl
  where
    go : (found : Option ℕ) → position p xs ≡ found → Holds (λ i. i < length xs) (or_refused kind found)
    go None e = record { holds = tt }
    go (Some i) e = done (position-Some p xs i d e).0

pub node_found : (names : List (List ℕ)) (name : List ℕ) → Holds (λ node. node < length names) (node_named names name)
unfolding node_named
node_found names name = found_within UnknownName (bytes_eq name) names []

pub column_found : (columns : List ColumnSpec) (name : List ℕ) → Holds (λ column. column < length columns) (column_named columns name)
unfolding column_named
column_found columns name =
    let names : List (List ℕ) = map (λ column. column.name) columns in
    subst (λ n. Holds (λ column. column < n) (or_refused UnknownColumn (position (bytes_eq name) names))) (length-map columns (λ column. column.name)) (found_within UnknownColumn (bytes_eq name) names [])

-- line after line
module _ (P : Script → Type 0) (step : (script : Script) (line : Line) → KeepsRules line → P script → Holds P (said script line)) where
  line_read : (script : Script) (line : List ℕ) → P script → Holds P (after_line script line)
  unfolding after_line
  line_read script line holds = go (line_of line) refl
    where
      go : (read : Result Line ScriptKind) → line_of line ≡ read → Holds P (read >>= said script)
      go (Ok what) e = step script what (line_keeps_rules line what e) holds
      go (Err kind) e = record { holds = tt }

  lines_read : (number : ℕ) (script : Script) (lines : List (List ℕ)) → P script → IfOk (after_lines number script lines) P
  unfolding after_lines
  lines_read number script [] holds = holds
  lines_read number script (line ∷ lines) holds = go (after_line script line) (line_read script line holds) (λ next. lines_read (number + 1) next lines)
    where
      go : (read : Result Script ScriptKind) → Holds P read → ((next : Script) → P next → IfOk (after_lines (number + 1) next lines) P) → IfOk (going_on number read (λ next. after_lines (number + 1) next lines)) P
      go (Ok next) kept later = later next kept.holds
      go (Err kind) kept later = tt

  pub script_read : P nothing → (bytes : List ℕ) (script : Script) → script_of bytes ≡ Ok script → P script
  unfolding script_of
  script_read start bytes script read =
      IfOk-at_ok P read (cond_both (nat_lt 1048576 (length bytes)) (Err (record { line = 0; kind = TooLong })) (after_lines 1 nothing (lines_of bytes)) (λ r. IfOk r P) (λ _. tt)
      (λ _. lines_read 1 nothing (lines_of bytes) start))
