-- What is known of a deque of node numbers.
--     log parts pushed taken      what a pass knows: its parts, the numbers that were pushed with it, and those that were taken with it
--     IsTallied items logs      the rule: every number that was pushed was taken once or is there, however the numbers are weighed
--     IsBalanced items logs      each number was pushed as often as it was taken and is there
--     IsTakenOnce logs      each number was taken at most as often as it was pushed
--     IsPushed old new number      the number was pushed, and nothing else was done
--     IsTaken old new number      the number was taken, and nothing else was done
--     IsEven log      as many numbers were taken as were pushed
--     IsSameDeque old new      the same deque, with as many parts
--     IsRested deque      all parts are here, and nothing was pushed or taken
--     IsEmpty rule deque      whatever the deque holds under the rule, it is nothing
use Rattle.std.{specs.Prelude.{◌≡◌, ℕ, ◌+◌, ◌≤◌, List, [], ◌∷◌, ◌++◌, length, ◌==◌, cond, Option, Some, None}, specs.declared.alloc.Global.Global}
use mathlib.Core.Option.{some}
use lib.ListN.{get_elem?}
use Rattle.crossbeam_deque.{specs.declared.handles.Worker.Worker, specs.Tasks.Learns, specs.Handles.{Pass, view, worker_deque, worker_port, worker_view}}
use Rattle.steal_workers.{specs.declared.deques.Log.Log, specs.declared.deques.Tally.Tally}

abbrev pub log : ℕ → List ℕ → List ℕ → Log
log parts pushed taken = record { parts = parts; pushed = pushed; taken = taken }

-- the weights of the numbers, added up
abbrev pub weigh : (ℕ → ℕ) → List ℕ → ℕ
weigh h [] = 0
weigh h (x ∷ xs) = h x + weigh h xs

-- a number of each log, added up
abbrev pub total : (Log → ℕ) → List Log → ℕ
total f [] = 0
total f (v ∷ vs) = f v + total f vs

abbrev pub IsBlank : Log → Type 0
IsBlank v = (v.pushed ≡ []) × (v.taken ≡ [])

abbrev pub AllBlank : List Log → Type 0
AllBlank logs = (port : ℕ) (v : Log) → get_elem? logs port ≡ some v → IsBlank v

-- a log without parts has nothing
abbrev pub IsIdle : Log → Type 0
IsIdle v = v.parts ≡ 0 → IsBlank v

abbrev pub AllIdle : List Log → Type 0
AllIdle logs = (port : ℕ) (v : Log) → get_elem? logs port ≡ some v → IsIdle v

pub record IsTallied (items : List ℕ) (logs : List Log) : Type 0 where
  pub parts : total (λ (v : Log). v.parts) logs ≡ 1024
  pub balance : (h : ℕ → ℕ) → total (λ (v : Log). weigh h v.pushed) logs ≡ total (λ (v : Log). weigh h v.taken) logs + weigh h items
  pub idle : AllIdle logs

abbrev pub IsEven : Log → Type 0
IsEven v = length v.pushed ≡ length v.taken

abbrev pub IsPushed : Log → Log → ℕ → Type 0
IsPushed old new n = new ≡ log old.parts (old.pushed ++ n ∷ []) old.taken

abbrev pub IsTaken : Log → Log → ℕ → Type 0
IsTaken old new n = new ≡ log old.parts old.pushed (old.taken ++ n ∷ [])

-- how often the number stands in the list
abbrev pub times : ℕ → List ℕ → ℕ
times n xs = weigh (λ m. cond (m == n) 1 0) xs

abbrev pub IsBalanced : List ℕ → List Log → Type 0
IsBalanced items logs = (n : ℕ) → total (λ (v : Log). times n v.pushed) logs ≡ total (λ (v : Log). times n v.taken) logs + times n items

abbrev pub IsTakenOnce : List Log → Type 0
IsTakenOnce logs = (n : ℕ) → total (λ (v : Log). times n v.taken) logs ≤ total (λ (v : Log). times n v.pushed) logs

abbrev pub Deque : Type 0
Deque = Worker ℕ Global Log Tally

abbrev pub IsSameDeque : Deque → Deque → Type 0
IsSameDeque old new = (worker_deque new ≡ worker_deque old) × ((worker_view new).parts ≡ (worker_view old).parts)

abbrev pub IsRested : Deque → Type 0
IsRested deque = worker_view deque ≡ log 1024 [] []

abbrev pub IsEmpty : (List ℕ → List Log → Type 0) → Deque → Type 0
IsEmpty rule deque = Learns rule (worker_port deque) (worker_view deque) (λ items. items ≡ [])

-- what a pass knows, where there is one
abbrev pub pass_log : Option (Pass ℕ Log Global) → Log
pass_log None = log 0 [] []
pass_log (Some pass) = view pass
