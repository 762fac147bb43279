-- What the words after the program's name ask for.
--     command words      the command with its numbers, or none where the words are of no command
--     HasRanges command      its numbers are in their ranges
use Rattle.std.{specs.Prelude.{ℕ, ◌≤◌, ◌&&◌, ◌||◌, Bool, List, [], ◌∷◌, Option, Some, None, codes, filter, length, map, nat_le, option_map, if◌then◌else◌}, specs.List.list_all, specs.Str.{bytes_eq, all_ascii_digits}, specs.Str.Parse.digits_value}
use Rattle.command_words.{specs.declared.command.Command.Command, specs.declared.command.Task.Task, specs.declared.command.Task.TheVariants.{Run, Demo, Watch}, specs.Words.{Given, Parts, parts_of}}

-- the number that 1 to 9 digits spell, where it is in a range
abbrev pub is_numeral : List ℕ → Bool
is_numeral text = nat_le 1 (length text) && nat_le (length text) 9 && all_ascii_digits text

abbrev pub number_within : ℕ → ℕ → List ℕ → Option ℕ
number_within least most text =
    let number = digits_value 10 text in
    if is_numeral text && nat_le least number && nat_le number most then Some number else None

-- the options of a first word have these names, each at most once, and numbers in these ranges; one that is not given has its default
abbrev pub is_of_watch : List ℕ → Bool
is_of_watch name = bytes_eq name (codes "workers") || bytes_eq name (codes "every")

abbrev pub is_of_run : List ℕ → Bool
is_of_run name = bytes_eq name (codes "workers") || bytes_eq name (codes "callers") || bytes_eq name (codes "snaps") || bytes_eq name (codes "attempts")

abbrev pub is_known : List ℕ → List ℕ → Bool
is_known first name = if bytes_eq first (codes "watch") then is_of_watch name else is_of_run name

abbrev pub values_of : List ℕ → List Given → List (List ℕ)
values_of name options = map (λ option. option.value) (filter (λ option. bytes_eq option.name name) options)

abbrev pub one_of : ℕ → ℕ → ℕ → List (List ℕ) → Option ℕ
one_of least most default [] = Some default
one_of least most default (value ∷ []) = number_within least most value
one_of least most default (value ∷ other ∷ others) = None

abbrev pub setting : List ℕ → ℕ → ℕ → ℕ → List Given → Option ℕ
setting name least most default options = one_of least most default (values_of name options)

-- run SCRIPT FEED, demo STEPS, and watch SCRIPT FEED NAME FIRST COUNT
abbrev pub run_task : List (List ℕ) → Option Task
run_task (script ∷ feed ∷ []) = Some (Run script feed)
run_task _ = None

abbrev pub demo_task : List (List ℕ) → Option Task
demo_task (steps ∷ []) = option_map Demo (number_within 0 10000 steps)
demo_task _ = None

abbrev pub of_both : (ℕ → ℕ → Task) → Option ℕ → Option ℕ → Option Task
of_both make (Some first) (Some count) = Some (make first count)
of_both make _ _ = None

abbrev pub watch_task : List (List ℕ) → Option Task
watch_task (script ∷ feed ∷ node ∷ first ∷ count ∷ []) = of_both (Watch script feed node) (number_within 0 4194303 first) (number_within 1 4194304 count)
watch_task _ = None

abbrev pub task_of : List ℕ → List (List ℕ) → Option Task
task_of first positional =
    if bytes_eq first (codes "run") then run_task positional
    else (if bytes_eq first (codes "demo") then demo_task positional
    else (if bytes_eq first (codes "watch") then watch_task positional else None))

-- the task with its numbers
abbrev pub with_numbers : Option Task → Option ℕ → Option ℕ → Option ℕ → Option ℕ → Option ℕ → Option Command
with_numbers (Some task) (Some workers) (Some callers) (Some snaps) (Some attempts) (Some every) =
    Some (record { task = task; workers = workers; callers = callers; snaps = snaps; attempts = attempts; every = every })
with_numbers _ _ _ _ _ _ = None

abbrev pub with_settings : List ℕ → Option Task → List Given → Option Command
with_settings first task options =
    if list_all (λ option. is_known first option.name) options
    then with_numbers task (setting (codes "workers") 1 64 1 options) (setting (codes "callers") 0 16 0 options)
    (setting (codes "snaps") 0 64 0 options) (setting (codes "attempts") 0 16 2 options) (setting (codes "every") 1 100000 1 options)
    else None

abbrev pub command_from : List ℕ → Option Parts → Option Command
command_from first None = None
command_from first (Some parts) = with_settings first (task_of first parts.positional) parts.options

abbrev pub command : List (List ℕ) → Option Command
command [] = None
command (first ∷ others) = command_from first (parts_of others)

-- the numbers of a command are in their ranges
pub record HasRanges (of : Command) : Type 0 where
  pub some_workers : 1 ≤ of.workers
  pub few_workers : of.workers ≤ 64
  pub callers : of.callers ≤ 16
  pub snaps : of.snaps ≤ 64
  pub attempts : of.attempts ≤ 16
  pub some_steps : 1 ≤ of.every
  pub few_steps : of.every ≤ 100000
