-- What the entries that `clap` found for a subcommand make.
--     command_in found      the command, or none where the words are of no command
use Rattle.std.{specs.Prelude.{ℕ, List, Option, Some, None, codes, option_and_then, option_map, if◌then◌else◌}, specs.Str.bytes_eq}
use Rattle.clap.specs.Walk.{Row, Text, first_of}
use Rattle.command_words.{specs.Commands.{number_within, of_both, with_numbers}, specs.declared.command.Command.Command, specs.declared.command.Task.Task, specs.declared.command.Task.TheVariants.{Run, Demo, Watch}}

-- the number that an option gives, or its default
abbrev pub number_or : ℕ → ℕ → ℕ → Option Text → Option ℕ
number_or least most default None = Some default
number_or least most default (Some value) = number_within least most value

abbrev pub found_setting : Text → ℕ → ℕ → ℕ → List Row → Option ℕ
found_setting name least most default rows = number_or least most default (first_of name rows)

abbrev pub run_of : Option Text → Option Text → Option Task
run_of (Some script) (Some feed) = Some (Run script feed)
run_of _ _ = None

abbrev pub found_run : List Row → Option Task
found_run rows = run_of (first_of (codes "script") rows) (first_of (codes "feed") rows)

abbrev pub found_number : ℕ → ℕ → Option Text → Option ℕ
found_number least most = option_and_then (number_within least most)

abbrev pub demo_of : Option Text → Option Task
demo_of steps = option_map Demo (found_number 0 10000 steps)

abbrev pub found_demo : List Row → Option Task
found_demo rows = demo_of (first_of (codes "steps") rows)

abbrev pub watch_of : Option Text → Option Text → Option Text → Option Text → Option Text → Option Task
watch_of (Some script) (Some feed) (Some node) first count = of_both (Watch script feed node) (found_number 0 4194303 first) (found_number 1 4194304 count)
watch_of _ _ _ _ _ = None

abbrev pub found_watch : List Row → Option Task
found_watch rows =
    watch_of (first_of (codes "script") rows) (first_of (codes "feed") rows) (first_of (codes "name") rows)
    (first_of (codes "first") rows) (first_of (codes "count") rows)

abbrev pub found_task : Text → List Row → Option Task
found_task name rows =
    if bytes_eq name (codes "run") then found_run rows
    else (if bytes_eq name (codes "demo") then found_demo rows
    else (if bytes_eq name (codes "watch") then found_watch rows else None))

abbrev pub with_found_numbers : Option Task → List Row → Option Command
with_found_numbers task rows =
    with_numbers task (found_setting (codes "workers") 1 64 1 rows) (found_setting (codes "callers") 0 16 0 rows)
    (found_setting (codes "snaps") 0 64 0 rows) (found_setting (codes "attempts") 0 16 2 rows) (found_setting (codes "every") 1 100000 1 rows)

abbrev pub command_found : Text → List Row → Option Command
command_found name rows = with_found_numbers (found_task name rows) rows

abbrev pub command_of_subcommand : Option (Text × List Row) → Option Command
command_of_subcommand = option_and_then (λ named. command_found named.0 named.1)

abbrev pub command_in : Option (Option (Text × List Row)) → Option Command
command_in = option_and_then command_of_subcommand
