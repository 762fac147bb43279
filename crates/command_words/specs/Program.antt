-- The command as `clap` is told of it, and what `clap`'s own account of the walk over the words finds by it.
--     program_app      three subcommands, of which two have the same options, and no help and no version
--     found_in words      what `clap` finds in the words, or none where it refuses them
use Rattle.std.specs.Prelude.{List, Option, Some, None, true, codes, if◌then◌else◌}
use Rattle.clap.{specs.Walk.{Row, Rule, Text, is_empty}, specs.Simple.{App, Shape, new_app, new_rule, on_top, subcommand_of, with_rule, with_subcommand}, specs.Faults.fault_of}

-- a positional word, which has to be there
abbrev pub word_rule : Text → Rule
word_rule name = record (new_rule name) { required = true }

-- an option with a value, which may be left out
abbrev pub option_rule : Text → Rule
option_rule name = record (new_rule name) { long = Some name }

abbrev pub with_option_rules : App → App
with_option_rules app = with_rule (with_rule (with_rule (with_rule app
    (option_rule (codes "workers")))
    (option_rule (codes "callers")))
    (option_rule (codes "snaps")))
    (option_rule (codes "attempts"))

abbrev pub with_file_rules : App → App
with_file_rules app = with_rule (with_rule app (word_rule (codes "script"))) (word_rule (codes "feed"))

abbrev pub run_app : App
run_app = with_option_rules (with_file_rules (new_app (codes "run")))

abbrev pub demo_app : App
demo_app = with_option_rules (with_rule (new_app (codes "demo")) (word_rule (codes "steps")))

abbrev pub with_place_rules : App → App
with_place_rules app = with_rule (with_rule (with_rule app
    (word_rule (codes "name")))
    (word_rule (codes "first")))
    (word_rule (codes "count"))

abbrev pub watch_app : App
watch_app = with_rule (with_rule (with_place_rules (with_file_rules (new_app (codes "watch")))) (option_rule (codes "workers"))) (option_rule (codes "every"))

-- every word is an argument, one of the subcommands is required, and there is no help and no version
abbrev pub set_up : Shape → Shape
set_up shape = record shape {
  no_binary_name = true;
  disable_help_flag = true;
  disable_help_subcommand = true;
  disable_version_flag = true;
  subcommand_required = true;
}

abbrev pub bare_app : App
bare_app = on_top set_up (new_app (codes "tick"))

abbrev pub program_app : App
program_app = with_subcommand (with_subcommand (with_subcommand bare_app run_app.top) demo_app.top) watch_app.top

-- the subcommand with what was found for it
abbrev pub found_in : List Text → Option (Option (Text × List Row))
found_in words = if is_empty (fault_of program_app words) then Some (subcommand_of program_app words) else None
