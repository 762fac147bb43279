use Rattle.std.proofs.Common.{◌≡◌, ◌∙◌, sym, ap, map, Some, None, option_map}
use Rattle.std.{specs.Prelude.string_bytes, proofs.lemmas.Result.IfOk-weaker}
use Rattle.clap.specs.Words.{subcommand_rows_of}
use Rattle.command_words.{specs.Found.command_in, specs.Program.found_in, proofs.Agreement.{agrees, strings_are_texts}}
use Rattle.command_words.proofs.command.read_words.Goals as goal

pub returns-in-Some-clause-command : goal.returns-in-Some-clause-command
returns-in-Some-clause-command c =
    let words = map string_bytes c.args.words.now in
    let found : Some (subcommand_rows_of c.in-Some.matches) ≡ found_in words = ap (option_map subcommand_rows_of) (sym c.in-Some.is) ∙ c.in_ok-matches.ensures in
    IfOk-weaker c.command_of_matches.result _ _ (λ command is. is ∙ ap command_in found ∙ agrees words (strings_are_texts c.args.words.now)) c.command_of_matches.ensures.command

pub returns-in-None-clause-command : goal.returns-in-None-clause-command
returns-in-None-clause-command c =
    let words = map string_bytes c.args.words.now in
    let found : None ≡ found_in words = ap (option_map subcommand_rows_of) (sym c.in-None.is) ∙ c.in_ok-matches.ensures in
    ap command_in found ∙ agrees words (strings_are_texts c.args.words.now)
