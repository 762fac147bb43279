use denote.Enum.Bare.{same_false}
use Rattle.std.proofs.Common.{◌∙◌, map, sym}
use Rattle.std.specs.Prelude.{string_bytes}
use Rattle.clap.{specs.contracts.error.kind.ErrorKind.the_type, specs.declared.error.kind.ErrorKind.TheVariants.OutOfMemory, specs.Words.{app_of, subcommand_rows_of}}
use Rattle.command_words.proofs.Finding.{matches_found, fault_found}
use Rattle.command_words.proofs.program.matches_of.Goals as goal

pub returns-in-Ok : goal.returns-in-Ok
returns-in-Ok c =
    matches_found (app_of c.in_ok-program.field-0) (map string_bytes c.args.words.now) c.in_ok-program.ensures (subcommand_rows_of c.in-Ok.matches)
    (λ simple. (c.in-Ok.ensures.matches simple).1) c.in-Ok.ensures.kinds

pub returns : goal.returns
returns c =
    fault_found (app_of c.in_ok-program.field-0) (map string_bytes c.args.words.now) c.in_ok-program.ensures c.in-Err.error c.in-Err.ensures.kinds
    (λ memory. same_false the_type c.kind.result OutOfMemory (sym c.if-eq.ensures) (c.kind.ensures ∙ memory))
