use Rattle.std.proofs.Common.{◌∙◌, ap, sym, subst, ℕ, Option}
use Rattle.std.{specs.Prelude.position, specs.Str.bytes_eq}
use Rattle.tick_model.specs.declared.plan.ColumnSpec.{ColumnSpec}
use Rattle.script_lines.{specs.declared.fault.ScriptKind.TheVariants.UnknownColumn, specs.Answers.Gives}
use Rattle.script_reader.{specs.Checks.{column_named, or_refused}, proofs.Places.position-map}
use Rattle.script_reader.proofs.columns.column_named.Goals as goal

pub returns : goal.returns
unfolding column_named
returns c =
    subst (λ (place : Option ℕ). Gives (λ (column : ℕ). column) c.found.result (or_refused UnknownColumn place))
    (c.place_of-place.ensures ∙ ap (λ text. position (λ (column : ColumnSpec). bytes_eq text column.name) c.args.columns.now) c.as_str.ensures ∙ sym (position-map (bytes_eq c.args.name.now) (λ (column : ColumnSpec). column.name) c.args.columns.now)) c.found.ensures
