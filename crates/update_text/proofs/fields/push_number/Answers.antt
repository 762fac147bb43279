use Rattle.std.proofs.Common.{rules}
use Rattle.update_text.proofs.Digits.{field_text-decimal}
use Rattle.update_text.proofs.fields.push_number.Goals as goal

pub returns : goal.returns
returns c = search (rules, field_text-decimal)
