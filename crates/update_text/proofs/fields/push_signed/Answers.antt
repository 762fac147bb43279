use Rattle.std.proofs.Common.{rules}
use Rattle.update_text.proofs.Digits.{field_text-signed}
use Rattle.update_text.proofs.fields.push_signed.Goals as goal

pub returns : goal.returns
returns c = search (rules, field_text-signed)
