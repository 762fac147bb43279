use Rattle.std.proofs.Common.{◌≡◌, ◌++◌, take, map}
use Rattle.std.specs.Prelude.{flat_map, string_bytes}
use Rattle.tick_model.specs.Texts.{comma_before}
use Rattle.update_text.proofs.record.push_next_fields.Given as goal

abbrev pub invariant-loop-field : goal.invariant-loop-field
invariant-loop-field l = l.text.items ≡ l.fn.text.items ++ flat_map comma_before (map string_bytes (take l.field-index l.fields))
