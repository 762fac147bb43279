use Rattle.std.proofs.Common.{◌≡◌, drop}
use Rattle.feed_reader.specs.Coding.{with_texts}
use Rattle.feed_reader.proofs.texts.note_names.Given as goal

abbrev pub invariant-loop-name : goal.invariant-loop-name
invariant-loop-name l = with_texts l.fn.texts l.names ≡ with_texts l.texts (drop l.name-index l.names)
