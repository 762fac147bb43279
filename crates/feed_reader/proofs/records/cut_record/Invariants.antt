use Rattle.std.proofs.Common.{◌≡◌, [], true, false, length}
use denote.Text.{Utf8}
use denote.Shadow.{shadow}
use Rattle.csv.{specs.Machine.next_record, specs.Reading.default_config, specs.declared.parser.State.TheVariants.{InField, StartRecord}}
use Rattle.feed_reader.specs.Records.{are_texts, field_texts, has_quote}
use Rattle.feed_reader.proofs.records.cut_record.Given as goal

abbrev pub invariant-fields : goal.invariant-fields
invariant-fields l = record {
  text : shadow (Utf8 l.rest);
  read : next_record default_config InField (field_texts l.fields.items) [] l.rest ≡ next_record default_config StartRecord [] [] l.fn.text;
  plain : has_quote l.rest ≡ false;
  texts : are_texts (field_texts l.fields.items) ≡ true;
}

abbrev pub decreases-fields : goal.decreases-fields
decreases-fields l = length l.rest
