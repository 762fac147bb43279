-- The script so far, as the code keeps it, in the words of the definitions.
--     so_far known      the script, whose formulas lie nowhere
use Rattle.std.specs.Prelude.{map}
use Rattle.script_reader.{specs.declared.known.Known.Known, specs.declared.script.Script.Script, specs.Plain.plain_node}

abbrev pub so_far : Known → Script
so_far known = record {
  plan = record { nodes = map plain_node known.nodes.nodes.items; printed = known.printed.items; published = known.published };
  literals = known.literals;
  files = known.files;
}
