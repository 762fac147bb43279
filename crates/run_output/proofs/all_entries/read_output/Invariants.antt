use Rattle.std.proofs.Common.{◌≡◌, List, ◌++◌, length}
use Rattle.std.specs.List.{AllByRecursion}
use Rattle.run_output.{specs.declared.entry.OutputEntry.OutputEntry, specs.Entries.{IsEntry, output_text}}
use Rattle.run_output.proofs.all_entries.read_output.Given as goal

-- the entries so far, and those that are still to come of an output that is told
abbrev pub invariant-loop-rest : goal.invariant-loop-rest
invariant-loop-rest l = record {
  entries : AllByRecursion (IsEntry l.tables l.texts) l.entries;
  text : l.fn.bytes ≡ output_text l.tables l.texts l.entries ++ l.rest;
  told :
      (all : List OutputEntry) → AllByRecursion (IsEntry l.tables l.texts) all → l.fn.bytes ≡ output_text l.tables l.texts all →
      (todo : List OutputEntry) × AllByRecursion (IsEntry l.tables l.texts) todo × (l.rest ≡ output_text l.tables l.texts todo) × (l.entries ++ todo ≡ all);
}

abbrev pub decreases-loop-rest : goal.decreases-loop-rest
decreases-loop-rest l = length l.rest
