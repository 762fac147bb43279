use Rattle.std.proofs.Common.{◌≡◌, length, take}
use Rattle.std.{specs.Prelude.flat_map, specs.Io.KnownBytes.append_known}
use Rattle.tick_model.specs.Texts.{node_records, records_text}
use Rattle.replay.proofs.writing.write_step.Given as goal

-- what the nodes before this one print is written and counted
abbrev pub invariant-loop-node : goal.invariant-loop-node
invariant-loop-node g l =
    let done = flat_map (node_records l.graph.run l.graph.step) (take l.node-index l.graph.run.plan.printed) in
    (l.records ≡ length done) × (g.S.Sink.bytes l.out ≡ append_known (g.S.Sink.bytes l.initial.out) (records_text done)) × (g.S.Sink.failures l.out ≡ g.S.Sink.failures l.initial.out)
