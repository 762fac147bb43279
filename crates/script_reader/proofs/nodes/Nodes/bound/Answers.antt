use Rattle.std.proofs.Common.{◌∙◌, ap}
use Rattle.std.specs.Prelude.{slice_index}
use Rattle.tick_model.specs.Operators.{bound_of}
use Rattle.script_reader.proofs.nodes.Nodes.bound.Goals as goal

pub returns : goal.returns
returns c = rw c.as_slice.ensures.value at c.bound.ensures ∙ ap (λ bounds. bound_of c.args.op.now (slice_index bounds)) c.args.self.now.bounded
