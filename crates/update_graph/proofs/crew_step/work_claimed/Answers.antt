use mir.Syntax.{named}
use denote.Param.{param}
use denote.Param.Send.{IsSync, sendable, shr_sync, view_sync}
use denote.Ref.{ShrRef}
use denote.Struct.Field.{row_field, shr_ref_field}
use denote.Param.SendFields.{as_row_sync, declared_sync}
use Rattle.std.proofs.Crossing as crossing
use Rattle.update_graph.specs.contracts.context.StepContext as context
use Rattle.update_graph.specs.contracts.edges.Edges as edges
use Rattle.update_graph.specs.contracts.step_work.StepWork as step_work
use Rattle.update_graph.specs.contracts.step_work.StepWork.TheInside as inside
use Rattle.update_graph.proofs.WorkSent.{run_sync, sent}
use Rattle.update_graph.proofs.crew_step.work_claimed.Goals as goal

edges_sync : IsSync edges.the_row
edges_sync = search (crossing.crosses, sendable) depth 60 fits 20000

pub run-requires-send-W : goal.run-requires-send-W
run-requires-send-W g c κs within = search sent depth 60 fits 20000

pub run-requires-sync-N : goal.run-requires-sync-N
run-requires-sync-N g c κs within =
    let gate : IsSync (param 1 g.row.G) = search (c.type_bounds.sync-G, sendable) depth 20 in
    let shared : IsSync (context.the_row (record { mir = named 7; lft = κs.1.1.1.1.1.1.1.0 })) = search (run_sync, crossing.crosses, sendable) depth 60 fits 20000 in
    let fields : IsSync (inside.the_row (record { mir = named 7; lft = κs.1.1.1.1.1.1.1.0 }) (param 1 g.row.G) g.G.Gate) = declared_sync (inside.the_type (record { mir = named 7; lft = κs.1.1.1.1.1.1.1.0 }) (param 1 g.row.G) g.G.Gate) (as_row_sync (shr_ref_field (record { mir = named 7; lft = κs.1.1.1.1.1.1.1.0 }) (context.the_row (record { mir = named 7; lft = κs.1.1.1.1.1.1.1.0 })) tt) (shr_sync _ _ _ shared), (as_row_sync (shr_ref_field (record { mir = named 7; lft = κs.1.1.1.1.1.1.1.0 }) edges.the_row tt) (shr_sync _ _ _ edges_sync), (as_row_sync (row_field (ShrRef (named 7) κs.1.1.1.1.1.1.1.0 (param 1 g.row.G))) (shr_sync _ _ _ gate), tt))) in
    let own : IsSync (step_work.the_row (record { mir = named 7; lft = κs.1.1.1.1.1.1.1.0 }) (param 1 g.row.G) g.G.Gate) = view_sync _ _ _ _ _ fields in
    record { shared = own.shared }
