use Rattle.std.proofs.Common.{◌≡◌, ◌<◌, ◌∙◌, sym, ap, subst, arith}
use Rattle.std.specs.Prelude.{MatchOption}
use Rattle.graph_words.{specs.Marks.at, specs.Models.SeatModel, specs.Seats.{Has, IsSeatOf}, specs.declared.table.Mark.TheVariants.PutBack}
use Rattle.steal_workers.{specs.Holdings.{IsGoneOn, IsHeld, NoNode, OnlyNode, SourcesBack}, proofs.Holding.{all_late, gone_on, more_done, rest_back, sources_still}, proofs.rest.work_rest.Goals.{in-Some+in_ok-work_alone-in-Some, in-None}}
use Rattle.steal_workers.proofs.rest.work_rest.Goals as goal

pub loop-node-init : goal.loop-node-init
loop-node-init g c =
    let same = c.look.ensures.same in
    let plan = c.args.claims.now.plan in
    record {
      of = subst (λ s. IsSeatOf c.args.claims.now s) (sym same) c.requires.of;
      held = subst (λ s. IsHeld plan s.view NoNode) (sym same) c.requires.held;
      alone = ap (λ (s : SeatModel g.row.W.Denot). s.view.parts) same ∙ c.requires.alone;
      sources = subst (λ s. SourcesBack plan s.view) (sym same) c.requires.sources;
      done = λ n less. absurd (omega (arith, less));
    }

pub loop-node-preserved : goal.loop-node-preserved
loop-node-preserved g c =
    let plan = c.args.claims.now.plan in
    let n = c.loop-node.node in
    let u = c.loop-node.seat.view in
    let i = c.loop-node.invariant in
    let within : n < plan.nodes = omega (arith, c.loop-node-test.true, c.nodes-node-end.ensures) in
    elim c.match-accept_node.branch [
      | in-Some+in_ok-work_alone-in-Some w ↦
          let v = c.match-accept_node.seat.view in
          let told = w.in_ok-work_alone-in-Some.ensures in
          let on : IsGoneOn u v = subst (λ s. IsGoneOn u s.view) (sym w.seat-is) (gone_on u c.accept_node.new.seat.view w.work_alone.new.seat.view c.accept_node.ensures.on told.on) in
          let here : at v.nodes n ≡ PutBack = subst (λ s. at s.view.nodes n ≡ PutBack) (sym w.seat-is) (subst (λ k. at w.work_alone.new.seat.view.nodes k ≡ PutBack) w.in-Some.ensures.node told.back) in
          record {
            of = subst (λ s. IsSeatOf c.args.claims.now s) (sym w.seat-is) told.of;
            held = subst (λ s. IsHeld plan s.view NoNode) (sym w.seat-is) told.held;
            alone = on.parts ∙ i.alone;
            sources = sources_still plan u v on i.sources;
            done = more_done plan u v n i.held i.done within on here;
          }
      | in-None w ↦
          let v = c.match-accept_node.seat.view in
          let on : IsGoneOn u v = subst (λ s. IsGoneOn u s.view) (sym w.seat-is) c.accept_node.ensures.on in
          let after = c.accept_node.new.seat.view in
          let held : IsHeld plan v NoNode = subst (λ s. IsHeld plan s.view NoNode) (sym w.seat-is) (subst (λ o. MatchOption o (IsHeld plan after NoNode) (λ k. IsHeld plan after (OnlyNode k))) w.in-None.is c.accept_node.ensures.held) in
          let here = rest_back plan u v n i.held i.done within c.look.ensures.upward on held i.sources i.alone (λ input a d. subst (λ s. Has s.view n) (sym w.seat-is) (c.accept_node.ensures.alone within input a d)) in
          record {
            of = subst (λ s. IsSeatOf c.args.claims.now s) (sym w.seat-is) c.accept_node.ensures.of;
            held = held;
            alone = on.parts ∙ i.alone;
            sources = sources_still plan u v on i.sources;
            done = more_done plan u v n i.held i.done within on here;
          }
    ]

pub returns-clause-late : goal.returns-clause-late
returns-clause-late g c =
    let done = c.loop-node.invariant.done in
    all_late c.args.claims.now.plan c.loop-node.seat.view c.look.ensures.upward c.loop-node.invariant.held (λ m below. done m (omega (arith, below, c.loop-node-test.false, c.nodes-node-end.ensures)))
