use Rattle.std.proofs.Common.{ap, sym, ◌∙◌, subst, true≢false, add-one, ◌≡◌, ◌+◌, None}
use Rattle.std.proofs.lemmas.Bool.{not-true}
use Rattle.tick_laws.specs.Reached.{table_before}
use Rattle.tick_model.{specs.Evaluation.{has_table, is_source}, specs.Operators.fault_of, specs.States.tick}
use Rattle.tick_table.{specs.Exact.IsExact, proofs.ExactAgain.exact_again}
use Rattle.update_graph.{specs.Entered.IsEntered, specs.Stands.{IsKept, IsReady, reads_of}, specs.Tags.{Kept, Tag, named, node_at, op_at}, proofs.EnteredTicks.{all_before, before_entered, entered_tick, made}}
use Rattle.update_graph.proofs.work.Work.into_ready.Goals as goal

pub returns-clause-ready : goal.returns-clause-ready
returns-clause-ready c =
    let run = c.args.run.now in
    let n = c.args.node in
    let before = c.args.self.step in
    let kept = subst (λ (t : Tag). IsKept t.run t.step t.node c.self.inside.state) (ap named c.self.view_is ∙ c.requires.work) c.self.invariant in
    let here = subst (IsKept run before n) c.in-Defined.is kept in
    let o = c.in-Defined.ready.value.operator in
    let t = c.in-Defined.ready.value.table in
    subst (λ m. IsReady run (table_before run m) m n o t) c.requires.next (subst (λ m. IsReady run (table_before run m) (before + 1) n o t) (sym (add-one before)) here.1)

pub returns-clause-exact : goal.returns-clause-exact
returns-clause-exact c =
    let run = c.args.run.now in
    let n = c.args.node in
    let before = c.args.self.step in
    let entered = subst (IsEntered run) (sym c.requires.next) c.requires.entered in
    let kept = subst (λ (t : Tag). IsKept t.run t.step t.node c.self.inside.state) (ap named c.self.view_is ∙ c.requires.work) c.self.invariant in
    let here = subst (IsKept run before n) c.in-Defined.is kept in
    subst IsExact (sym here.2) (exact_again (tick run before n) (entered_tick run before (before_entered run before entered) n c.requires.node (all_before run before entered n c.requires.node)).is_tick)

pub returns-clause-clear : goal.returns-clause-clear
returns-clause-clear c =
    let run = c.args.run.now in
    let n = c.args.node in
    let before = c.args.self.step in
    let entered = subst (IsEntered run) (sym c.requires.next) c.requires.entered in
    subst (λ m. fault_of (op_at run n) (table_before run m) ≡ None) (sym (add-one before) ∙ c.requires.next)
    (made run entered.lawful before n c.requires.node (not-true (is_source (node_at run n)) c.requires.operator) (all_before run before entered n c.requires.node)).fault

pub returns-clause-reads : goal.returns-clause-reads
returns-clause-reads c = ap reads_of (sym c.in-Defined.is) ∙ ap (λ (work : Kept). work.reads) c.self.view_is

pub unreachable-requires : goal.unreachable-requires
unreachable-requires c =
    let kept = subst (λ (t : Tag). IsKept t.run t.step t.node c.self.inside.state) (ap named c.self.view_is ∙ c.requires.work) c.self.invariant in
    true≢false (sym c.requires.operator ∙ (subst (IsKept c.args.run.now c.args.self.step c.args.node) c.in-Source.is kept).0)

pub unreachable-requires-in-Failed : goal.unreachable-requires-in-Failed
unreachable-requires-in-Failed c =
    let run = c.args.run.now in
    let n = c.args.node in
    let before = c.args.self.step in
    let has = all_before run before (subst (IsEntered run) (sym c.requires.next) c.requires.entered) n c.requires.node in
    let kept = subst (λ (t : Tag). IsKept t.run t.step t.node c.self.inside.state) (ap named c.self.view_is ∙ c.requires.work) c.self.invariant in
    true≢false (sym has ∙ ap has_table (subst (IsKept run before n) c.in-Failed.is kept))

pub unreachable-requires-in-Undefined : goal.unreachable-requires-in-Undefined
unreachable-requires-in-Undefined c =
    let run = c.args.run.now in
    let n = c.args.node in
    let before = c.args.self.step in
    let has = all_before run before (subst (IsEntered run) (sym c.requires.next) c.requires.entered) n c.requires.node in
    let kept = subst (λ (t : Tag). IsKept t.run t.step t.node c.self.inside.state) (ap named c.self.view_is ∙ c.requires.work) c.self.invariant in
    true≢false (sym has ∙ ap has_table (subst (IsKept run before n) c.in-Undefined.is kept))
