use Rattle.std.proofs.Common.{◌≡◌, ◌∙◌, ◌+◌, ◌-◌, ◌<◌, ap, arith, length, sym, Some, IsSome}
use Rattle.std.{specs.Prelude.slice_get, proofs.lemmas.Option.{slice_get-get_or, slice_get_within}}
use Rattle.key_lists.proofs.Parts.{every_got}
use Rattle.row_handles.specs.Entries.{key_with}
use Rattle.sort_op.{specs.Places.key_at, specs.Ranks.{Ranking, listed}, proofs.Runs.{first_none, key_listed, key_past}, proofs.order_keys.OrderKeys.key_at.Goals.{in-Some, in-None}}
use Rattle.sort_op.proofs.order_keys.OrderKeys.key_at.Goals as goal

pub returns-then-position-self-clause-key : goal.returns-then-position-self-clause-key
returns-then-position-self-clause-key c =
    let s = c.self.inside in
    let offset = c.args.position - s.first in
    let less : offset < length s.run.now = omega (arith, c.if-position-self.true) in
    let same : c.args.position ≡ s.first + offset = omega (arith, c.if-self-position.true) in
    c.key_of.ensures
    ∙ sym (key_listed s.order.now c.args.position _ (ap (slice_get s.order.now.rows) same ∙ c.self.invariant.1 offset less ∙ slice_get-get_or s.run.now offset 0 less))
    ∙ ap (λ (order : Ranking). key_at (listed order) c.args.position) c.self.view_is

pub key_of-requires-in-Some : goal.key_of-requires-in-Some
key_of-requires-in-Some c =
    let order = c.self.inside.order.now in
    let run = c.run_at-self-inside.result.now in
    let handle = c.in-Some.handle.now in
    let first : slice_get run 0 ≡ Some handle = sym c.in-Some.ensures.value in
    let same : c.args.position ≡ c.args.position + 0 = omega arith in
    every_got (λ handle. IsSome (key_with handle order.handles)) order.rows c.args.position handle (ap (slice_get order.rows) same ∙ c.run_at-self-inside.ensures.run 0 (slice_get_within run 0 handle first) ∙ first) c.self.invariant.0.known

pub returns-clause-key : goal.returns-clause-key
returns-clause-key c =
    let order = c.self.inside.order.now in
    let run = c.run_at-self-inside.result.now in
    let same : c.args.position ≡ c.args.position + 0 = omega arith in
    elim c.match-first.branch [
      | in-Some w ↦
          let first : slice_get run 0 ≡ Some w.in-Some.handle.now = sym w.in-Some.ensures.value in
          w.result-is ∙ w.key_of-in-Some.ensures
          ∙ sym (key_listed order c.args.position w.in-Some.handle.now (ap (slice_get order.rows) same ∙ c.run_at-self-inside.ensures.run 0 (slice_get_within run 0 w.in-Some.handle.now first) ∙ first))
      | in-None w ↦ w.result-is ∙ sym (key_past order c.args.position (c.run_at-self-inside.ensures.some (first_none run (sym w.in-None.ensures.value))))
    ]
    ∙ ap (λ (order : Ranking). key_at (listed order) c.args.position) c.self.view_is
