use Rattle.std.proofs.Common.{◌≡◌, ◌++◌, ◌∷◌, [], map, refl}
use Rattle.std.{proofs.lemmas.Result.err_from_is_err_and, proofs.lemmas.List.map_push}
use Rattle.script_lines.{specs.Members.list_at, proofs.ListLemmas.{misses_bind, goes_on, ends, is_done, runs_out}}
use Rattle.script_lines.proofs.lists.list.Goals as goal

pub loop-init : goal.loop-init
unfolding list_at
loop-init g c = rw (c.in_ok-push.ensures.ok, c.new-members.ensures, c.in_ok-first.ensures) refl

pub returns-in_err-first : goal.returns-in_err-first
unfolding list_at
returns-in_err-first g c =
    let p = err_from_is_err_and c.from_residual.result c.from_residual.ensures.1 in
    rw (p.1, p.2) (misses_bind c.in_err-first.field-0.0 (g.M.Member.member_at c.args.tokens.now) _ c.in_err-first.ensures)

pub returns-in_err-member-in-Some : goal.returns-in_err-member-in-Some
returns-in_err-member-in-Some g c =
    let p = err_from_is_err_and c.from_residual-in_err-member-in-Some.result c.from_residual-in_err-member-in-Some.ensures.1 in
    rw (p.1, p.2)
    (ends g.M.Member.member_at c.args.separator c.in_err-member-in-Some.field-0.0 c.loop.counter (map g.M.Member.shown c.loop.members) c.loop.rest.now c.in-Some.after.now (list_at g.M.Member.member_at c.args.separator c.args.tokens.now)
    c.loop-test.true c.in-Some.ensures c.in_err-member-in-Some.ensures c.loop.invariant)

pub loop-preserved : goal.loop-preserved
loop-preserved g c =
    let e : map g.M.Member.shown c.push-in-Some.new.self ≡ map g.M.Member.shown c.loop.members ++ g.M.Member.shown c.in_ok-member-in-Some.member ∷ [] = rw c.in_ok-push-in-Some.ensures.ok (map_push _ c.loop.members c.in_ok-member-in-Some.member) in
    rw e
    (goes_on g.M.Member.member_at c.args.separator c.loop.counter (map g.M.Member.shown c.loop.members) c.loop.rest.now c.in-Some.after.now c.in_ok-member-in-Some.after.now (g.M.Member.shown c.in_ok-member-in-Some.member)
    (list_at g.M.Member.member_at c.args.separator c.args.tokens.now) c.loop-test.true c.in-Some.ensures c.in_ok-member-in-Some.ensures c.loop.invariant)

pub returns : goal.returns
returns g c =
    runs_out g.M.Member.member_at c.args.separator c.loop.counter (map g.M.Member.shown c.loop.members) c.loop.rest.now (list_at g.M.Member.member_at c.args.separator c.args.tokens.now) c.loop-test.false c.loop.invariant

pub returns-in-None : goal.returns-in-None
returns-in-None g c =
    is_done g.M.Member.member_at c.args.separator c.loop.counter (map g.M.Member.shown c.loop.members) c.loop.rest.now (list_at g.M.Member.member_at c.args.separator c.args.tokens.now) c.loop-test.true c.in-None.ensures c.loop.invariant
