use Rattle.std.proofs.Common.{◌≡◌, ◌-◌, map}
use Rattle.script_lines.specs.Members.{more_at, list_at}
use Rattle.script_lines.proofs.lists.list.Given as goal

abbrev pub invariant-loop : goal.invariant-loop
invariant-loop g l = more_at g.M.Member.member_at (512 - l.counter) l.separator (map g.M.Member.shown l.members) l.rest ≡ list_at g.M.Member.member_at l.separator l.tokens
