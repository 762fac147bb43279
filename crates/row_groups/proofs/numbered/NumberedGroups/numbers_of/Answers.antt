use Rattle.std.proofs.Common.{IsSome, List, ℕ, [], sym, subst}
use Rattle.std.{specs.List.AllZip, proofs.lemmas.List.Elements.AllZip-push}
use Rattle.row_set.proofs.Yielded.{next_has, yielded_all}
use Rattle.row_groups.specs.Members.{IsNumberUnder, member_under}
use Rattle.row_groups.proofs.numbered.NumberedGroups.numbers_of.Goals as goal

pub loop-key-init : goal.loop-key-init
loop-key-init c = subst (AllZip (IsNumberUnder c.args.self.now) []) (sym c.in_ok-numbers.ensures.items) tt

pub next_number-requires : goal.next_number-requires
next_number-requires c = next_has c.loop-key.yielded c.into_iter-key-iterator.ensures.into_iter_gives c.loop-key.yielded_by c.in-Some.ensures.steps (λ key. IsSome (member_under key c.args.self.now.members)) c.requires

pub loop-key-preserved : goal.loop-key-preserved
loop-key-preserved c =
    subst (AllZip (IsNumberUnder c.args.self.now) _) (sym c.in_ok-push.ensures.items) (AllZip-push (IsNumberUnder c.args.self.now) c.loop-key.yielded c.loop-key.numbers.items c.in-Some.key c.next_number.result c.loop-key.invariant c.next_number.ensures)

pub returns : goal.returns
returns c =
    subst (λ (keys : List ℕ). AllZip (IsNumberUnder c.args.self.now) keys c.loop-key.numbers.items) (yielded_all c.loop-key.yielded c.into_iter-key-iterator.ensures.into_iter_gives c.loop-key.yielded_by c.in-None.ensures.steps.0) c.loop-key.invariant
