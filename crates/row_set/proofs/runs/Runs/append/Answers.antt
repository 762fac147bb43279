use Rattle.std.proofs.Common.{◌≡◌, ◌-◌, ◌<◌, [], ◌∷◌, ◌++◌, ap, sym, ◌∙◌, subst, arith, cond, is_ok, true}
use Rattle.std.specs.List.{AllByRecursion}
use Rattle.row_set.{specs.Runs.lying, proofs.Lying.{IsStretched, appended_at}, proofs.Middles.span, proofs.runs.Runs.append.Goals.After-push}
use Rattle.row_set.proofs.runs.Runs.append.Goals as goal

appended : (c : After-push) → IsStretched c.args.first c.args.last c.args.self.now.front c.args.self.now.all.items c.push.new.self.items c.args.self.now.starts.items
appended c =
    let self = c.args.self.now in
    let all = self.all.items in
    let first = c.args.first in
    let last = c.args.last in
    let behind : AllByRecursion (λ range. range.last < first - 1) (lying self) =
    subst (λ n. AllByRecursion (λ range. range.last < n) (lying self)) c.saturating_sub.ensures (subst (λ those. AllByRecursion (λ range. range.last < c.saturating_sub.result) those) c.as_slice.ensures c.if-not-all_end_before.ensures) in
    let ok : is_ok c.push.result ≡ true = c.push.ensures.succeeds (omega (arith, self.all.ok.0, c.len-2.ensures, c.capacity.ensures, c.min-room.ensures, c.if-len-room.false)) in
    let pushed : c.push.new.self.items ≡ all ++ span first last ∷ [] = c.push.ensures.items ∙ ap (λ b. cond b (all ++ span first last ∷ []) all) ok in
    subst (λ items. IsStretched first last self.front all items self.starts.items) (sym pushed)
    (appended_at first last self.front all self.starts.items c.requires.stored.apart c.requires.stored.counted behind c.requires.order c.requires.small
    (omega (arith, self.all.ok.0, self.starts.ok.0, c.len.ensures, c.len-2.ensures, c.min-room.ensures, c.if-len-room.false)))

pub returns-clause-stored : goal.returns-clause-stored
returns-clause-stored c = record { apart = (appended c).apart; counted = (appended c).counted }

pub returns-clause-added : goal.returns-clause-added
returns-clause-added c = (appended c).keys
