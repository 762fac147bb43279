use Rattle.std.proofs.Common.{◌≡◌, refl, ap, sym, ◌∙◌, subst, Bool, true, false, cond, not, filter, ℕ, List, [], ◌∷◌, ℤ, pos}
use Rattle.std.specs.Prelude.{int_lt}
use Rattle.key_lists.{specs.Keys.is_among, proofs.Every.filter_swap}
use Rattle.row_groups.specs.Members.{Grouped, IsPart, IsRegrouped, Member, Numbered, by_at, group_of, left_members, member_of, placed, with_member}
use Rattle.tick_model.specs.{Agg.key_cells as cells_by, Tables.same_cells}
use Rattle.agg_by.proofs.kept.AggIndex.change_group.Goals as goal
use Rattle.agg_by.proofs.kept.AggIndex.change_group.Goals.{then-stay-via-then-stay, then-stay-via-else-stay+then-has_same_cells}

placed_some : (member : Member) (ms : List Member) → placed member ms ≡ [] → ⊥
placed_some member [] e = cc
placed_some member (other ∷ ms) e = by_case (int_lt other.at member.at) e
  where
    by_case : (b : Bool) → cond b (other ∷ placed member ms) (member ∷ other ∷ ms) ≡ [] → ⊥
    by_case true e = cc
    by_case false e = cc

none_by : (ms : List Member) → by_at ms ≡ [] → ms ≡ []
none_by [] e = refl
none_by (member ∷ ms) e = absurd (placed_some member (by_at ms) e)

-- a group without rows has none where others leave
none_left : (gone : List ℕ) (cells : List ℤ) (ms : List Member) → group_of cells ms ≡ [] → group_of cells (left_members gone ms) ≡ []
none_left gone cells ms none =
    ap by_at (filter_swap (λ (member : Member). same_cells cells member.cells) (λ (member : Member). not (is_among member.key gone)) ms ∙ ap (left_members gone) (none_by (filter (λ (member : Member). same_cells cells member.cells) ms) none))

-- a row that stays in its group goes and comes again
put_again : (member : Member) (groups : Numbered) → IsPart groups groups → with_member member (left_members (member.key ∷ []) groups.members) ≡ groups.members → IsRegrouped member groups groups
put_again member groups part back = record {
  between = record { width = groups.width; members = left_members (member.key ∷ []) groups.members; names = groups.names };
  left = refl;
  fewer = record { kept = λ number cells e. e; named = λ cells unnamed. none_left (member.key ∷ []) cells groups.members (part.named cells unnamed); alone = part.alone };
  came = ap (λ (ms : List Member). let grouped : Grouped = record { width = groups.width; members = ms } in grouped) (sym back);
  more = record { kept = λ number cells e. e; named = λ cells unnamed. none_left (member.key ∷ []) cells groups.members (part.named cells unnamed); alone = part.alone };
}

pub returns-then-stay-clause-regrouped : goal.returns-then-stay-clause-regrouped
returns-then-stay-clause-regrouped c =
    let self = c.args.self.now in
    let same : cells_by self.by c.args.before.now ≡ cells_by self.by c.args.row.now =
    elim c.then-stay.branch [
      | then-stay-via-then-stay w ↦ c.requires.stay w.if-stay.true
      | then-stay-via-else-stay+then-has_same_cells w ↦ w.has_same_cells.ensures w.if-has_same_cells.true
    ] in
    subst (λ (cells : List ℤ). IsRegrouped (member_of c.args.key cells (pos 0)) self.rows self.rows) same
    (put_again (member_of c.args.key (cells_by self.by c.args.before.now) (pos 0)) self.rows c.requires.names c.requires.back)
