use Rattle.std.proofs.Common.{◌≡◌, is_some, ap, ap₂, sym, ◌∙◌, subst, true, ℕ, List, None, Some, option_map, pos}
use Rattle.std.specs.List.{AllByRecursion}
use Rattle.key_lists.proofs.Every.{every_weaker}
use Rattle.row_groups.specs.Members.{Grouped, Member, Names, group_of, groups_of, keys_of, left_members, member_under, moved_members, name_at}
use Rattle.shift_data.specs.Moves.{IsLawful}
use Rattle.tick_model.{specs.declared.update.ShiftRange.ShiftRange, specs.Updates.{Update, removing, shifting}}
use Rattle.agg_by.{specs.Kept.{Answers, cells_in, indexed}, proofs.Bringing.{left-members, members, moved-members, placed_none}, proofs.KeptSteps.{indexed_left, indexed_moved, left_lawful, moved_cells, same_answers}, proofs.Made.same_named, proofs.Noted.moved_none}
use Rattle.agg_by.proofs.kept.AggIndex.move_rows.Goals as goal

pub remove_numbered-requires-clause-numbers : goal.remove_numbered-requires-clause-numbers
remove_numbered-requires-clause-numbers c = c.requires.numbers

pub remove_numbered-requires-clause-at : goal.remove_numbered-requires-clause-at
remove_numbered-requires-clause-at c =
    let by = c.args.self.now.by in
    let rows = c.args.input.now.old.rows in
    let are = ap (λ (grouped : Grouped). grouped.members) c.requires.rows in
    let At = λ (ms : List Member) (key : ℕ). option_map (λ (member : Member). member.at) (member_under key ms) ≡ Some (pos 0) in
    subst (λ ms. AllByRecursion (At ms) c.args.gone.now) (sym are)
    (every_weaker (λ key. is_some (member_under key (members by None rows)) ≡ true) (At (members by None rows)) c.args.gone.now (placed_none by rows) (subst (λ ms. AllByRecursion (λ key. is_some (member_under key ms) ≡ true) c.args.gone.now) are c.requires.gone))

pub shift-requires : goal.shift-requires
shift-requires c =
    let t = c.args.input.now in
    let by = c.args.self.now.by in
    let gone = c.args.gone.now in
    let left : groups_of c.remove_numbered.new.self ≡ indexed by None (removing gone t.old.rows) = c.remove_numbered.ensures.members ∙ indexed_left by t.old.rows gone (groups_of c.args.self.now.rows) c.requires.rows in
    subst (λ (shifts : List ShiftRange). IsLawful shifts (keys_of c.remove_numbered.new.self.members)) (sym (c.shifted-shifts.ensures ∙ ap (λ (update : Update). update.shifted) c.update.ensures))
    (left_lawful by t.old.rows gone t.update.shifted (groups_of c.remove_numbered.new.self) left c.requires.lawful)

pub returns-clause-keeps : goal.returns-clause-keeps
returns-clause-keeps c =
    let t = c.args.input.now in
    let by = c.args.self.now.by in
    let gone = c.args.gone.now in
    let rows = removing gone t.old.rows in
    let kept = c.args.self.now.rows in
    let mid = c.remove_numbered.new.self in
    let names = c.shift.new.self.names in
    let shift : c.shifted-shifts.result.now ≡ t.update.shifted = c.shifted-shifts.ensures ∙ ap (λ (update : Update). update.shifted) c.update.ensures in
    let left : groups_of mid ≡ indexed by None rows = c.remove_numbered.ensures.members ∙ indexed_left by t.old.rows gone (groups_of kept) c.requires.rows in
    let same = λ (column n : ℕ).
    sym (same_named by column rows mid kept c.remove_numbered.ensures.names (ap (λ (grouped : Grouped). grouped.members) left) n)
    ∙ ap (λ (names : Names). cells_in by column rows (name_at n names)) (sym c.in_ok-shift.ensures.names)
    ∙ moved_cells by t.update.shifted rows column (name_at n names) in record {
      rows =
          c.in_ok-shift.ensures.members
          ∙ ap (λ (shifts : List ShiftRange). let moved : Grouped = record (groups_of mid) { members = moved_members shifts mid.members } in moved) shift
          ∙ indexed_moved by rows t.update.shifted (groups_of mid) left;
      running = (
        c.requires.running.0,
        every_weaker (Answers by kept.names rows) (Answers by names (shifting t.update.shifted rows)) c.args.self.now.running.items
            (same_answers by kept.names names rows (shifting t.update.shifted rows) same) c.requires.running.1,
      );
    }

pub returns-clause-names : goal.returns-clause-names
returns-clause-names c =
    let t = c.args.input.now in
    let gone = c.args.gone.now in
    let by = c.args.self.now.by in
    let left = removing gone t.old.rows in
    let mid = c.remove_numbered.new.self in
    let new = c.shift.new.self in
    let shift : c.shifted-shifts.result.now ≡ t.update.shifted = c.shifted-shifts.ensures ∙ ap (λ (update : Update). update.shifted) c.update.ensures in
    let are : mid.members ≡ members by None left =
    ap (λ (grouped : Grouped). grouped.members) c.remove_numbered.ensures.members ∙ ap (λ (grouped : Grouped). left_members gone grouped.members) c.requires.rows ∙ left-members by None gone t.old.rows in
    let moved : new.members ≡ members by None (shifting t.update.shifted left) =
    ap (λ (grouped : Grouped). grouped.members) c.in_ok-shift.ensures.members ∙ ap₂ moved_members shift are ∙ moved-members by None t.update.shifted left in record {
      kept = λ number cells e. c.remove_numbered.ensures.names.kept number cells (ap (λ (names : Names). name_at number names) (sym c.in_ok-shift.ensures.names) ∙ e);
      named = λ cells unnamed.
          ap (group_of cells) moved
          ∙ moved_none by t.update.shifted left cells (ap (group_of cells) (sym are) ∙ c.remove_numbered.ensures.names.named cells (λ number e. unnamed number (ap (λ (names : Names). name_at number names) c.in_ok-shift.ensures.names ∙ e)));
      alone = c.remove_numbered.ensures.names.alone;
    }
