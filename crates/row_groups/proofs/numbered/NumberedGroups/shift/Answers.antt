use Rattle.std.proofs.Common.{◌^◌, ap, sym, ◌∙◌}
use Rattle.tick_model.specs.Rules.{shift_fault}
use Rattle.row_groups.{specs.Members.{Numbered, keys_of}, specs.Indexes.names_of, proofs.Groupings.keys_same}
use Rattle.row_groups.proofs.numbered.NumberedGroups.shift.Goals as goal

pub shift-requires-clause-lawful : goal.shift-requires-clause-lawful
shift-requires-clause-lawful c =
    let index = c.self.inside.index in
    ap (shift_fault (2 ^ 62) c.args.shifts.now) (sym (keys_same index.table index.lists.groups index.handles) ∙ ap (λ (numbered : Numbered). keys_of numbered.members) c.self.view_is) ∙ c.requires

pub returns-clause-names : goal.returns-clause-names
returns-clause-names c = ap names_of c.shift.ensures.groups ∙ ap (λ (numbered : Numbered). numbered.names) c.self.view_is
