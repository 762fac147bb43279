use Rattle.std.proofs.Common.{◌≡◌, ap, sym, ◌∙◌, rules, ◌<◌, length, None, Some, subst, vec_len, w64, SFits}
use Rattle.std.{specs.Prelude.option_map, proofs.lemmas.Int.to_z-of_z}
use Rattle.lookup_join.{specs.declared.notes.PriorMatch.PriorMatch, specs.declared.pick.Pick.TheVariants.Last, specs.Latest.match_of, specs.Notes.{NoteList, note_of, noted_of}, proofs.Numbered.{found_noted, found_of, found_within, match_within, noted_is, not_found}}
use Rattle.lookup_join.proofs.notes.PriorMatches.of.Goals as goal

pub returns-in_err-found : goal.returns-in_err-found
returns-in_err-found c =
    let members = c.self.inside.numbers.members in
    let nothing : c.from_residual.result ≡ None = search rules in
    nothing
    ∙ sym (ap (option_map noted_of)
    (ap (λ (noted : NoteList). note_of c.args.cells.now c.args.at noted.notes) (sym c.self.view_is)
    ∙ noted_is members c.self.inside.before.items c.self.invariant c.args.cells.now c.args.at
    ∙ not_found c.self.inside.before.items (match_of Last c.args.cells.now c.args.at members) (sym (c.last_until.ensures ∙ ap (λ at. option_map found_of (match_of Last c.args.cells.now at members)) (to_z-of_z w64 c.args.at c.ranges.at)) ∙ c.in_err-found.was)))

pub index-requires : goal.index-requires
index-requires c =
    let members = c.self.inside.numbers.members in
    let same : length c.self.inside.before.items ≡ vec_len c.self.inside.before = search rules in
    subst (λ n. c.in_ok-found.found.key < n) same
    (found_within c.self.inside.before.items (match_of Last c.args.cells.now c.args.at members) c.in_ok-found.found (match_within members c.self.inside.before.items c.self.invariant c.args.cells.now c.args.at) (sym (c.last_until.ensures ∙ ap (λ at. option_map found_of (match_of Last c.args.cells.now at members)) (to_z-of_z w64 c.args.at c.ranges.at)) ∙ c.in_ok-found.was))

pub returns : goal.returns
returns c =
    let members = c.self.inside.numbers.members in
    let fits : SFits w64 c.in_ok-found.found.at = search rules in
    ap (λ at. let own : PriorMatch = record { at = at; before = c.index.result.now } in Some own) (to_z-of_z w64 c.in_ok-found.found.at fits)
    ∙ found_noted c.self.inside.before.items (match_of Last c.args.cells.now c.args.at members) c.in_ok-found.found c.index.result.now c.index.ensures (match_within members c.self.inside.before.items c.self.invariant c.args.cells.now c.args.at) (sym (c.last_until.ensures ∙ ap (λ at. option_map found_of (match_of Last c.args.cells.now at members)) (to_z-of_z w64 c.args.at c.ranges.at)) ∙ c.in_ok-found.was)
    ∙ ap (option_map noted_of)
    (sym (ap (λ (noted : NoteList). note_of c.args.cells.now c.args.at noted.notes) (sym c.self.view_is)
    ∙ noted_is members c.self.inside.before.items c.self.invariant c.args.cells.now c.args.at))
