use Rattle.std.proofs.Common.{◌∙◌, ◌+◌, ◌++◌, ap, arith, get_or, length, slice_range, [], List, ℕ, ℤ}
use Rattle.std.{specs.List.remove_range, proofs.lemmas.List.map-append}
use Rattle.chunk_list.specs.Chunked.{joined}
use Rattle.tick_table.{specs.Placed.{Placed, cells_of}, proofs.Own.{length-cells, map-left, map-run, own_as, own_out}}
use Rattle.tick_table.proofs.placed.PlacedRows.take_out.Goals as goal

pub remove_run-requires : goal.remove_run-requires
remove_run-requires c =
    let s = c.self.inside in
    omega (arith, c.requires, ap (λ (placed : Placed). length placed.rows) c.self.view_is, length-cells s.slots.rows (joined s.places))

pub invariant_of-self : goal.invariant_of-self
invariant_of-self c =
    let s = c.self.inside in
    own_as s.slots (joined s.places) s.left.items (joined c.remove_run.new.self) c.remove_run.new.out.items (ap joined c.in_err-remove_run.ensures.err) c.in_err-remove_run.ensures.err_out c.self.invariant

pub invariant_of-self-2 : goal.invariant_of-self-2
invariant_of-self-2 c =
    let s = c.self.inside in
    let places = joined s.places in
    let position = c.args.position in
    let end = position + c.args.count in
    own_as s.slots (remove_range places position end) (s.left.items ++ slice_range places position end) (joined c.remove_run.new.self) c.remove_run.new.out.items c.in_ok-remove_run.ensures.others c.in_ok-remove_run.ensures.out
    (own_out s.slots places s.left.items c.self.invariant position c.args.count)

pub returns-clause-rows : goal.returns-clause-rows
returns-clause-rows c =
    let s = c.self.inside in
    let end = c.args.position + c.args.count in
    ap (cells_of s.slots.rows) c.in_ok-remove_run.ensures.others
    ∙ map-left (λ (slot : ℕ). get_or s.slots.rows slot []) (joined s.places) c.args.position end
    ∙ ap (λ (placed : Placed). remove_range placed.rows c.args.position end) c.self.view_is

pub returns-clause-left : goal.returns-clause-left
returns-clause-left c =
    let s = c.self.inside in
    let places = joined s.places in
    let end = c.args.position + c.args.count in
    ap (cells_of s.slots.rows) c.in_ok-remove_run.ensures.out
    ∙ map-append (λ (slot : ℕ). get_or s.slots.rows slot []) s.left.items (slice_range places c.args.position end)
    ∙ ap (λ (cells : List (List ℤ)). cells_of s.slots.rows s.left.items ++ cells) (map-run (λ (slot : ℕ). get_or s.slots.rows slot []) places c.args.position end)
    ∙ ap (λ (placed : Placed). placed.left ++ slice_range placed.rows c.args.position end) c.self.view_is
