use Rattle.std.proofs.Common.{◌≡◌, sym, ◌∙◌, ap, ap₂, subst, true, false, ◌||◌, ◌+◌, ◌*◌, ◌≤◌, ℕ, List, ℤ, length, rules, w64, SFits}
use Rattle.std.{proofs.lemmas.Int.to_z-of_z, specs.List.AllByRecursion}
use Rattle.key_lists.specs.Keys.{IsRising, is_among}
use Rattle.lookup_join.{specs.Keyed.{IsRowOf, key_cells, time_at, time_of}, proofs.Brought.{every-with_member, none_under, with_member_keys}, proofs.Walks.{came_next, reader_has, row_given, row_read}}
use Rattle.row_changes.proofs.Comparing.{reads_next, reads_within}
use Rattle.row_groups.specs.Members.{Grouped, Member, keys_of, member_of, with_member}
use Rattle.row_set.{proofs.United.{among-with_key, with_key_rises}, proofs.Yielded.{next_has, next_new, next_small, yielded_all, yielded_next}, specs.Sets.with_key}
use Rattle.tick_model.specs.Tables.{keys}
use Rattle.lookup_join.proofs.keyed.add_rows.Goals as goal

pub row-row-requires : goal.row-row-requires
row-row-requires g c = record {
  here = reader_has c.args.input.now.new c.loop-key.rows c.in-Some.key c.loop-key.invariant.rows (next_has c.loop-key.yielded c.into_iter-key-iterator.ensures.into_iter_gives c.loop-key.yielded_by c.in-Some.ensures.steps (λ key. is_among key (keys c.args.input.now.new.rows) ≡ true) c.requires.there);
}

pub add-requires-clause-small : goal.add-requires-clause-small
add-requires-clause-small g c = next_small c.loop-key.yielded c.into_iter-key-iterator.ensures.into_iter_gives c.loop-key.yielded_by c.in-Some.ensures.steps

pub add-requires-clause-absent : goal.add-requires-clause-absent
add-requires-clause-absent g c =
    let yielded = c.loop-key.yielded in
    let all = c.into_iter-key-iterator.ensures.into_iter_gives in
    none_under c.in-Some.key c.loop-key.index.members
    (c.loop-key.invariant.keys c.in-Some.key
    ∙ ap₂ (λ a b. a || b) (next_new yielded all c.loop-key.yielded_by c.in-Some.ensures.steps)
    (next_has yielded all c.loop-key.yielded_by c.in-Some.ensures.steps (λ key. is_among key (keys_of c.args.index.now.members) ≡ false) c.requires.absent))

pub loop-key-preserved : goal.loop-key-preserved
loop-key-preserved g c =
    let key = c.in-Some.key in
    let yielded = c.loop-key.yielded in
    let all = c.into_iter-key-iterator.ensures.into_iter_gives in
    let fits : SFits w64 c.in_ok-time.time = search rules in
    let before = c.loop-key.index.members in
    let row = row_given c.args.input.now.new c.loop-key.rows key c.loop-key.invariant.rows c.row-row.ensures.cells in
    let member : Member = member_of key c.deref.result.now (time_at c.args.side c.args.pick c.args.input.now.new.rows key) in
    let after : c.add.new.self.members ≡ with_member member before =
    ap (λ (index : Grouped). index.members) c.in_ok-add.ensures.members
    ∙ ap (λ time. with_member (member_of key c.deref.result.now time) before) (to_z-of_z w64 c.in_ok-time.time fits ∙ c.in_ok-time.ensures.time ∙ ap (time_of c.args.side c.args.pick) row) in
    let absent =
    c.loop-key.invariant.keys key
    ∙ ap₂ (λ a b. a || b) (next_new yielded all c.loop-key.yielded_by c.in-Some.ensures.steps)
    (next_has yielded all c.loop-key.yielded_by c.in-Some.ensures.steps (λ key. is_among key (keys_of c.args.index.now.members) ≡ false) c.requires.absent) in
    let keys_are : keys_of c.add.new.self.members ≡ with_key key (keys_of before) = ap keys_of after ∙ with_member_keys member before absent in record {
      rows = c.row-row.ensures.same ∙ c.loop-key.invariant.rows;
      width = ap (λ (index : Grouped). index.width) c.in_ok-add.ensures.members ∙ c.loop-key.invariant.width;
      members =
          subst (AllByRecursion (IsRowOf c.args.side c.args.on.now c.args.pick c.args.input.now.new.rows)) (sym after)
          (every-with_member (IsRowOf c.args.side c.args.on.now c.args.pick c.args.input.now.new.rows) member before (ap (λ (cells : List ℤ). member_of key cells (time_at c.args.side c.args.pick c.args.input.now.new.rows key)) (c.deref.ensures.value ∙ c.in_ok-time.ensures.cells ∙ ap (key_cells c.args.side c.args.on.now) row)) c.loop-key.invariant.members);
      rising = subst IsRising (sym keys_are) (with_key_rises key (keys_of before) c.loop-key.invariant.rising);
      keys = λ k. ap (is_among k) keys_are ∙ among-with_key k key (keys_of before) ∙ came_next k key (keys_of c.args.index.now.members) (keys_of before) yielded (c.loop-key.invariant.keys k);
      reads = reads_next c.args.input.now.new.width c.args.reads.now c.loop-key.reads c.row-row.new.reads yielded key c.loop-key.invariant.reads (row_read c.loop-key.reads c.loop-key.invariant.rows c.row-row.ensures.reads);
    }

pub returns-in_err-time-clause-reads : goal.returns-in_err-time-clause-reads
returns-in_err-time-clause-reads g c =
    reads_within c.args.input.now.new.width c.args.reads.now c.loop-key.reads c.row-row.new.reads c.loop-key.yielded c.in-Some.key _ _
    (yielded_next c.loop-key.yielded c.into_iter-key-iterator.ensures.into_iter_gives c.loop-key.yielded_by c.in-Some.ensures.steps) c.loop-key.invariant.reads (row_read c.loop-key.reads c.loop-key.invariant.rows c.row-row.ensures.reads)

pub returns-in_err-add-clause-reads : goal.returns-in_err-add-clause-reads
returns-in_err-add-clause-reads g c =
    reads_within c.args.input.now.new.width c.args.reads.now c.loop-key.reads c.row-row.new.reads c.loop-key.yielded c.in-Some.key _ _
    (yielded_next c.loop-key.yielded c.into_iter-key-iterator.ensures.into_iter_gives c.loop-key.yielded_by c.in-Some.ensures.steps) c.loop-key.invariant.reads (row_read c.loop-key.reads c.loop-key.invariant.rows c.row-row.ensures.reads)

pub returns-clause-keys : goal.returns-clause-keys
returns-clause-keys g c =
    λ key. c.loop-key.invariant.keys key ∙ ap (λ (keys : List ℕ). is_among key keys || is_among key (keys_of c.args.index.now.members)) (yielded_all c.loop-key.yielded c.into_iter-key-iterator.ensures.into_iter_gives c.loop-key.yielded_by c.in-None.ensures.steps.0)

pub returns-clause-reads : goal.returns-clause-reads
returns-clause-reads g c = subst (λ (keys : List ℕ). c.loop-key.reads ≤ c.args.reads.now + c.args.input.now.new.width * length keys) (yielded_all c.loop-key.yielded c.into_iter-key-iterator.ensures.into_iter_gives c.loop-key.yielded_by c.in-None.ensures.steps.0) c.loop-key.invariant.reads
