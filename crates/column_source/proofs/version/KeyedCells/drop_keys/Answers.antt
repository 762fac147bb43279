use Rattle.std.proofs.Common.{refl, ap, sym, ◌∙◌, List, ℕ}
use Rattle.chunk_list.specs.Chunked.{joined}
use Rattle.key_lists.proofs.Every.{filter_all}
use Rattle.row_set.proofs.Yielded.{yielded_all, yielded_next}
use Rattle.column_source.{specs.Entries.left_entries, proofs.Made.{left, next}, proofs.Paired.{are_of, cells_of, counted, shown}}
use Rattle.column_source.proofs.version.KeyedCells.drop_keys.Goals as goal

pub loop-key-init : goal.loop-key-init
loop-key-init c =
    let own = are_of c.self.invariant c.self.view_is in record {
      keys = refl;
      cells = own.cells_are ∙ ap cells_of (sym (filter_all c.args.self.now));
    }

pub remove-requires : goal.remove-requires
remove-requires c =
    let gives = c.into_iter-key-iterator.ensures.into_iter_gives in
    (next c.ranges-2.ensures.keys (are_of c.self.invariant c.self.view_is) c.args.keys.now c.in_ok-gone.gone c.loop-key.self-inside.keys gives.1 c.in_ok-gone.ensures (c.loop-key.invariant.keys ∙ c.in_ok-remove_all.ensures.ok) c.loop-key.yielded c.in-Some.key c.next.new.self
    (yielded_next c.loop-key.yielded gives c.loop-key.yielded_by c.in-Some.ensures.steps) (joined c.loop-key.self-inside.cells) c.count_below.result c.loop-key.invariant.cells c.count_below.ensures.count).0

pub loop-key-preserved : goal.loop-key-preserved
loop-key-preserved c =
    let gives = c.into_iter-key-iterator.ensures.into_iter_gives in record {
      keys = c.loop-key.invariant.keys;
      cells =
          c.remove.ensures.others
          ∙ (next c.ranges-2.ensures.keys (are_of c.self.invariant c.self.view_is) c.args.keys.now c.in_ok-gone.gone c.loop-key.self-inside.keys gives.1 c.in_ok-gone.ensures (c.loop-key.invariant.keys ∙ c.in_ok-remove_all.ensures.ok) c.loop-key.yielded c.in-Some.key c.next.new.self
          (yielded_next c.loop-key.yielded gives c.loop-key.yielded_by c.in-Some.ensures.steps) (joined c.loop-key.self-inside.cells) c.count_below.result c.loop-key.invariant.cells c.count_below.ensures.count).1;
    }

pub invariant_of-self-in-None : goal.invariant_of-self-in-None
invariant_of-self-in-None c =
    let all = yielded_all c.loop-key.yielded c.into_iter-key-iterator.ensures.into_iter_gives c.loop-key.yielded_by c.in-None.ensures.steps.0 in
    counted
    (left (are_of c.self.invariant c.self.view_is) c.args.keys.now c.in_ok-gone.gone c.loop-key.self-inside.keys (joined c.loop-key.self-inside.cells) c.in_ok-gone.ensures (c.loop-key.invariant.keys ∙ c.in_ok-remove_all.ensures.ok)
    (c.loop-key.invariant.cells ∙ ap (λ (ks : List ℕ). cells_of (left_entries ks c.args.self.now)) all))

pub returns-clause-ok : goal.returns-clause-ok
returns-clause-ok c =
    let all = yielded_all c.loop-key.yielded c.into_iter-key-iterator.ensures.into_iter_gives c.loop-key.yielded_by c.in-None.ensures.steps.0 in
    shown
    (left (are_of c.self.invariant c.self.view_is) c.args.keys.now c.in_ok-gone.gone c.loop-key.self-inside.keys (joined c.loop-key.self-inside.cells) c.in_ok-gone.ensures (c.loop-key.invariant.keys ∙ c.in_ok-remove_all.ensures.ok)
    (c.loop-key.invariant.cells ∙ ap (λ (ks : List ℕ). cells_of (left_entries ks c.args.self.now)) all))
