use Rattle.std.proofs.Common.{◌≡◌, ℕ, ◌<◌, ◌++◌, ◌∷◌, [], ◌∙◌, List, length, take, get_or, ap, sym, subst, arith}
use mathlib.Core.Logic.{dite}
use native.Mathlib.Decide.{ℕ_discrete}
use Rattle.std.{proofs.Math.ListN.get_or-append, proofs.Math.Seq.get_or-append_seam}
use Rattle.tick_model.{specs.declared.plan.Published.Published, specs.Plans.table_words}
use Rattle.snapshot_store.{specs.Lines.{size_in, start_in}, specs.Models.IsLaid, proofs.Published.{ends_within, size_at, start_more, take_more, taken, total_is}}
use Rattle.snapshot_store.proofs.layout.Layout.of.Goals as goal

pub overflow_add-bank : goal.overflow_add-bank
overflow_add-bank c =
    let inside : c.loop-table.table-index < length c.args.published.now = subst (λ (z : List Published). c.loop-table.table-index < length z) c.as_slice-published.ensures c.loop-table-test.true in
    let same : table_words (get_or c.as_slice-published.result.now c.loop-table.table-index record { node = 0; width = 0; limit = 0 }) ≡ table_words (get_or c.args.published.now c.loop-table.table-index record { node = 0; width = 0; limit = 0 }) =
    ap (λ (z : List Published). table_words (get_or z c.loop-table.table-index record { node = 0; width = 0; limit = 0 })) c.as_slice-published.ensures in
    let end = ends_within c.args.published.now c.loop-table.table-index record { node = 0; width = 0; limit = 0 } c.requires inside in
    let all = c.loop-table.invariant.all in omega arith

pub loop-table-preserved : goal.loop-table-preserved
loop-table-preserved c =
    let index = c.loop-table.table-index in
    let tables = c.args.published.now in
    let inside : c.loop-table.table-index < length c.args.published.now = subst (λ (z : List Published). c.loop-table.table-index < length z) c.as_slice-published.ensures c.loop-table-test.true in
    let here : get_or c.as_slice-published.result.now index record { node = 0; width = 0; limit = 0 } ≡ get_or tables index record { node = 0; width = 0; limit = 0 } = ap (λ (z : List Published). get_or z index record { node = 0; width = 0; limit = 0 }) c.as_slice-published.ensures in
    let words : table_words (get_or c.as_slice-published.result.now index record { node = 0; width = 0; limit = 0 }) ≡ size_in tables index = ap table_words here ∙ sym (size_at tables index record { node = 0; width = 0; limit = 0 } inside) in
    let old = c.loop-table.invariant in
    let table = c.push_reserved.ensures in
    let start = c.push_reserved-in-loop-table.ensures in
    record {
      tables = table.items ∙ (ap (λ (z : List Published). z ++ get_or c.as_slice-published.result.now index record { node = 0; width = 0; limit = 0 } ∷ []) old.tables ∙ (ap (λ (t : Published). take index tables ++ t ∷ []) here ∙ take_more tables index record { node = 0; width = 0; limit = 0 } inside));
      starts = (let l = start.len in let s = old.starts in omega arith);
      rooms = ((let r = old.rooms.0 in let k = table.capacity in omega arith), (let r = old.rooms.1 in let k = start.capacity in omega arith));
      all = (let a = old.all in let m = start_more tables index in omega arith);
      each = λ p h. dite (ℕ_discrete p index)
          (λ e. ap (λ (z : List ℕ). get_or z p 0) start.items ∙ (ap (λ (k : ℕ). get_or (c.loop-table.starts.items ++ c.loop-table.bank ∷ []) k 0) (e ∙ sym old.starts)
          ∙ (get_or-append_seam c.loop-table.starts.items c.loop-table.bank [] 0 ∙ (old.all ∙ ap (start_in tables) (sym e)))))
          (λ other. ap (λ (z : List ℕ). get_or z p 0) start.items ∙ (get_or-append c.loop-table.starts.items (c.loop-table.bank ∷ []) 0 p (let s = old.starts in omega arith) ∙ old.each p (omega arith)));
      largest = λ p h. let most = c.max-largest.ensures in dite (ℕ_discrete p index)
          (λ e. let s : size_in tables p ≡ size_in tables index = ap (size_in tables) e in omega arith)
          (λ other. let o = old.largest p (omega arith) in omega arith);
    }

pub invariant_of-result : goal.invariant_of-result
invariant_of-result c =
    let old = c.loop-table.invariant in
    let long : length c.as_slice-published.result.now ≡ length c.args.published.now = ap length c.as_slice-published.ensures in
    let end : c.loop-table.table-index ≡ length c.args.published.now = (let t = c.loop-table-test.false in let e = c.loop-table.auto.table-index-end in omega arith) in
    subst (λ (z : List Published). IsLaid z c.loop-table.starts.items c.loop-table.bank c.loop-table.largest) (sym (old.tables ∙ taken c.args.published.now c.loop-table.table-index end)) record {
      as_many = old.starts ∙ end;
      each = λ p h. old.each p (omega arith);
      all = old.all ∙ ap (start_in c.args.published.now) end;
      small = (let all = old.all ∙ ap (start_in c.args.published.now) end in let few = c.requires in let is = total_is c.args.published.now in omega arith);
      most = λ p h. old.largest p (omega arith);
    }
