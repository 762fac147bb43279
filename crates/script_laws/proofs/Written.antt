-- The texts and numbers of the formulas of a script so far, and how many columns its nodes have.
use Rattle.std.proofs.Common.{◌≡◌, refl, true, ℕ, ◌≤◌, List, [], ◌∷◌, length}
use Rattle.std.specs.List.{AllByRecursion}
use Rattle.key_lists.proofs.Every.{every_weaker, every-append}
use Rattle.tick_model.{specs.declared.plan.Node.Node, specs.declared.plan.Op.Op, specs.Numbers.{HasOpNumbers, HasPlanNumbers}}
use Rattle.tick_model.specs.declared.plan.Op.TheVariants as ops
use Rattle.script_reader.{specs.declared.script.Script.Script, specs.declared.script.SourceFile.SourceFile, specs.Checks.{with_node, Draft}, specs.Scripts.nothing}
use Rattle.script_laws.{specs.Literals.{has_op_literals, NamesLiterals}, proofs.Texts.{AreWritten, Grow, test_literals-grown, all_literals-grown}}

-- a draft over texts
pub record IsWrittenDraft (before : List (List ℕ)) (draft : Draft) : Type 0 where
  pub grown : Grow before draft.literals
  pub literals : has_op_literals draft.literals draft.op ≡ true
  pub numbers : HasOpNumbers draft.op

-- an operator among more texts
op_literals-grown : (before after : List (List ℕ)) → Grow before after → (op : Op) → has_op_literals before op ≡ true → has_op_literals after op ≡ true
op_literals-grown before after grow (ops.Keep input test) h = test_literals-grown before after grow test h
op_literals-grown before after grow (ops.View input exprs) h = all_literals-grown before after grow exprs h
op_literals-grown before after grow op h = refl

-- a script so far
pub record IsWrittenScript (script : Script) : Type 0 where
  pub texts : AreWritten script.literals
  pub literals : NamesLiterals script
  pub numbers : HasPlanNumbers script.plan
  pub columns : AllByRecursion (λ node. length node.columns ≤ 32) script.plan.nodes

pub nothing_written : IsWrittenScript nothing
nothing_written = record { texts = tt; literals = tt; numbers = tt; columns = tt }

pub one_written : (script : Script) (name : List ℕ) (draft : Draft) (files : List SourceFile) → IsWrittenScript script → IsWrittenDraft script.literals draft → length draft.columns ≤ 32 → IsWrittenScript (with_node script (record { name = name; columns = draft.columns; op = draft.op }) draft.literals files)
one_written script name draft files so_far new narrow =
    let nodes : List Node = script.plan.nodes in
    let node : Node = record { name = name; columns = draft.columns; op = draft.op } in
    record {
      texts = new.grown.written;
      literals = every-append (λ node. has_op_literals draft.literals node.op ≡ true) nodes (node ∷ [])
          (every_weaker (λ node. has_op_literals script.literals node.op ≡ true) (λ node. has_op_literals draft.literals node.op ≡ true) nodes (λ node h. op_literals-grown script.literals draft.literals new.grown node.op h) so_far.literals)
          (new.literals, tt);
      numbers = every-append (λ node. HasOpNumbers node.op) nodes (node ∷ []) so_far.numbers (new.numbers, tt);
      columns = every-append (λ node. length node.columns ≤ 32) nodes (node ∷ []) so_far.columns (narrow, tt);
    }
