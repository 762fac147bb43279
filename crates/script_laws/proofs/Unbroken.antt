-- A node that breaks no rule.
use Rattle.std.proofs.Common.{◌≡◌, refl, Bool, true, false, ℕ, ◌^◌, ◌<◌, ◌≤◌, List, length, map, Option, Some, None}
use Rattle.std.{specs.Prelude.{nat_le, nat_lt, slice_index}, proofs.lemmas.Bool.{leb-false, ltb-false}}
use Rattle.tick_model.{specs.declared.plan.ColumnSpec.ColumnSpec, specs.declared.plan.Node.Node, specs.Names.{is_one_of, are_distinct}, specs.Plans.key_bounds, specs.Operators.bound_of}
use Rattle.script_lines.specs.declared.fault.ScriptKind.{ScriptKind}
use Rattle.script_reader.{specs.Checks.{broken, or_broken, Draft, names_of}, proofs.Placing.first_of}
use Rattle.script_laws.proofs.Reading.{Holds, done}

record AreUnbroken (taken distinct kinds_fit rows_fit many_columns many_nodes no_room : Bool) : Type 0 where
  pub new : taken ≡ false
  pub apart : distinct ≡ true
  pub kinds : kinds_fit ≡ true
  pub rows : rows_fit ≡ true
  pub columns : many_columns ≡ false
  pub nodes : many_nodes ≡ false
  pub room : no_room ≡ false

none_of : (a b c d e f g : Bool) → first_of a b c d e f g ≡ None → AreUnbroken a b c d e f g
none_of true b c d e f g h = absurd (cc)
none_of false false c d e f g h = absurd (cc)
none_of false true false d e f g h = absurd (cc)
none_of false true true false e f g h = absurd (cc)
none_of false true true true true f g h = absurd (cc)
none_of false true true true false true g h = absurd (cc)
none_of false true true true false false true h = absurd (cc)
none_of false true true true false false false h = record { new = refl; apart = refl; kinds = refl; rows = refl; columns = refl; nodes = refl; room = refl }

pub record IsUnbroken (nodes : List Node) (name : List ℕ) (draft : Draft) : Type 0 where
  pub new : is_one_of (names_of nodes) name ≡ false
  pub apart : are_distinct (map (λ column. column.name) draft.columns) ≡ true
  pub kinds : draft.kinds_fit ≡ true
  pub rows : draft.rows_fit ≡ true
  pub columns : length draft.columns ≤ 32
  pub few : length nodes < 256
  pub room : bound_of draft.op (slice_index (key_bounds nodes)) < 2 ^ 62

pub unbroken : (nodes : List Node) (name : List ℕ) (draft : Draft) → broken nodes name draft ≡ None → IsUnbroken nodes name draft
unbroken nodes name draft h =
    let parts = none_of (is_one_of (names_of nodes) name) (are_distinct (map (λ (column : ColumnSpec). column.name) draft.columns)) draft.kinds_fit draft.rows_fit (nat_lt 32 (length draft.columns)) (nat_le 256 (length nodes))
    (nat_le (2 ^ 62) (bound_of draft.op (slice_index (key_bounds nodes)))) h in
    record {
      new = parts.new;
      apart = parts.apart;
      kinds = parts.kinds;
      rows = parts.rows;
      columns = ltb-false 32 (length draft.columns) parts.columns;
      few = leb-false 256 (length nodes) parts.nodes;
      room = leb-false (2 ^ 62) (bound_of draft.op (slice_index (key_bounds nodes))) parts.room;
    }

pub where_unbroken : {X : Type 0} {P : X → Type 0} (rule : Option ScriptKind) (x : X) → (rule ≡ None → P x) → Holds P (or_broken rule x)
where_unbroken None x holds = done (holds refl)
where_unbroken (Some kind) x holds = record { holds = tt }
