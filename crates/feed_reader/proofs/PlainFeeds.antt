-- A feed says the same of a plan wherever the plan's formulas lie.
use Rattle.std.proofs.Common.{◌≡◌, ℕ, ◌+◌, Bool, true, false, List, [], ◌∷◌, map, cond, eqb, ltb, length, Option, Some, None, Err, refl, ap, ◌∙◌}
use mathlib.Core.Path.{fun_ext}
use Rattle.std.{specs.Prelude.{◌&&◌, not, position, slice_index_or}, specs.List.position_or_len, proofs.lemmas.List.length-map}
use Rattle.tick_model.{specs.declared.plan.ColumnSpec.ColumnSpec, specs.declared.plan.Node.Node, specs.declared.plan.Op.Op, specs.declared.plan.Op.TheVariants.{Source, Keep, View}, specs.declared.plan.Plan.Plan, specs.Evaluation.is_source, specs.Names.same_name, specs.Plans.columns_at}
use Rattle.script_reader.{specs.Plain.{plain_op, plain_node, plain_plan}, proofs.Plainly.tables_plain}
use Rattle.feed_reader.{specs.declared.fault.TextKind.TheVariants.{FieldCount, NotUtf8, TooLong}, specs.declared.place.BlockPart.BlockPart, specs.declared.place.BlockState.BlockState, specs.declared.place.BlockState.TheVariants.Outside, specs.declared.place.Tag.Tag, specs.Answers.read_on, specs.Entries.{is_named, known_block, block_entry, added, modified, row_entry, part_entry, tagged_entry, entry_of, tag_of}, specs.Feeds.{steps_after, entries_in, feed_with, feed_of}, specs.Places.{Opened, opened, place_after}, specs.Records.{are_texts, field_of, records_of}, specs.Said.Entry}
use Rattle.feed_reader.specs.declared.place.BlockPart.TheVariants as Parts
use Rattle.feed_reader.specs.declared.place.Tag.TheVariants as Tags

pub source_plain : (node : Node) → is_source (plain_node node) ≡ is_source node
source_plain node = of node.op
  where
    of : (op : Op) → elim (plain_op op) as (λ _. Bool) [ Source ↦ true | _ ↦ false ] ≡ elim op as (λ _. Bool) [ Source ↦ true | _ ↦ false ]
    of (Keep input test) = refl
    of (View input exprs) = refl
    of op = refl

-- where the source of a name stands
place_plain : (name : List ℕ) (nodes : List Node) → position_or_len (is_named name) (map plain_node nodes) ≡ position_or_len (is_named name) nodes
place_plain name [] = refl
place_plain name (node ∷ nodes) =
    ap (λ b. cond (not (b && same_name name node.name)) (1 + position_or_len (is_named name) (map plain_node nodes)) 0) (source_plain node)
    ∙ ap (λ n. cond (not (is_named name node)) (1 + n) 0) (place_plain name nodes)

named_plain : (name : List ℕ) (nodes : List Node) → position (is_named name) (map plain_node nodes) ≡ position (is_named name) nodes
named_plain name nodes =
    ap (λ place. cond (ltb place (length (map plain_node nodes))) (Some place) None) (place_plain name nodes)
    ∙ ap (λ count. cond (ltb (position_or_len (is_named name) nodes) count) (Some (position_or_len (is_named name) nodes)) None) (length-map nodes plain_node)

columns_plain : (nodes : List Node) → columns_at (map plain_node nodes) ≡ columns_at nodes
columns_plain nodes = let at : List (List ColumnSpec) → ℕ → List ColumnSpec = λ tables node. slice_index_or tables node [] in ap at (tables_plain nodes)

block_plain : (plan : Plan) (fields : List (List ℕ)) → block_entry (plain_plan plan) fields ≡ block_entry plan fields
block_plain plan fields =
    ap (λ (found : Option ℕ). cond (eqb (length fields) 2) (known_block found) (Err FieldCount)) (named_plain (field_of fields 1) plan.nodes)

part_plain : (plan : Plan) (at : Option Opened) (part : BlockPart) (fields : List (List ℕ)) → part_entry (plain_plan plan) at part fields ≡ part_entry plan at part fields
part_plain plan None part fields = refl
part_plain plan (Some (table, last)) Parts.Removed fields = refl
part_plain plan (Some (table, last)) Parts.Shifts fields = refl
part_plain plan (Some (table, last)) Parts.Added fields = ap (λ (of : ℕ → List ColumnSpec). added (row_entry (of table) last fields)) (columns_plain plan.nodes)
part_plain plan (Some (table, last)) Parts.Modified fields = ap (λ (of : ℕ → List ColumnSpec). modified (row_entry (of table) last fields)) (columns_plain plan.nodes)

tagged_plain : (plan : Plan) (place : BlockState) (steps : ℕ) (tag : Option Tag) (fields : List (List ℕ)) → tagged_entry (plain_plan plan) place steps tag fields ≡ tagged_entry plan place steps tag fields
tagged_plain plan place steps None fields = refl
tagged_plain plan place steps (Some Tags.Block) fields = block_plain plan fields
tagged_plain plan place steps (Some (Tags.Of part)) fields = part_plain plan (opened place part) part fields
tagged_plain plan place steps (Some Tags.End) fields = refl

entry_plain : (plan : Plan) (place : BlockState) (steps : ℕ) (fields : List (List ℕ)) → entry_of (plain_plan plan) place steps fields ≡ entry_of plan place steps fields
entry_plain plan place steps fields = ap (λ told. cond (are_texts fields) told (Err NotUtf8)) (tagged_plain plan place steps (tag_of (field_of fields 0)) fields)

entries_plain : (plan : Plan) (place : BlockState) (steps read : ℕ) (records : List (List (List ℕ))) → entries_in (plain_plan plan) place steps read records ≡ entries_in plan place steps read records
entries_plain plan place steps read [] = refl
entries_plain plan place steps read (fields ∷ others) =
    ap (λ told. read_on (read + 1) told (λ entry. entries_in (plain_plan plan) (place_after place entry) (steps_after steps entry) (read + 1) others)) (entry_plain plan place steps fields)
    ∙ ap (read_on (read + 1) (entry_of plan place steps fields)) (fun_ext (λ (entry : Entry). entries_plain plan (place_after place entry) (steps_after steps entry) (read + 1) others))

pub feed_plain : (plan : Plan) (bytes : List ℕ) → feed_of (plain_plan plan) bytes ≡ feed_of plan bytes
feed_plain plan bytes = ap (λ told. cond (ltb 67108864 (length bytes)) (Err (0, TooLong)) (feed_with told)) (entries_plain plan Outside 0 0 (records_of bytes))
