-- The words and numbers by which the records of faults tell a kind, a rule or a node's fault.
use Rattle.std.{specs.Prelude.{ℕ, List, [], ◌∷◌, codes}, specs.Fmt.decimal}
use Rattle.feed_reader.specs.declared.fault.TextKind.{TextKind}
use Rattle.feed_reader.specs.declared.fault.TextKind.TheVariants as texts
use Rattle.script_lines.specs.declared.fault.ScriptKind.{ScriptKind}
use Rattle.script_lines.specs.declared.fault.ScriptKind.TheVariants as scripts
use Rattle.tick_model.{specs.declared.table.NodeFault.NodeFault, specs.declared.update.FeedRule.FeedRule, specs.declared.update.UpdateFault.UpdateFault}
use Rattle.tick_model.specs.declared.table.NodeFault.TheVariants as nodes
use Rattle.tick_model.specs.declared.update.FeedRule.TheVariants as rules
use Rattle.tick_model.specs.declared.update.UpdateFault.TheVariants as updates

-- why a line of a script is refused
abbrev pub script_word : ScriptKind → List ℕ
script_word scripts.NotUtf8 = codes "not-utf8"
script_word scripts.TooLong = codes "too-long"
script_word scripts.BadLine = codes "bad-line"
script_word scripts.UnknownName = codes "unknown-name"
script_word scripts.TakenName = codes "taken-name"
script_word scripts.UnknownColumn = codes "unknown-column"
script_word scripts.TakenColumn = codes "taken-column"
script_word scripts.WrongKind = codes "wrong-kind"
script_word scripts.NumberRange = codes "number-range"
script_word scripts.TooManyNodes = codes "too-many-nodes"
script_word scripts.TooManyColumns = codes "too-many-columns"
script_word scripts.KeySpace = codes "key-space"
script_word scripts.TooWide = codes "too-wide"

-- why a record of a table file or of a feed is refused
abbrev pub text_word : TextKind → List ℕ
text_word texts.Header = codes "header"
text_word texts.BadTag = codes "bad-tag"
text_word texts.FieldCount = codes "field-count"
text_word texts.BadNumber = codes "bad-number"
text_word texts.UnknownTable = codes "unknown-table"
text_word texts.OutOfOrder = codes "out-of-order"
text_word texts.NotUtf8 = codes "not-utf8"
text_word texts.Unfinished = codes "unfinished"
text_word texts.TooLong = codes "too-long"

-- the rule that a block breaks, with its numbers
abbrev pub update_fields : UpdateFault → List (List ℕ)
update_fields (updates.RemovedAbsent key) = codes "removed-absent" ∷ decimal key ∷ []
update_fields (updates.ShiftBreaks first second) = codes "shift-breaks" ∷ decimal first ∷ decimal second ∷ []
update_fields (updates.AddedTaken key) = codes "added-taken" ∷ decimal key ∷ []
update_fields (updates.ModifiedAbsent key) = codes "modified-absent" ∷ decimal key ∷ []
update_fields (updates.ModifiedAdded key) = codes "modified-added" ∷ decimal key ∷ []
update_fields updates.Memory = []

abbrev pub rule_fields : FeedRule → List (List ℕ)
rule_fields (rules.Update fault) = update_fields fault
rule_fields (rules.TooManyRows rows) = codes "too-many-rows" ∷ decimal rows ∷ []

-- why a node has no table, with its numbers
abbrev pub node_fields : NodeFault → List (List ℕ)
node_fields (nodes.DuplicateRight left first second) = codes "duplicate-right" ∷ decimal left ∷ decimal first ∷ decimal second ∷ []
node_fields (nodes.TooManyRows rows) = codes "too-many-rows" ∷ decimal rows ∷ []
