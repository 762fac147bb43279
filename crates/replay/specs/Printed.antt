-- The nodes that are printed, and the published tables.
--     printed_of run node      a node with its name and its columns
--     published_of run table      the node of a published table
use Rattle.std.specs.Prelude.{ℕ}
use Rattle.tick_model.{specs.declared.feed.Run.Run, specs.declared.plan.Published.Published, specs.Texts.{columns_at, name_at}}
use Rattle.replay.specs.declared.printed.PrintedNode.{PrintedNode}

abbrev pub printed_of : Run → ℕ → PrintedNode
printed_of run node = record { node = node; shown = record { name = name_at run node; columns = columns_at run node } }

abbrev pub published_of : Run → Published → PrintedNode
published_of run table = printed_of run table.node
