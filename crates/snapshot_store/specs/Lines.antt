-- What a run publishes, and where a bank keeps it.
--     count run      how many tables are published
--     size run p      the words that a bank keeps for the published table p
--     total run      the words of a bank
--     spot run bank p i      the word at which a bank keeps the word i of the table p
--     line_of run step p      the words of the table p at a step
--     IsWhole run step p      they are whole rows
use Rattle.std.specs.Prelude.{◌≡◌, ℕ, zero, suc, ◌+◌, ◌*◌, List, length, map, slice_index}
use Rattle.tick_model.{specs.declared.feed.Run.Run, specs.declared.plan.Published.Published, specs.declared.table.PlainTable.PlainTable, specs.Evaluation.table_at, specs.States.state, specs.Words.line}

-- f 0 + f 1 + .. + f (n - 1)
abbrev pub below : (ℕ → ℕ) → ℕ → ℕ
below f zero = 0
below f (suc n) = below f n + f n

-- the node, the limit of rows and the width of each published table
abbrev pub node_in : List Published → ℕ → ℕ
node_in tables p = slice_index (map (λ published. published.node) tables) p

abbrev pub limit_in : List Published → ℕ → ℕ
limit_in tables p = slice_index (map (λ published. published.limit) tables) p

abbrev pub width_in : List Published → ℕ → ℕ
width_in tables p = slice_index (map (λ published. published.width) tables) p

-- its words in a bank: the number of rows and, up to the limit, the key and the cells of each row
abbrev pub size_in : List Published → ℕ → ℕ
size_in tables p = 1 + limit_in tables p * (1 + width_in tables p)

-- the first word of a table in a bank, and the words of a bank
abbrev pub start_in : List Published → ℕ → ℕ
start_in tables p = below (size_in tables) p

abbrev pub total_in : List Published → ℕ
total_in tables = start_in tables (length tables)

-- the same of a run
abbrev pub count : Run → ℕ
count run = length run.plan.published

abbrev pub limit : Run → ℕ → ℕ
limit run p = limit_in run.plan.published p

abbrev pub width : Run → ℕ → ℕ
width run p = width_in run.plan.published p

abbrev pub size : Run → ℕ → ℕ
size run p = size_in run.plan.published p

abbrev pub total : Run → ℕ
total run = below (size run) (count run)

-- two words stand before the banks
unfoldable pub spot : Run → ℕ → ℕ → ℕ → ℕ
spot run bank p i = 2 + (bank * total run + (below (size run) p + i))

-- the published table p at a step
abbrev pub published_table : Run → ℕ → ℕ → PlainTable
published_table run step p = table_at (state run step) (node_in run.plan.published p)

-- its words; most proofs need no more of them than their name
unfoldable pub line_of : Run → ℕ → ℕ → List ℕ
line_of run step p = line run step p

abbrev pub IsWhole : Run → ℕ → ℕ → Type 0
IsWhole run step p = length (line_of run step p) ≡ 1 + slice_index (line_of run step p) 0 * (1 + width run p)
