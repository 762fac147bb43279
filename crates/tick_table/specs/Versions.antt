-- The two versions of a ticking table.
--     table_in version table      the plain table of this version
--     alone_in version update      the keys of the rows that this version alone has
use Rattle.std.specs.Prelude.{ℕ, List}
use Rattle.tick_model.{specs.declared.table.PlainTable.PlainTable, specs.Updates.Update}
use Rattle.tick_table.{specs.declared.version.Version.Version, specs.declared.version.Version.TheVariants.{Before, Now}, specs.Ticking.Ticking}

abbrev pub table_in : Version → Ticking → PlainTable
table_in Before table = table.old
table_in Now table = table.new

abbrev pub alone_in : Version → Update → List ℕ
alone_in Before update = update.removed
alone_in Now update = update.added
