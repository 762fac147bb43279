-- What a line says, without where its parts lie in memory. Definitions make such lines, and contracts compare by them.
--     bare f, bare_test t, bare_making m, bare_line l      a formula, a test, a node, a line that lie nowhere
--     neg_of a, add_of a b, sub_of a b, mul_of a b, and_of a b, or_of a b, not_of a      formulas and tests that lie nowhere
use Rattle.std.{specs.Prelude.{map, Box}, specs.Ptr.null_ptr, specs.declared.alloc.Global.Global}
use Rattle.script_lines.{specs.declared.line.Computed.Computed, specs.declared.line.Formula.{Formula, Column, Number as Digits, Text, Null as Nothing, Neg' as Minus', Add' as Plus', Sub' as Less', Mul' as Times'}, specs.declared.line.Line.Line, specs.declared.line.Line.TheVariants.Node as NodeLine, specs.declared.making.Making.Making, specs.declared.making.Making.TheVariants.{Keep as KeepBy, View as ViewBy}, specs.declared.line.Test.{Test, Compare as Compares, And' as Both', Or' as Either', Not' as Never'}}

-- where nothing lies
abbrev pub nowhere : Box (Unit {0}) Global
nowhere = record { ptr = null_ptr; alloc = record { memory = record { seal = tt } }; value = tt }

abbrev pub bare : Formula → Formula
bare (Column name) = Column name
bare (Digits n) = Digits n
bare (Text text) = Text text
bare Nothing = Nothing
bare (Minus' p a) = Minus' nowhere (bare a)
bare (Plus' p a q b) = Plus' nowhere (bare a) nowhere (bare b)
bare (Less' p a q b) = Less' nowhere (bare a) nowhere (bare b)
bare (Times' p a q b) = Times' nowhere (bare a) nowhere (bare b)

abbrev pub bare_test : Test → Test
bare_test (Compares how a b) = Compares how (bare a) (bare b)
bare_test (Both' p a q b) = Both' nowhere (bare_test a) nowhere (bare_test b)
bare_test (Either' p a q b) = Either' nowhere (bare_test a) nowhere (bare_test b)
bare_test (Never' p a) = Never' nowhere (bare_test a)

abbrev pub bare_column : Computed → Computed
bare_column column = record { name = column.name; formula = bare column.formula }

abbrev pub bare_making : Making → Making
bare_making (KeepBy input test) = KeepBy input (bare_test test)
bare_making (ViewBy input columns) = ViewBy input (map bare_column columns)
bare_making making = making

abbrev pub bare_line : Line → Line
bare_line (NodeLine name making) = NodeLine name (bare_making making)
bare_line line = line

abbrev pub neg_of : Formula → Formula
neg_of a = Minus' nowhere a

abbrev pub add_of : Formula → Formula → Formula
add_of a b = Plus' nowhere a nowhere b

abbrev pub sub_of : Formula → Formula → Formula
sub_of a b = Less' nowhere a nowhere b

abbrev pub mul_of : Formula → Formula → Formula
mul_of a b = Times' nowhere a nowhere b

abbrev pub and_of : Test → Test → Test
and_of a b = Both' nowhere a nowhere b

abbrev pub or_of : Test → Test → Test
or_of a b = Either' nowhere a nowhere b

abbrev pub not_of : Test → Test
not_of a = Never' nowhere a
