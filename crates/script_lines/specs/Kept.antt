-- The rules that the parts of a line keep by themselves.
--     FormulaKeeps formula, TestKeeps test      names are names, numbers are of 64 bits, and texts are not empty
--     MembersKeep Keeps members      one member or more, and each keeps its rules
use Rattle.std.{specs.Prelude.{◌≡◌, ℕ, true, false, List, FitsSigned}, specs.List.AllByRecursion, specs.Int.w64}
use Rattle.tick_model.{specs.Changes.is_none, specs.Names.is_name, specs.Columns.some_of}
use Rattle.script_lines.{specs.declared.line.Computed.Computed, specs.declared.line.Declared.Declared, specs.declared.line.Formula.{Formula, Column, Number, Text, Null, Neg', Add', Sub', Mul'}, specs.declared.line.AggColumn.AggColumn, specs.declared.line.Pair.Pair, specs.declared.line.Test.{Test, Compare, And', Or', Not'}}

abbrev pub IsNamed : List ℕ → Type 0
IsNamed name = is_name name ≡ true

abbrev pub FormulaKeeps : Formula → Type 0
FormulaKeeps (Column name) = IsNamed name
FormulaKeeps (Number n) = FitsSigned w64 n
FormulaKeeps (Text text) = is_none text ≡ false
FormulaKeeps Null = Unit {0}
FormulaKeeps (Neg' p a) = FormulaKeeps a
FormulaKeeps (Add' p a q b) = FormulaKeeps a × FormulaKeeps b
FormulaKeeps (Sub' p a q b) = FormulaKeeps a × FormulaKeeps b
FormulaKeeps (Mul' p a q b) = FormulaKeeps a × FormulaKeeps b

abbrev pub TestKeeps : Test → Type 0
TestKeeps (Compare how a b) = FormulaKeeps a × FormulaKeeps b
TestKeeps (And' p a q b) = TestKeeps a × TestKeeps b
TestKeeps (Or' p a q b) = TestKeeps a × TestKeeps b
TestKeeps (Not' p a) = TestKeeps a

abbrev pub DeclaredKeeps : Declared → Type 0
DeclaredKeeps declared = IsNamed declared.name

abbrev pub ComputedKeeps : Computed → Type 0
ComputedKeeps computed = IsNamed computed.name × FormulaKeeps computed.formula

abbrev pub PairKeeps : Pair → Type 0
PairKeeps pair = IsNamed pair.first × IsNamed pair.second

abbrev pub GatheredKeeps : AggColumn → Type 0
GatheredKeeps gathered = IsNamed gathered.name

abbrev pub MembersKeep : {X : Type 0} → (X → Type 0) → List X → Type 0
MembersKeep Keeps members = (some_of members ≡ true) × AllByRecursion Keeps members
